use Rattle.std.proofs.lemmas.List.Edits.{map_over_more}
use Rattle.book.specs.Marks.{unleaned}
use Rattle.book.proofs.Fronts.{front_mapped}
use Rattle.book.proofs.row.unlean_all.Goals as goal

pub loop-place-preserved : goal.loop-place-preserved
loop-place-preserved g c = rw (c.unleaned.ensures, ← c.place-item.is) (map_over_more (unleaned c.args.i) _ c.loop-place.place-items c.loop-place.place-index c.place-item.result c.loop-place-test.true c.loop-place.invariant c.place-item.is)

pub returns : goal.returns
returns g c = front_mapped (unleaned c.args.i) c.args.places.now c.min-front.result c.loop-place.place-index _ c.min-front.ensures c.loop-place-test.false c.loop-place.invariant
