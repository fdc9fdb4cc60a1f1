use Rattle.std.proofs.Common.{take, ap, ◌∙◌}
use Rattle.std.proofs.lemmas.List.{take_min}
use Rattle.book.proofs.row.front.Goals as goal

pub returns-clause-first : goal.returns-clause-first
returns-clause-first g c = ap (λ n. take n c.args.places.now) c.min.ensures ∙ take_min 64 c.args.places.now
