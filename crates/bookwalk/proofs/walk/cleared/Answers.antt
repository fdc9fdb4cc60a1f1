use Rattle.std.proofs.Common.{false, ◌&&◌, slice_index_or, rules, tests}
use Rattle.bookwalk.specs.Walks.{stands}
use Rattle.zone.proofs.FromFn.{from_fn_is}
use Rattle.bookwalk.proofs.walk.cleared.Goals as goal

pub returns : goal.returns
returns c = from_fn_is _ (λ i. slice_index_or c.args.marked i false && stands c.args.places.now i false) _ 64 (λ i y q l k. search (rules, tests)) _ c.from_fn.ensures.items
