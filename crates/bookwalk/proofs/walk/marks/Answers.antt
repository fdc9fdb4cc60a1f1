use Rattle.std.proofs.Common.{true, rules, tests}
use Rattle.bookwalk.specs.Walks.{stands}
use Rattle.zone.proofs.FromFn.{from_fn_is}
use Rattle.bookwalk.proofs.walk.marks.Goals as goal

pub returns : goal.returns
returns c = from_fn_is _ (λ i. stands c.args.places.now i true) _ 64 (λ i y q l k. search (rules, tests)) _ c.from_fn.ensures.items
