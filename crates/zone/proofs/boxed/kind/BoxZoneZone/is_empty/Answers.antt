use Rattle.std.proofs.Common.{◌≡◌, not, sym, ap, ◌∙◌, rules}
use Rattle.std.proofs.lemmas.Iterator.{YieldsList-from_slice}
use Rattle.std.proofs.lemmas.Iterator.Adapters.{serves_from_places}
use Rattle.std.proofs.lemmas.Iterator.Search.{all_from_yields_List}
use Rattle.zone.specs.BoxRows.{empty_row}
use Rattle.zone.specs.BoxRowsLemmas.{proper_small}
use Rattle.zone.specs.Ranges.{inhabited}
use Rattle.zone.proofs.Inhabited.{some_held}
use Rattle.zone.proofs.boxed.kind.BoxZoneZone.is_empty.Goals as goal

pub all-requires-clause-callable : goal.all-requires-clause-callable
all-requires-clause-callable c =
    serves_from_places (YieldsList-from_slice c.args.self.now.row.ranges cc) (λ x q e. search rules) (λ x k l e. let s = proper_small c.args.self.now.row c.args.self.now.fitting k x.now x.now l e in search rules)

pub returns : goal.returns
unfolding empty_row
returns c =
    let e : not c.all.result ≡ empty_row c.args.self.now.row = ap not (all_from_yields_List inhabited _ _ _ c.all.ensures.ran (YieldsList-from_slice c.args.self.now.row.ranges cc) (λ x b q k. search rules)) in
    record { value = e; exact = λ f. some_held c.args.self.now.row c.args.self.now.fitting (sym e ∙ f) }
