use Rattle.std.proofs.Common.{◌≡◌, true, false, eqb, sym, arith, rules}
use Rattle.std.proofs.lemmas.Bool.Decides.{nat_tests}
use Rattle.std.proofs.lemmas.Iterator.{YieldsList-from_slice, YieldsList-from_zip}
use Rattle.std.proofs.lemmas.Iterator.Search.{all_from_yields_List}
use Rattle.zone.specs.BoxRows.{within_rows, empty_row}
use Rattle.zone.specs.Ranges.{contains}
use Rattle.zone.proofs.boxed.kind.BoxZoneZone.is_within.Goals as goal

pub returns-else-is_empty : goal.returns-else-is_empty
unfolding within_rows
returns-else-is_empty c =
    let h : eqb c.args.self.now.row.clocks c.args.other.now.row.clocks ≡ true = grind (arith, nat_tests) in
    let e : empty_row c.args.self.now.row ≡ false = sym c.if-is_empty.ensures.value in
    simp (h, e) (all_from_yields_List (λ p. contains p.1 p.0) c.all.new.self _ _ c.all.ensures.ran (YieldsList-from_zip (YieldsList-from_slice c.args.self.now.row.ranges cc) (YieldsList-from_slice c.args.other.now.row.ranges cc)) (λ x b q k. search rules))
