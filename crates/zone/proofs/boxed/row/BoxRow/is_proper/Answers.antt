use Rattle.std.proofs.Common.{◌≡◌, false, length, sym, ◌∙◌, refl, rules}
use Rattle.std.proofs.lemmas.Iterator.{YieldsList-from_range}
use Rattle.std.proofs.lemmas.Iterator.Search.{all_from_yields_List}
use Rattle.zone.specs.BoxRows.{range_at}
use Rattle.zone.specs.BoxRowsLemmas.{proper_none, proper_by_fits}
use Rattle.zone.specs.Laws.{countable}
use Rattle.zone.specs.Ranges.{fits}
use Rattle.zone.specs.Tests.{every}
use Rattle.zone.proofs.boxed.row.BoxRow.is_proper.Goals as goal

pub returns-then-is_countable : goal.returns-then-is_countable
unfolding every
returns-then-is_countable c =
    let n : length c.args.self.now.ranges ≡ 6 = search rules in
    all_from_yields_List (λ k. fits c.args.self.now.clocks k (range_at c.args.self.now.ranges k)) _ _ _ c.all.ensures.ran (YieldsList-from_range 0 6 6 refl refl) (λ x b q k. search rules) ∙ sym (proper_by_fits c.args.self.now n (sym c.if-is_countable.ensures))

pub returns-else-is_countable : goal.returns-else-is_countable
returns-else-is_countable c =
    let h : countable c.args.self.now.clocks ≡ false = sym c.if-is_countable.ensures in
    c.is_countable.ensures ∙ (h ∙ sym (proper_none c.args.self.now h))
