use Rattle.std.proofs.Common.{◌+◌, sym, rules, ◌∙◌}
use Rattle.zone.specs.BoxRows.{range_at}
use Rattle.zone.specs.BoxRowsLemmas.{same_row, changed_is, changed_empty}
use Rattle.zone.proofs.FromFn.{from_fn_is}
use Rattle.zone.proofs.boxed.BoxZone.changed.Goals as goal

pub returns-then-is_empty : goal.returns-then-is_empty
returns-then-is_empty g c f h = sym (changed_empty f c.args.self.now.row (sym c.if-is_empty.ensures.value))

pub returns : goal.returns
returns g c f h =
    same_row _ _ _ (from_fn_is _ (λ k. f (k + 1) (range_at c.args.self.now.row.ranges k)) _ 6 (λ k b q l e. (search rules, h (k + 1) (range_at c.args.self.now.row.ranges k) b (search rules))) _ c.from_fn-ranges.ensures.items) ∙ sym (changed_is f c.args.self.now.row (sym c.if-is_empty.ensures.value))
