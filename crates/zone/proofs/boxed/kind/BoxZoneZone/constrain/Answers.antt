use Rattle.std.proofs.Common.{◌≡◌, false, sym, ap, rules, ◌∙◌}
use Rattle.zone.specs.Bounds.{bound_of}
use Rattle.zone.specs.BoxRows.{proper, tightened_row}
use Rattle.zone.specs.BoxRowsLemmas.{proper_tightened}
use Rattle.zone.specs.InRange.{judged_range, range_i, range_j, range_size}
use Rattle.zone.specs.Ranges.{tightened}
use Rattle.zone.proofs.boxed.kind.BoxZoneZone.constrain.Goals as goal

row : (c : goal.After-changed-row) → c.changed-row.result ≡ tightened_row c.args.self.now.row c.args.constraint.i c.args.constraint.j (bound_of c.args.constraint)
row c = c.changed-row.ensures (tightened c.args.constraint.i c.args.constraint.j (bound_of c.args.constraint)) (λ x g h e. search rules)

pub of-requires : goal.of-requires
of-requires c =
    let h = judged_range c.args.self.now.row.clocks false c.args.constraint _ (sym c.judge.ensures ∙ c.in_ok-judge.was) in
    ap proper (row c) ∙ proper_tightened c.args.self.now.row c.args.self.now.fitting c.args.constraint.i c.args.constraint.j (bound_of c.args.constraint) (range_i _ c.args.constraint h) (range_j _ c.args.constraint h) (range_size _ c.args.constraint h)
