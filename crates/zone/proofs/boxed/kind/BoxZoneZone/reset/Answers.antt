use Rattle.std.proofs.Common.{◌≡◌, sym, ap, rules, ◌∙◌}
use Rattle.zone.specs.BoxRows.{proper, reset_row}
use Rattle.zone.specs.BoxRowsLemmas.{proper_reset}
use Rattle.zone.specs.InRange.{judged_below}
use Rattle.zone.specs.Ranges.{reset}
use Rattle.zone.proofs.boxed.kind.BoxZoneZone.reset.Goals as goal

row : (c : goal.After-changed-row) → c.changed-row.result ≡ reset_row c.args.self.now.row c.args.clock
row c = c.changed-row.ensures (reset c.args.clock) (λ x g h e. search rules)

pub of-requires : goal.of-requires
of-requires c =
    ap proper (row c) ∙ proper_reset c.args.self.now.row c.args.self.now.fitting c.args.clock (judged_below _ c.args.clock _ (sym c.judge_clock.ensures ∙ c.in_ok-judge_clock.was))
