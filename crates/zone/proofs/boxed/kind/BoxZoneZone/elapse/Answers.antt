use Rattle.std.proofs.Common.{◌≡◌, ap, rules, ◌∙◌}
use Rattle.zone.specs.BoxRows.{proper, elapsed_row}
use Rattle.zone.specs.BoxRowsLemmas.{proper_elapsed}
use Rattle.zone.specs.Ranges.{elapsed}
use Rattle.zone.proofs.boxed.kind.BoxZoneZone.elapse.Goals as goal

row : (c : goal.After-changed) → c.changed.result ≡ elapsed_row c.args.self.now.row
row c = c.changed.ensures (λ x. elapsed) (λ x g h e. search rules)

pub of-requires : goal.of-requires
of-requires c = ap proper (row c) ∙ proper_elapsed c.args.self.now.row c.args.self.now.fitting
