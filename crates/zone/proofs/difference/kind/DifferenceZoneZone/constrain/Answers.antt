use Rattle.std.proofs.Common.{sym, subst}
use Rattle.zone.specs.DifferencePaths.{Tightens}
use Rattle.zone.proofs.Promises.{granted_tightens}
use Rattle.zone.proofs.difference.kind.DifferenceZoneZone.constrain.Goals as goal

pub returns-clause-paths : goal.returns-clause-paths
returns-clause-paths c h f =
    subst (Tightens c.args.self.now c.args.constraint) (sym c.tightened.ensures) (granted_tightens c.args.self.now c.args.constraint h f)
