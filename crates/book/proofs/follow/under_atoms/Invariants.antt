use Rattle.std.proofs.Common.{◌≡◌, drop}
use Rattle.book.specs.Following.{limited}
use Rattle.book.proofs.follow.under_atoms.Given as goal

abbrev pub invariant-loop-atom : goal.invariant-loop-atom
invariant-loop-atom g l = limited g.Z.Zone.calls l.under (drop l.atom-index l.atoms) ≡ limited g.Z.Zone.calls l.initial.under l.atoms
