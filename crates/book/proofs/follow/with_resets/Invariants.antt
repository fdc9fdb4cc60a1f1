use Rattle.std.proofs.Common.{◌≡◌, drop}
use Rattle.book.specs.Following.{all_reset}
use Rattle.book.proofs.follow.with_resets.Given as goal

abbrev pub invariant-loop-clock : goal.invariant-loop-clock
invariant-loop-clock g l = all_reset g.Z.Zone.calls l.after (drop l.clock-index l.clocks) ≡ all_reset g.Z.Zone.calls l.initial.after l.clocks
