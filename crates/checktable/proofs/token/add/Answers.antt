use Rattle.checktable.proofs.Repeating.{repeats_more}
use Rattle.checktable.proofs.token.add.Goals as goal

pub loop-done-preserved : goal.loop-done-preserved
loop-done-preserved c =
    repeats_more _ _ _ c.args.bytes.now c.loop-done._done c.loop-done.invariant c.in_ok-extend_from_slice.ensures.items
