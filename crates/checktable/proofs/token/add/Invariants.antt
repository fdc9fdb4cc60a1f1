use Rattle.std.proofs.Common.{◌≡◌, ◌++◌, vec_items}
use Rattle.std.specs.List.{repeat}
use Rattle.checktable.proofs.token.add.Given as goal

abbrev pub invariant-loop-done : goal.invariant-loop-done
invariant-loop-done l = vec_items l.file ≡ vec_items l.initial.file ++ repeat l._done l.bytes
