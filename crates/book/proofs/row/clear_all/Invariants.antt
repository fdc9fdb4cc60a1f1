use Rattle.std.proofs.Common.{◌≡◌, ◌++◌, map, take, drop}
use Rattle.book.proofs.row.clear_all.Given as goal

abbrev pub invariant-loop-place : goal.invariant-loop-place
invariant-loop-place g l = l.place-items ≡ map (λ p. l.vacant) (take l.place-index l.initial.place-items) ++ drop l.place-index l.initial.place-items
