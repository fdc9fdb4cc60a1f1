use Rattle.std.proofs.Common.{◌≡◌, ◌++◌, map, take, drop}
use Rattle.book.specs.Marks.{unleaned}
use Rattle.book.proofs.row.unlean_all.Given as goal

abbrev pub invariant-loop-place : goal.invariant-loop-place
invariant-loop-place g l = l.place-items ≡ map (unleaned l.i) (take l.place-index l.initial.place-items) ++ drop l.place-index l.initial.place-items
