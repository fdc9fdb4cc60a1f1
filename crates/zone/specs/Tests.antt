-- A test at every number below a limit.
use Rattle.std.specs.Prelude.{ℕ, Bool}
use Rattle.std.specs.List.{list_all, range_with_len}

-- the test passes at every number below n
unfoldable pub every : (ℕ → Bool) → ℕ → Bool
every f n = list_all f (range_with_len 0 n)
