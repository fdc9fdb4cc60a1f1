-- A list of bounds that a loop fills place by place.
use Rattle.std.specs.Prelude.{◌≡◌, ℕ, ◌+◌, ◌/◌, ◌%◌, ◌<◌, ◌≤◌, List, length, slice_index_or, slice_set}
use Rattle.std.proofs.Common.{◌∙◌, arith, length-set}
use Rattle.std.proofs.lemmas.List.FromFn.{fill_by_all}
use Rattle.std.proofs.lemmas.List.Edits.{fill_by_more}
use Rattle.zone.specs.declared.bound.Bound.{Bound}
use Rattle.zone.specs.declared.bound.Bound.TheVariants.{Free}
use Rattle.zone.specs.Grids.{Grid, listed}

-- of 49 places the first k hold the bounds of the grid
pub record Written (d : Grid) (xs : List Bound) (k : ℕ) : Type 0 where
  pub long : length xs ≡ 49
  pub same : (h : ℕ) → h < k → slice_index_or xs h Free ≡ d (h / 7) (h % 7)

pub written_more : (d : Grid) (xs : List Bound) (k : ℕ) (x : Bound) → Written d xs k → k < 49 → x ≡ d (k / 7) (k % 7) → Written d (slice_set xs k x) (k + 1)
written_more d xs k x w l e =
    let i : k < length xs = omega (arith, w.long) in
    record { long = length-set xs k x ∙ w.long; same = rw e (fill_by_more (λ h. d (h / 7) (h % 7)) xs k Free i w.same) }

pub written_all : (d : Grid) (xs : List Bound) (k : ℕ) → Written d xs k → 49 ≤ k → xs ≡ listed d
unfolding listed
written_all d xs k w l = fill_by_all (λ h. d (h / 7) (h % 7)) xs 49 Free w.long (λ h i. w.same h (omega arith))
