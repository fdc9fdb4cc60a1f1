-- A test at every number below a limit.
use Rattle.std.specs.Prelude.{◌≡◌, ℕ, zero, suc, ◌<◌, Bool, true, false, List, [], ◌∷◌, length, slice_index_or}
use Rattle.std.specs.List.{list_all, zip, range_with_len}
use Rattle.std.proofs.Common.{sym, ap, ◌∙◌, ⊎_elim, arith}
use Rattle.std.proofs.lemmas.Bool.{and_parts, and_cases, true≢false}
use Rattle.std.proofs.lemmas.List.Sums.{AllPass-from_list_all, list_all-from_AllPass}
use Rattle.std.proofs.lemmas.List.FromFn.{length-range_with_len, get_or-range_with_len}
use Rattle.zone.specs.Tests.{every}

-- where a test that fails does so
pub some_fails : {X : Type 0} (f : X → Bool) (d : X) (xs : List X) → list_all f xs ≡ false → (k : ℕ) × (k < length xs) × (f (slice_index_or xs k d) ≡ false)
some_fails f d [] h = absurd (true≢false h)
some_fails f d (x ∷ xs) h =
    ⊎_elim (λ e. (0, omega arith, e)) (λ e. let (k, l, g) = some_fails f d xs e in (suc k, omega arith, g)) (and_cases (f x) (list_all f xs) h)

-- a test of two lists, place by place
pub all_at_zip : {X : Type 0} (f : X → X → Bool) (xs ys : List X) → list_all (λ p. f p.0 p.1) (zip xs ys) ≡ true → (k : ℕ) (d : X) → k < length xs → k < length ys → f (slice_index_or xs k d) (slice_index_or ys k d) ≡ true
all_at_zip f [] ys h k d l m = absurd (omega arith)
all_at_zip f (x ∷ xs) [] h k d l m = absurd (omega arith)
all_at_zip f (x ∷ xs) (y ∷ ys) h zero d l m = (and_parts _ _ h).0
all_at_zip f (x ∷ xs) (y ∷ ys) h (suc k) d l m = all_at_zip f xs ys (and_parts _ _ h).1 k d (omega arith) (omega arith)

module _ (f : ℕ → Bool) (n : ℕ) where
  at : (k d : ℕ) → k < n → f (slice_index_or (range_with_len 0 n) k d) ≡ f k
  at k d l = let e : slice_index_or (range_with_len 0 n) k d ≡ k = omega (arith, get_or-range_with_len 0 n k d l) in ap f e

  pub every_from : ((k : ℕ) → k < n → f k ≡ true) → every f n ≡ true
  unfolding every
  every_from h = list_all-from_AllPass f (range_with_len 0 n) (λ k d l. let i : k < n = omega (arith, length-range_with_len 0 n) in at k d i ∙ h k i)

  pub every_at : every f n ≡ true → (k : ℕ) → k < n → f k ≡ true
  unfolding every
  every_at h k l = sym (at k 0 l) ∙ AllPass-from_list_all f (range_with_len 0 n) h k 0 (omega (arith, length-range_with_len 0 n))
