-- The first 64 of a list, read with a default, after a change.
use Rattle.std.proofs.Common.{◌≡◌, ℕ, zero, suc, ◌<◌, ◌≤◌, min, Bool, true, false, cond, eqb, List, [], ◌∷◌, ◌++◌, map, length, get_or, take, drop, set, refl, ap, ◌∙◌, ⊎_elim, append-nil, arith}
use Rattle.std.proofs.lemmas.List.{length-take, take_all, take_min, drop_min, take_at, drop_all, get_or-set_same, get_or-set_other}
use Rattle.std.proofs.lemmas.Bool.{cases_lt, eqb-true, eqb-false}

module _ {X : Type 0} where
  pub take_of_set : (n : ℕ) (xs : List X) (i : ℕ) (x : X) → take n (set xs i x) ≡ set (take n xs) i x
  take_of_set zero [] i x = refl
  take_of_set zero (y ∷ xs) zero x = refl
  take_of_set zero (y ∷ xs) (suc i) x = refl
  take_of_set (suc n) [] i x = refl
  take_of_set (suc n) (y ∷ xs) zero x = refl
  take_of_set (suc n) (y ∷ xs) (suc i) x = ap (λ l. y ∷ l) (take_of_set n xs i x)

  -- a list as long as the front takes its place
  pub take_of_front : (n : ℕ) (xs ys : List X) → length xs ≡ length (take n ys) → take n (xs ++ drop n ys) ≡ xs
  take_of_front n xs ys long =
      ⊎_elim
      (λ (h : n < length ys). take_at xs (drop n ys) n (omega (arith, long, length-take n ys)))
      (λ (h : length ys ≤ n). ap (λ l. take n (xs ++ l)) (drop_all n ys h) ∙ ap (take n) (append-nil xs) ∙ take_all n xs (omega (arith, long, length-take n ys)))
      (cases_lt n (length ys))

  pub getD_of_set : (xs : List X) (i : ℕ) (x d : X) (k : ℕ) → i < length xs → get_or (set xs i x) k d ≡ cond (eqb k i) x (get_or xs k d)
  getD_of_set xs i x d k h = go (eqb k i) refl
    where
      go : (t : Bool) → eqb k i ≡ t → get_or (set xs i x) k d ≡ cond t x (get_or xs k d)
      go true e = ap (λ (j : ℕ). get_or (set xs i x) j d) (eqb-true k i e) ∙ get_or-set_same xs i x d h
      go false e = get_or-set_other xs i k x d (eqb-false k i e)

  -- the front of a list, once a loop has written f x over each element x
  pub front_mapped : (f : X → X) (xs : List X) (n i : ℕ) (ys : List X) → n ≡ min 64 (length xs) → length (take n xs) ≤ i → ys ≡ map f (take i (take n xs)) ++ drop i (take n xs) → ys ++ drop n xs ≡ map f (take 64 xs) ++ drop 64 xs
  front_mapped f xs n i ys is over made =
      rw (made, take_all i (take n xs) over, drop_all i (take n xs) over, append-nil, is, take_min, drop_min)
