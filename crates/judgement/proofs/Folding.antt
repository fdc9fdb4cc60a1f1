-- A loop that goes on while each step is granted, against a recursion over the list.
use Rattle.std.proofs.Common.{◌≡◌, ℕ, ◌+◌, ◌<◌, List, [], ◌∷◌, length, get_or, drop, Ok, Err, Result, sym, ap, ◌∙◌}
use Rattle.std.proofs.lemmas.List.{drop_more}
use Rattle.book.specs.Following.{and_then}

module _ {Z X E : Type 0} (f : Z → X → Result Z E) (F : Z → List X → Result Z E) (none : (z : Z) → F z [] ≡ Ok z) (more : (z : Z) (x : X) (xs : List X) → F z (x ∷ xs) ≡ and_then (f z x) (λ y. F y xs)) where
  -- one step further on
  pub folded_more : (xs : List X) (i : ℕ) (d : X) (z y : Z) → i < length xs → f z (get_or xs i d) ≡ Ok y → F y (drop (i + 1) xs) ≡ F z (drop i xs)
  folded_more xs i d z y h ok = sym (ap (F z) (drop_more xs i d h) ∙ more z (get_or xs i d) (drop (i + 1) xs) ∙ ap (λ (r : Result Z E). and_then r (λ w. F w (drop (i + 1) xs))) ok)

  -- a step is refused
  pub folded_stop : (xs : List X) (i : ℕ) (d : X) (z : Z) (e : E) → i < length xs → f z (get_or xs i d) ≡ Err e → F z (drop i xs) ≡ Err e
  folded_stop xs i d z e h stop = ap (F z) (drop_more xs i d h) ∙ more z (get_or xs i d) (drop (i + 1) xs) ∙ ap (λ (r : Result Z E). and_then r (λ w. F w (drop (i + 1) xs))) stop
