-- An array made by calls at its indices.
use Rattle.std.specs.Prelude.{◌≡◌, ℕ, zero, suc, ◌+◌, ◌<◌, ◌≤◌, List, map, slice_index_or}
use Rattle.std.specs.List.{range_with_len}
use Rattle.std.specs.Array.{IsFromFnResult, IsFromFnResultFrom}
use Rattle.std.specs.Fn.{Called}
use Rattle.std.proofs.Common.{refl, sym, subst, ◌∙◌, ⊎_elim, arith}
use Rattle.std.proofs.lemmas.Bool.{cases_eq}
use Rattle.std.proofs.lemmas.List.FromFn.{fill_by_all}
use denote.Param.Members.{Mut}

module _ {F B : Type 0} (g : Mut F (ℕ × Unit {0}) B) (d : ℕ → B) (f : F) (n : ℕ)
    (each : (k : ℕ) (b : B) (q : F) → k < n → Called g f (k, tt) b q → (q ≡ f) × (b ≡ d k)) where
  at : (ys : List B) (e : B) (i m : ℕ) (p : F) → p ≡ f → i + m ≡ n → IsFromFnResultFrom g p ys i m → (k : ℕ) → i ≤ k → k < n → slice_index_or ys k e ≡ d k
  at ys e i zero p s l made k low high = absurd (omega arith)
  at ys e i (suc m) p s l (q, y, (_, is), call, rest) k low high =
      let (t, v) = each i y q (omega arith) (subst (λ (w : F). Called g w (i, tt) y q) s call) in
      ⊎_elim (λ h. subst (λ j. slice_index_or ys j e ≡ d j) (sym h) (is e ∙ v)) (λ h. at ys e (i + 1) m q t (omega arith) rest k (omega arith) high) (cases_eq k i)

  -- the list of what the calls gave
  pub from_fn_is : (ys : List B) → IsFromFnResult g f ys n → ys ≡ map d (range_with_len 0 n)
  from_fn_is ys made = fill_by_all d ys n (d 0) made.long (λ k l. at ys (d 0) 0 n f refl (omega arith) made.each k (omega arith) l)
