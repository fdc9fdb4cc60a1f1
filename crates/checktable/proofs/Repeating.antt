-- Adding bytes once more.
use Rattle.std.proofs.Common.{◌≡◌, ℕ, zero, suc, ◌+◌, List, ◌++◌, sym, ap, ◌∙◌, append_assoc, append-nil, add-one}
use Rattle.std.specs.List.{repeat}

-- the last of so many is like the first
repeat_end : (n : ℕ) (bs : List ℕ) → repeat (suc n) bs ≡ repeat n bs ++ bs
repeat_end zero bs = append-nil bs
repeat_end (suc n) bs = ap (λ r. bs ++ r) (repeat_end n bs) ∙ sym (append_assoc bs (repeat n bs) bs)

pub repeats_more : (start file file' bs : List ℕ) (n : ℕ)
    → file ≡ start ++ repeat n bs
    → file' ≡ file ++ bs
    → file' ≡ start ++ repeat (n + 1) bs
repeats_more start file file' bs n so added =
    added ∙ ap (λ r. r ++ bs) so
    ∙ append_assoc start (repeat n bs) bs
    ∙ ap (λ r. start ++ r) (sym (ap (λ k. repeat k bs) (add-one n) ∙ repeat_end n bs))
