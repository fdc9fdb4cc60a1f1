-- A byte shifted by the number of clocks.
use Rattle.std.proofs.Common.{◌≡◌, ℕ, ◌/◌, ◌^◌, ◌<◌, ◌≤◌, eqb, ltb, Option, Some, None, SomeIff, unwrap_or, sym, ap, ◌∙◌, ⊎_elim, arith}
use Rattle.std.proofs.Math.Nat.{pow-le-pow_right}
use Rattle.std.proofs.lemmas.Nat.{pow_pos, div_below, le-div}
use Rattle.std.proofs.lemmas.Bool.{lt-ltb, le-ltb, eq-eqb, ne_eqb, cases_lt}

-- nothing is left of a byte exactly if it is below the power
pub shifted_out : (o : Option ℕ) (byte n : ℕ) → byte < 2 ^ 8 → SomeIff o (n < 8) (byte / 2 ^ n) → eqb (unwrap_or o 0) 0 ≡ ltb byte (2 ^ n)
shifted_out None byte n b h = sym (lt-ltb _ _ (⊎_elim (λ l. absurd (h l)) (λ (l : 8 ≤ n). omega (arith, pow-le-pow_right {n = 2} (omega arith) l)) (cases_lt n 8)))
shifted_out (Some rest) byte n b h = ap (λ m. eqb m 0) h.1 ∙ ⊎_elim
    (λ (l : byte < 2 ^ n). eq-eqb _ _ (let z : byte / 2 ^ n < 1 = div_below byte (2 ^ n) 1 (pow_pos n) (omega arith) in omega arith) ∙ sym (lt-ltb _ _ l))
    (λ (l : 2 ^ n ≤ byte). ne_eqb _ _ (λ e. let z : 1 ≤ byte / 2 ^ n = le-div 1 byte (2 ^ n) (pow_pos n) (omega arith) in omega arith) ∙ sym (le-ltb _ _ l))
    (cases_lt byte (2 ^ n))
