use Rattle.std.proofs.Common.{◌≡◌, ℕ, List, [], ◌++◌, take, IfSome, Some, None, Option, option_map, ap, ◌∙◌}
use Rattle.reader.proofs.input.read_input.Goals as goal

-- what is taken from the bytes that are left
taken : (o p : Option (List ℕ)) (n m : ℕ) (before after : List ℕ) → p ≡ o → n ≡ m → before ≡ [] → IfSome (option_map (take n) p) (λ xs. after ≡ before ++ xs) → IfSome o (λ left. after ≡ take m left)
taken None None n m before after e l b h = tt
taken None (Some x) n m before after e l b h = tt
taken (Some x) None n m before after e l b h = cc
taken (Some x) (Some y) n m before after e l b h =
    let same : y ≡ x = cc in
    h ∙ ap (λ (xs : List ℕ). xs ++ take n y) b ∙ ap (λ (k : ℕ). take k y) l ∙ ap (take m) same

pub returns : goal.returns
returns g c = taken _ _ _ _ _ _ (ap g.R.Read.remaining c.take.ensures.inner) c.take.ensures.limit c.new-input.ensures.items c.in_ok-read_to_end.ensures.bytes
