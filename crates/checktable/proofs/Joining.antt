-- The bytes of the tokens so far, and the tokens that are left.
use Rattle.std.proofs.Common.{◌≡◌, ℕ, ◌+◌, ◌<◌, ◌≤◌, ◌≢◌, false, eqb, List, [], ◌∷◌, ◌++◌, length, get_or, drop, Some, None, refl, Err, Option, Result, ok_or, Vec, append_assoc, append-nil, sym, ap, ◌∙◌, subst, arith}
use Rattle.std.proofs.lemmas.Bool.Decides.{nat_tests}
use Rattle.std.proofs.lemmas.List.{at_drop_more, at_drop_all}
use Rattle.std.specs.declared.alloc.Global.{Global}
use Rattle.checktable.specs.Cases.{after, token_bytes, tokens_bytes, file_bytes}
use Rattle.checktable.specs.Gives.{Gives, Adds}
use Rattle.checktable.specs.declared.fault.CaseFault.{CaseFault}
use Rattle.checktable.specs.declared.fault.CaseFault.TheVariants.{Malformed, NoMemory}

after_after : (bytes more : List ℕ) (rest : _) → after bytes (after more rest) ≡ after (bytes ++ more) rest
after_after bytes more rest = grind (arith, append_assoc)

module _ (ts : List (List ℕ)) (i : ℕ) (bytes : List ℕ) (so : after bytes (tokens_bytes (drop i ts)) ≡ tokens_bytes ts) where
  one_more : (part more bytes' : List ℕ) (n : ℕ) → (i < length ts) × (part ≡ get_or ts i part) → token_bytes part ≡ Some more → bytes' ≡ bytes ++ more → n ≡ i + 1 → after bytes' (tokens_bytes (drop n ts)) ≡ tokens_bytes ts
  one_more part more bytes' n turn told grown next = grind (arith, at_drop_more tokens_bytes ts i part turn.0, after_after)

  -- the bytes of one token more behind those before
  pub one_added : (part bytes' : List ℕ) (n : ℕ) → (i < length ts) × (part ≡ get_or ts i part) → after bytes (token_bytes part) ≡ Some bytes' → n ≡ i + 1 → after bytes' (tokens_bytes (drop n ts)) ≡ tokens_bytes ts
  one_added part bytes' n turn grown next = go (token_bytes part) refl
    where
      go : (o : Option (List ℕ)) → token_bytes part ≡ o → after bytes' (tokens_bytes (drop n ts)) ≡ tokens_bytes ts
      go None e = let v : after bytes None ≡ Some bytes' = rw e at grown in cc
      go (Some more) e = let v : after bytes (Some more) ≡ Some bytes' = rw e at grown in let same : bytes' ≡ bytes ++ more = cc in one_more part more bytes' n turn e same next

  stops : (part : List ℕ) → (i < length ts) × (part ≡ get_or ts i part) → token_bytes part ≡ None → tokens_bytes ts ≡ None
  stops part turn told = grind (arith, at_drop_more tokens_bytes ts i part turn.0)

  pub refused : (part now : List ℕ) (f g : CaseFault) (r : Result (Vec ℕ Global) CaseFault) → (i < length ts) × (part ≡ get_or ts i part) → r ≡ Err f → f ≡ g → Adds (token_bytes part) bytes (Err g) now → Gives (tokens_bytes ts) r
  refused part now f Malformed r turn err same told = subst (Gives (tokens_bytes ts)) (sym (err ∙ ap Err same)) (stops part turn told)
  refused part now f (NoMemory e) r turn err same told = subst (Gives (tokens_bytes ts)) (sym (err ∙ ap Err same)) tt

  pub all_read : length ts ≤ i → tokens_bytes ts ≡ Some bytes
  all_read past = grind (arith, at_drop_all tokens_bytes ts i past, append-nil bytes)

unspaced : (text : List ℕ) → eqb (length text) 0 ≡ false → ((rest : List ℕ) → text ≢ 32 ∷ rest) → file_bytes text ≡ None
unspaced [] h absent = cc
unspaced (b ∷ bs) h absent = grind (arith, nat_tests, absent bs)

-- a text that does not begin with a space
pub malformed : {X : Type 0} (text : List ℕ) (o : Option X) (f g : CaseFault) (r : Result (Vec ℕ Global) CaseFault) → eqb (length text) 0 ≡ false → ((rest : List ℕ) → text ≢ 32 ∷ rest) → o ≡ None → ◌≡◌ {A = Result X CaseFault} (Err g) (ok_or o Malformed) → r ≡ Err f → f ≡ g → Gives (file_bytes text) r
malformed {X} text o f g r h absent none told err same =
    let kind : ◌≡◌ {A = Result X CaseFault} (Err g) (Err Malformed) = told ∙ ap (λ (x : Option X). ok_or x Malformed) none in
    let is : g ≡ Malformed = cc in
    subst (Gives (file_bytes text)) (sym (err ∙ ap Err (same ∙ is))) (unspaced text h absent)
