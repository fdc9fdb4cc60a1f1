-- The least left of some places, as the least of a list of numbers.
use Rattle.std.proofs.Common.{◌≡◌, ℕ, min, Bool, true, false, cond, List, [], ◌∷◌, map, filter, fold, Some, None, Option, MatchOption, refl, ap, subst, ◌∙◌, arith}
use Rattle.std.proofs.lemmas.Iterator.{YieldsList}
use Rattle.std.proofs.lemmas.Iterator.Consumers.{reduce_from_yields_List}
use Rattle.std.specs.Iterator.{ActsAsOnTwo, Drains, FoldTurn, ReducesItems}
use Rattle.std.specs.List.{reduce, FoldsTo}
use denote.Param.Members.{Mut, Called}
use Rattle.sheet.specs.Automata.{Automaton}
use Rattle.zone.specs.Calls as zones
use Rattle.book.specs.Calls.{lesser, covers_start, least_left}
use Rattle.book.specs.Questions.{Asks}
use Rattle.book.specs.declared.place.Place.{Place}

-- `reduce` of a closure that computes h and changes nothing that it captures
module _ {A F : Type 0} (g : Mut F (A × (A × Unit {0})) A) (h : A → A → A) (f : F) (acts : ActsAsOnTwo g f h) where
  turns : (xs : List A) (p q : F × A) → p.0 ≡ f → FoldsTo {P = F × A} (FoldTurn g) p xs q → FoldsTo (λ a x b. b ≡ h a x) p.1 xs q.1
  turns [] p q e c = ap (λ w. w.1) c
  turns (x ∷ xs) p q e c =
      let k = acts p.1 x c.0.1 c.0.0 (subst (λ w. Called g w (p.1, (x, tt)) c.0.1 c.0.0) e c.1) in
      (c.0.1, k.1, turns xs c.0 q k.0 c.2)

  folded : {S : Type 0} (steps : S → Option A → S → Type 0) (s : S) (r : Option A) → ReducesItems steps g s f r
      → MatchOption r (Drains steps s []) (λ y. (x : A) × (xs : List A) × Drains steps s (x ∷ xs) × FoldsTo (λ a z b. b ≡ h a z) x xs y)
  folded steps s None d = d
  folded steps s (Some y) d = (d.0, d.1, d.3, turns d.1 (f, d.0) (d.2, y) refl d.4)

  pub reduce_is : {S : Type 0} {steps : S → Option A → S → Type 0} {all : List A} (s : S) (r : Option A) → ReducesItems steps g s f r → YieldsList steps (λ x. x) s all → r ≡ reduce h all
  reduce_is {steps = steps} s r d = reduce_from_yields_List h s r (folded steps s r d)

lesser_of : (m n : ℕ) (o : Option ℕ) → lesser (min m n) o ≡ min m (lesser n o)
lesser_of m n None = refl
lesser_of m n (Some k) = omega arith

module _ {Z Row : Type 0} (calls : zones.Calls Z Row) (asks : Asks) (a : Automaton) where
  abbrev pub lefts : List (Place Row) → List ℕ
  lefts ps = map (λ p. asks.left p.number) (filter (covers_start calls a) ps)

  fold_is : (ps : List (Place Row)) (n : ℕ) → fold min n (lefts ps) ≡ lesser n (least_left calls asks a ps)
  fold_is [] n = refl
  fold_is (p ∷ ps) n = go (covers_start calls a p) (fold_is ps)
    where
      go : (t : Bool) → ((m : ℕ) → fold min m (lefts ps) ≡ lesser m (least_left calls asks a ps))
          → fold min n (map (λ q. asks.left q.number) (cond t (p ∷ filter (covers_start calls a) ps) (filter (covers_start calls a) ps))) ≡ lesser n (cond t (Some (lesser (asks.left p.number) (least_left calls asks a ps))) (least_left calls asks a ps))
      go true ih = ih (min n (asks.left p.number)) ∙ lesser_of n (asks.left p.number) (least_left calls asks a ps)
      go false ih = ih n

  pub least_is : (ps : List (Place Row)) → reduce min (lefts ps) ≡ least_left calls asks a ps
  least_is [] = refl
  least_is (p ∷ ps) = go (covers_start calls a p) (least_is ps)
    where
      go : (t : Bool) → reduce min (lefts ps) ≡ least_left calls asks a ps
          → reduce min (map (λ q. asks.left q.number) (cond t (p ∷ filter (covers_start calls a) ps) (filter (covers_start calls a) ps))) ≡ cond t (Some (lesser (asks.left p.number) (least_left calls asks a ps))) (least_left calls asks a ps)
      go true ih = ap Some (fold_is ps (asks.left p.number))
      go false ih = ih
