-- One element of a list changed, and one added.
use Rattle.std.proofs.Common.{◌≡◌, ℕ, ◌-◌, ◌<◌, Bool, cond, List, [], ◌∷◌, ◌++◌, map, length, get_or, set, refl, arith}
use Rattle.std.proofs.lemmas.Grind.{common_steps}
use Rattle.std.proofs.lemmas.List.{map-set, get_or-map, set-get_or}
use Rattle.sheet.specs.Automata.{Edge}
use Rattle.sheet.specs.Parts.{guarded}
use Rattle.sheet.specs.declared.atom.Atom.{Atom}

module _ {X Y : Type 0} (g : X → Y) (f : Y → Y) (xs : List X) (n i : ℕ) (d : Y) (same : i ≡ n) where
  -- the element x at place i becomes w, but only where the test is true
  pub changed_if : (b : Bool) (x w : X) → i < length xs → x ≡ get_or xs i x → g w ≡ cond b (f (g x)) (g x) → map g (set xs i w) ≡ cond b (set (map g xs) n (f (get_or (map g xs) n d))) (map g xs)
  changed_if b x w h read e = grind (arith, common_steps, map-set, get_or-map, set-get_or)

-- the edge with one more atom in its guard
abbrev pub with_atom : Atom → Edge → Edge
with_atom atom e = record { source = e.source; target = e.target; resets = e.resets; guard = e.guard ++ atom ∷ [] }

-- the last edge, by its place
pub guarded_is : (atom : Atom) (es : List Edge) (d : Edge) → guarded atom es ≡ set es (length es - 1) (with_atom atom (get_or es (length es - 1) d))
guarded_is atom [] d = refl
guarded_is atom (e ∷ []) d = refl
guarded_is atom (e ∷ f ∷ es) d = grind (arith, guarded_is atom (f ∷ es) d)
