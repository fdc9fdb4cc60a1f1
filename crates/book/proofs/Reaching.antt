-- What following an edge leads to holds every valuation that a run can reach by it.
use Rattle.std.proofs.Common.{◌≡◌, ℕ, zero, suc, ◌*◌, ◌<◌, ◌≤◌, Bool, true, false, cond, eqb, List, [], ◌∷◌, Ok, Err, Result, sym, refl, ap, ◌∙◌, subst, mul-zero, arith}
use Rattle.std.proofs.lemmas.Bool.{eqb-true, eq-eqb}
use Rattle.std.specs.List.{AllByRecursion}
use Rattle.sheet.specs.Automata.{Automaton, Edge, location}
use Rattle.sheet.specs.Runs as runs
use Rattle.sheet.specs.Runs.{Holds, Compares}
use Rattle.sheet.specs.declared.atom.Atom.{Atom}
use Rattle.sheet.specs.declared.atom.Relation.{Relation}
use Rattle.sheet.specs.declared.atom.Relation.TheVariants.{Less, AtMost, Equal, AtLeast, Greater}
use Rattle.zone.specs.Calls.{Calls}
use Rattle.zone.specs.Laws.{Laws, in_range}
use Rattle.zone.specs.Valuations.{Valuation, Meets, reading, waited, zeroed}
use Rattle.zone.specs.declared.constraint.Constraint.{Constraint}
use Rattle.book.specs.Following.{above, strictly_above, below, strictly_below, constraints_by, constraints_of, and_then, all_constrained, limited, all_reset, followed}

eqb_self : (n : ℕ) → eqb n n ≡ true
eqb_self n = eq-eqb n n refl

-- an `and_then` that is granted
pub then_ok : {X Y E : Type 0} (r : Result X E) (f : X → Result Y E) (y : Y) → and_then r f ≡ Ok y → (x : X) × (r ≡ Ok x) × (f x ≡ Ok y)
then_ok (Ok x) f y p = (x, refl, p)
then_ok (Err e) f y p = cc

reads_at_most : (v : Valuation) (x : ℕ) → reading v x ≤ v x
reads_at_most v x = go (eqb x 0)
  where
    go : (t : Bool) → cond t 0 (v x) ≤ v x
    go true = omega arith
    go false = omega arith

reads_itself : (v : Valuation) (x : ℕ) → eqb x 0 ≡ false → reading v x ≡ v x
reads_itself v x e = ap (λ t. cond t 0 (v x)) e

at_most_meets : (k : ℕ) (v : Valuation) (x c : ℕ) → v x ≤ k * c → Meets k v (above x c)
at_most_meets k v x c h = omega (arith, reads_at_most v x)

less_meets : (k : ℕ) (v : Valuation) (x c : ℕ) → v x < k * c → Meets k v (strictly_above x c)
less_meets k v x c h = omega (arith, reads_at_most v x)

at_least_meets : (k : ℕ) (v : Valuation) (x c : ℕ) → eqb x 0 ≡ false → k * c ≤ v x → Meets k v (below x c)
at_least_meets k v x zero e h = omega arith
at_least_meets k v x (suc c) e h = rw (reads_itself v x e) (omega arith)

greater_meets : (k : ℕ) (v : Valuation) (x c : ℕ) → eqb x 0 ≡ false → k * c < v x → Meets k v (strictly_below x c)
greater_meets k v x zero e h = rw (reads_itself v x e) (omega (arith, mul-zero k))
greater_meets k v x (suc c) e h = rw (reads_itself v x e) (omega arith)

same_clock : (n : ℕ) (c : Constraint) → c.i ≡ c.j → in_range n c ≡ false
same_clock n c p = rw (eq-eqb c.i c.j p)

module _ {Z Row : Type 0} (calls : Calls Z Row) (laws : Laws calls) where
  -- a bound from below on clock 0 is refused
  not_zero : (z y : Z) (x : ℕ) (c : Constraint) → c.i ≡ 0 → c.j ≡ x → calls.constrained z c ≡ Ok y → eqb x 0 ≡ false
  not_zero z y x c p q ok = go (eqb x 0) refl
    where
      go : (t : Bool) → eqb x 0 ≡ t → t ≡ false
      go false e = refl
      go true e =
          let same : c.i ≡ c.j = p ∙ sym (eqb-true x 0 e) ∙ sym q in
          let no = laws.constrained_range z c (same_clock (calls.clocks z) c same) in cc

  meets_above : (z y : Z) (k : ℕ) (v : Valuation) (x c : ℕ) → 0 < k → v x ≤ k * c → calls.constrained z (above x c) ≡ Ok y → calls.holds z k v → calls.holds y k v
  meets_above z y k v x c p h ok holds = laws.constrained_holds z y (above x c) k v ok p holds (at_most_meets k v x c h)

  meets_below : (z y : Z) (k : ℕ) (v : Valuation) (x c : ℕ) → 0 < k → k * c ≤ v x → calls.constrained z (below x c) ≡ Ok y → calls.holds z k v → calls.holds y k v
  meets_below z y k v x c p h ok holds = laws.constrained_holds z y (below x c) k v ok p holds (at_least_meets k v x c (not_zero z y x (below x c) refl refl ok) h)

  atom_holds : (z y : Z) (k : ℕ) (v : Valuation) (r : Relation) (x c : ℕ) → 0 < k → Compares r (v x) (k * c) → all_constrained calls z (constraints_by r x c) ≡ Ok y → calls.holds z k v → calls.holds y k v
  atom_holds z y k v Less x c p h ok holds =
      let s = then_ok (calls.constrained z (strictly_above x c)) _ y ok in
      let same : s.0 ≡ y = (let q = s.2 in cc) in
      subst (λ (w : Z). calls.holds w k v) same (laws.constrained_holds z s.0 (strictly_above x c) k v s.1 p holds (less_meets k v x c h))
  atom_holds z y k v AtMost x c p h ok holds =
      let s = then_ok (calls.constrained z (above x c)) _ y ok in
      let same : s.0 ≡ y = (let q = s.2 in cc) in
      subst (λ (w : Z). calls.holds w k v) same (meets_above z s.0 k v x c p h s.1 holds)
  atom_holds z y k v Equal x c p h ok holds =
      let s = then_ok (calls.constrained z (above x c)) _ y ok in
      let t = then_ok (calls.constrained s.0 (below x c)) _ y s.2 in
      let same : t.0 ≡ y = (let q = t.2 in cc) in
      subst (λ (w : Z). calls.holds w k v) same (meets_below s.0 t.0 k v x c p (omega arith) t.1 (meets_above z s.0 k v x c p (omega arith) s.1 holds))
  atom_holds z y k v AtLeast x c p h ok holds =
      let s = then_ok (calls.constrained z (below x c)) _ y ok in
      let same : s.0 ≡ y = (let q = s.2 in cc) in
      subst (λ (w : Z). calls.holds w k v) same (meets_below z s.0 k v x c p h s.1 holds)
  atom_holds z y k v Greater x c p h ok holds =
      let s = then_ok (calls.constrained z (strictly_below x c)) _ y ok in
      let same : s.0 ≡ y = (let q = s.2 in cc) in
      subst (λ (w : Z). calls.holds w k v) same (laws.constrained_holds z s.0 (strictly_below x c) k v s.1 p holds (greater_meets k v x c (not_zero z s.0 x (strictly_below x c) refl refl s.1) h))

  limited_holds : (z y : Z) (k : ℕ) (v : Valuation) (atoms : List Atom) → 0 < k → AllByRecursion (Holds k v) atoms → limited calls z atoms ≡ Ok y → calls.holds z k v → calls.holds y k v
  limited_holds z y k v [] p h ok holds = let same : z ≡ y = cc in subst (λ (w : Z). calls.holds w k v) same holds
  limited_holds z y k v (atom ∷ atoms) p h ok holds =
      let s = then_ok (all_constrained calls z (constraints_of atom)) _ y ok in
      limited_holds s.0 y k v atoms p h.1 s.2 (atom_holds z s.0 k v atom.relation atom.clock atom.constant p h.0 s.1 holds)

  all_reset_holds : (z y : Z) (k : ℕ) (v : Valuation) (xs : List ℕ) → 0 < k → all_reset calls z xs ≡ Ok y → calls.holds z k v → calls.holds y k (runs.all_zeroed v xs)
  all_reset_holds z y k v [] p ok holds = let same : z ≡ y = cc in subst (λ (w : Z). calls.holds w k v) same holds
  all_reset_holds z y k v (x ∷ xs) p ok holds =
      let s = then_ok (calls.reset z x) _ y ok in
      all_reset_holds s.0 y k (zeroed v x) xs p s.2 (laws.reset_holds z s.0 x k v s.1 p holds)

  pub followed_holds : (a : Automaton) (z y : Z) (e : Edge) (k d : ℕ) (v : Valuation) → 0 < k → followed calls a z e ≡ Ok y → calls.holds z k v
      → AllByRecursion (Holds k (waited v d)) (location a e.source).limit
      → AllByRecursion (Holds k (waited v d)) e.guard
      → AllByRecursion (Holds k (runs.all_zeroed (waited v d) e.resets)) (location a e.target).limit
      → calls.holds y k (runs.all_zeroed (waited v d) e.resets)
  followed_holds a z y e k d v p ok holds limit guard target =
      let s = then_ok (limited calls (calls.elapsed z) (location a e.source).limit) _ y ok in
      let t = then_ok (limited calls s.0 e.guard) _ y s.2 in
      let u = then_ok (all_reset calls t.0 e.resets) _ y t.2 in
      let waited_in = laws.elapsed_holds z k d v p holds in
      let limited_in = limited_holds (calls.elapsed z) s.0 k (waited v d) (location a e.source).limit p limit s.1 waited_in in
      let guarded = limited_holds s.0 t.0 k (waited v d) e.guard p guard t.1 limited_in in
      let zeroed_in = all_reset_holds t.0 u.0 k (waited v d) e.resets p u.1 guarded in
      limited_holds u.0 y k (runs.all_zeroed (waited v d) e.resets) (location a e.target).limit p target u.2 zeroed_in
