-- What the walk over a node's edges has found when it ends.
use Rattle.std.proofs.Common.{◌≡◌, ℕ, zero, suc, ◌<◌, ◌≤◌, Bool, true, false, cond, eqb, ◌⊎◌, List, [], ◌∷◌, length, get_or, set, Some, None, Ok, Err, Option, Result, position, sym, refl, ap, ◌∙◌, subst, inl, inr, ⊎_elim, arith}
use Rattle.std.proofs.lemmas.List.{length-set}
use Rattle.std.specs.List.{position_or_len}
use Rattle.std.proofs.lemmas.List.Quantifiers.{position-Some}
use Rattle.std.proofs.lemmas.List.Sums.{fails_before_first}
use Rattle.std.proofs.lemmas.Grind.{common_steps}
use Rattle.std.proofs.Math.ListN.{get_or-eq_default}
use Rattle.std.proofs.lemmas.Bool.{eq-eqb, eqb-true, cond-true, cases_lt}
use Rattle.sheet.specs.Automata.{Automaton, Edge}
use Rattle.zone.specs.Calls as zones
use Rattle.zone.specs.declared.fault.ZoneFault.{ZoneFault}
use Rattle.book.specs.Covering.{on_with, covers, found, covered_by, entered, owed, walked}
use Rattle.book.specs.Following.{followed}
use Rattle.book.specs.Questions.{Asks}
use Rattle.book.specs.Standing.{accepting_at}
use Rattle.book.specs.declared.place.Place.{Place}
use Rattle.book.specs.declared.walk.Stop.{Stop}
use Rattle.book.proofs.Fronts.{getD_of_set}

-- where no place passes a test, none does that is read with a default
pub none_passes : {Row : Type 0} (v : Place Row) (test : Place Row → Bool) → test v ≡ false → (ps : List (Place Row)) → position test ps ≡ None → (m : ℕ) → test (get_or ps m v) ≡ false
none_passes v test d ps none m =
    ⊎_elim
    (λ (h : m < length ps). let over : length ps ≤ position_or_len test ps = grind (arith, common_steps) in fails_before_first test ps m v (omega arith))
    (λ (h : length ps ≤ m). rw get_or-eq_default d)
    (cases_lt m (length ps))

module _ {Z Row : Type 0} (calls : zones.Calls Z Row) (asks : Asks) (a : Automaton) where
  module _ (v : Place Row) (p : Place Row) (ps : List (Place Row)) where
    -- the zone is empty, or covered by place j
    abbrev Covered : Edge → Z → Option ℕ → Type 0
    Covered e z None = calls.empty z ≡ true
    Covered e z (Some j) = (j < length ps) × (covers calls asks (accepting_at calls asks a p) p.number e.target z (get_or ps j v) ≡ true)

    found_covered : (i : ℕ) (e : Edge) (z : Z) (o : Option ℕ) (r : Option ℕ) → position (covers calls asks (accepting_at calls asks a p) p.number e.target z) ps ≡ o → found i o ≡ Ok r → Covered e z r
    found_covered i e z None r l h = cc
    found_covered i e z (Some j) r l h =
        let same : Some j ≡ r = cc in
        let low = position-Some (covers calls asks (accepting_at calls asks a p) p.number e.target z) ps j v l in
        subst (Covered e z) same (low.0, low.1)

    empty_covered : (i : ℕ) (e : Edge) (z : Z) (r : Option ℕ) (t : Bool) → calls.empty z ≡ t
        → covered_by calls asks ps i (cond t (Ok None) (Ok (Some (record { accepting = accepting_at calls asks a p; number = p.number; target = e.target; zone = z })))) ≡ Ok r → Covered e z r
    empty_covered i e z r true q h = let same : None ≡ r = cc in subst (Covered e z) same q
    empty_covered i e z r false q h = found_covered i e z (position (covers calls asks (accepting_at calls asks a p) p.number e.target z) ps) r refl h

    entered_covered : (i : ℕ) (e : Edge) (r : Option ℕ) (f : Result Z ZoneFault) → followed calls a (calls.of_row p.zone) e ≡ f → covered_by calls asks ps i (entered calls a p e f) ≡ Ok r → (z : Z) × (followed calls a (calls.of_row p.zone) e ≡ Ok z) × Covered e z r
    entered_covered i e r (Err x) q h = cc
    entered_covered i e r (Ok z) q h = (z, q, empty_covered i e z r (calls.empty z) refl h)

    owed_covered : (i : ℕ) (e : Edge) (r : Option ℕ) → owed calls asks a p ps i e ≡ Ok r → e.source ≡ p.location → (z : Z) × (followed calls a (calls.of_row p.zone) e ≡ Ok z) × Covered e z r
    owed_covered i e r h s =
        entered_covered i e r (followed calls a (calls.of_row p.zone) e) refl
        (sym (ap (covered_by calls asks ps i) (cond-true (eqb e.source p.location) (entered calls a p e (followed calls a (calls.of_row p.zone) e)) (Ok None) (eq-eqb _ _ s))) ∙ h)

    -- edge e leads to an empty zone, or to one that a place of these leans covers
    abbrev pub Kept : List Bool → Edge → Type 0
    Kept leans e = (z : Z) × (followed calls a (calls.of_row p.zone) e ≡ Ok z) × ((calls.empty z ≡ true) ⊎ ((j : ℕ) × (get_or leans j false ≡ true) × (covers calls asks (accepting_at calls asks a p) p.number e.target z (get_or ps j v) ≡ true)))

    pub record Walked (es : List Edge) (before leans : List Bool) : Type 0 where
      pub grows : (j : ℕ) → get_or before j false ≡ true → get_or leans j false ≡ true
      pub keeps : (n : ℕ) (d : Edge) → n < length es → (get_or es n d).source ≡ p.location → Kept leans (get_or es n d)

    set_grows : (leans : List Bool) (j k : ℕ) → j < length leans → get_or leans k false ≡ true → get_or (set leans j true) k false ≡ true
    set_grows leans j k h g = getD_of_set leans j true false k h ∙ go (eqb k j)
      where
        go : (t : Bool) → cond t true (get_or leans k false) ≡ true
        go true = refl
        go false = g

    set_leans : (leans : List Bool) (j : ℕ) → j < length leans → get_or (set leans j true) j false ≡ true
    set_leans leans j h = getD_of_set leans j true false j h ∙ cond-true (eqb j j) true (get_or leans j false) (eq-eqb j j refl)

    pub owed_within : (i : ℕ) (e : Edge) (j : ℕ) → owed calls asks a p ps i e ≡ Ok (Some j) → j < length ps
    owed_within i e j h = go (eqb e.source p.location) refl h
      where
        go : (t : Bool) → eqb e.source p.location ≡ t → covered_by calls asks ps i (cond t (entered calls a p e (followed calls a (calls.of_row p.zone) e)) (Ok None)) ≡ Ok (Some j) → j < length ps
        go true q g = (owed_covered i e (Some j) h (eqb-true _ _ q)).2.0
        go false q g = cc

    kept_by : (i : ℕ) (e : Edge) (mid leans : List Bool) (o : Option ℕ) → ((j : ℕ) → o ≡ Some j → get_or mid j false ≡ true) → ((j : ℕ) → get_or mid j false ≡ true → get_or leans j false ≡ true) → (r : (z : Z) × (followed calls a (calls.of_row p.zone) e ≡ Ok z) × Covered e z o) → Kept leans e
    kept_by i e mid leans None leant up r = (r.0, r.1, inl r.2)
    kept_by i e mid leans (Some j) leant up r = (r.0, r.1, inr (j, up j (leant j refl), r.2.1))

    walk_more : (i : ℕ) (e : Edge) (es : List Edge) (before mid leans : List Bool) (o : Option ℕ) → owed calls asks a p ps i e ≡ Ok o
        → ((j : ℕ) → get_or before j false ≡ true → get_or mid j false ≡ true) → ((j : ℕ) → o ≡ Some j → get_or mid j false ≡ true) → Walked es mid leans → Walked (e ∷ es) before leans
    walk_more i e es before mid leans o q up leant rest = record { grows = λ j g. rest.grows j (up j g); keeps = at }
      where
        at : (n : ℕ) (d : Edge) → n < length (e ∷ es) → (get_or (e ∷ es) n d).source ≡ p.location → Kept leans (get_or (e ∷ es) n d)
        at zero d l s = kept_by i e mid leans o leant rest.grows (owed_covered i e o q s)
        at (suc n) d l s = rest.keeps n d (omega arith) s

    walk_on : (few : length ps ≤ 64) (i : ℕ) (e : Edge) (es : List Edge) (before leans : List Bool) → length before ≡ 64
        → ((mid : List Bool) → length mid ≡ 64 → walked calls asks a p ps (suc i) es mid ≡ Ok leans → Walked es mid leans)
        → (o : Result (Option ℕ) Stop) → owed calls asks a p ps i e ≡ o → on_with o before (walked calls asks a p ps (suc i) es) ≡ Ok leans → Walked (e ∷ es) before leans
    walk_on few i e es before leans long ih (Err s) q h = cc
    walk_on few i e es before leans long ih (Ok None) q h =
        walk_more i e es before before leans None q (λ j g. g) (λ j n. cc) (ih before long h)
    walk_on few i e es before leans long ih (Ok (Some j)) q h =
        let within : j < length before = omega (arith, owed_within i e j q) in
        walk_more i e es before (set before j true) leans (Some j) q
        (λ k g. set_grows before j k within g)
        (λ k n. let same : j ≡ k = cc in subst (λ (m : ℕ). get_or (set before j true) m false ≡ true) same (set_leans before j within))
        (ih (set before j true) (length-set before j true ∙ long) h)

    pub walk : length ps ≤ 64 → (i : ℕ) (es : List Edge) (before leans : List Bool) → length before ≡ 64 → walked calls asks a p ps i es before ≡ Ok leans → Walked es before leans
    walk few i [] before leans long h =
        let same : before ≡ leans = cc in
        record { grows = λ j g. subst (λ (l : List Bool). get_or l j false ≡ true) same g; keeps = λ n d l. absurd (omega arith) }
    walk few i (e ∷ es) before leans long h = walk_on few i e es before leans long (λ mid m g. walk few (suc i) es mid leans m g) (owed calls asks a p ps i e) refl h
