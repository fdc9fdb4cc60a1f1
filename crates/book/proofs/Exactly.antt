-- Examine and conclude grant exactly when they should.
use Rattle.std.proofs.Common.{◌≡◌, ℕ, zero, suc, ◌+◌, ◌<◌, Bool, true, false, cond, eqb, List, [], ◌∷◌, length, get_or, take, Some, None, Ok, Err, Option, Result, position, sym, refl, ◌∙◌, inl, inr, arith}
use Rattle.std.proofs.lemmas.Bool.{eqb-true, eq-eqb, both_ways}
use Rattle.std.proofs.lemmas.List.Quantifiers.{position-Some}
use Rattle.sheet.specs.Automata.{Automaton, Edge}
use Rattle.zone.specs.Calls as zones
use Rattle.zone.specs.declared.fault.ZoneFault.{ZoneFault}
use Rattle.book.specs.Calls.{vacant}
use Rattle.book.specs.Covering.{with_lean, on_with, covers, found, covered_by, entered, owed, walked}
use Rattle.book.specs.Following.{followed}
use Rattle.book.specs.Grants.{Covered, Answered}
use Rattle.book.specs.Questions.{Asks}
use Rattle.book.specs.Standing.{accepting_at}
use Rattle.book.specs.declared.place.Place.{Place}
use Rattle.book.specs.declared.walk.Stop.{Stop}
use Rattle.book.specs.declared.walk.Stop.TheVariants.{Uncovered, Refused}
use Rattle.book.proofs.Walks.{none_passes}

module _ {Z Row : Type 0} (calls : zones.Calls Z Row) (asks : Asks) (a : Automaton) (ps : List (Place Row)) (p : Place Row) where
  abbrev v : Place Row
  v = vacant calls asks a

  abbrev front : List (Place Row)
  front = take 64 ps

  abbrev test : Edge → Z → Place Row → Bool
  test e z = covers calls asks (accepting_at calls asks a p) p.number e.target z

  abbrev zone_of : Edge → Result Z ZoneFault
  zone_of e = followed calls a (calls.of_row p.zone) e

  -- edge e, which is edge i, stops the walk
  abbrev Stops : ℕ → Edge → Stop → Type 0
  Stops i e (Uncovered n) = (n ≡ i) × (e.source ≡ p.location) × ((z : Z) × (zone_of e ≡ Ok z) × (calls.empty z ≡ false) × (Covered calls asks a ps p e z → ⊥))
  Stops i e (Refused f n) = (n ≡ i) × (e.source ≡ p.location) × (zone_of e ≡ Err f)

  -- what an edge is owed
  abbrev Says : ℕ → Edge → Result (Option ℕ) Stop → Type 0
  Says i e (Ok o) = Answered calls asks a ps p e
  Says i e (Err stop) = Stops i e stop

  found_says : (i : ℕ) (e : Edge) (z : Z) → e.source ≡ p.location → zone_of e ≡ Ok z → calls.empty z ≡ false → (o : Option ℕ) → position (test e z) front ≡ o → Says i e (found i o)
  found_says i e z s q h None l = (refl, s, (z, q, h, λ c. both_ways _ (none_passes v (test e z) refl front l c.0) c.1))
  found_says i e z s q h (Some j) l =
      let low = position-Some (test e z) front j v l in
      λ _. (z, q, inr (j, low.1))

  empty_says : (i : ℕ) (e : Edge) (z : Z) → e.source ≡ p.location → zone_of e ≡ Ok z → (t : Bool) → calls.empty z ≡ t → Says i e (covered_by calls asks front i (cond t (Ok None) (Ok (Some (record { accepting = accepting_at calls asks a p; number = p.number; target = e.target; zone = z })))))
  empty_says i e z s q true h = λ _. (z, q, inl h)
  empty_says i e z s q false h = found_says i e z s q h (position (test e z) front) refl

  zone_says : (i : ℕ) (e : Edge) → e.source ≡ p.location → (r : Result Z ZoneFault) → zone_of e ≡ r → Says i e (covered_by calls asks front i (entered calls a p e r))
  zone_says i e s (Err f) q = (refl, s, q)
  zone_says i e s (Ok z) q = empty_says i e z s q (calls.empty z) refl

  owed_says : (i : ℕ) (e : Edge) → Says i e (owed calls asks a p front i e)
  owed_says i e = go (eqb e.source p.location) refl
    where
      go : (t : Bool) → eqb e.source p.location ≡ t → Says i e (covered_by calls asks front i (cond t (entered calls a p e (zone_of e)) (Ok None)))
      go true q = zone_says i e (eqb-true _ _ q) (zone_of e) refl
      go false q = λ s. cc (sym (eq-eqb _ _ s) ∙ q)

  -- what the walk over edges from number i on says
  pub record Failing (i : ℕ) (es : List Edge) (stop : Stop) : Type 0 where
    pub at : ℕ
    pub within : at < length es
    pub here : (d : Edge) → Stops (i + at) (get_or es at d) stop
    pub before : (m : ℕ) (d : Edge) → m < at → Answered calls asks a ps p (get_or es m d)

  abbrev pub Tells : ℕ → List Edge → Result (List Bool) Stop → Type 0
  Tells i es (Ok leans) = (n : ℕ) (d : Edge) → n < length es → Answered calls asks a ps p (get_or es n d)
  Tells i es (Err stop) = Failing i es stop

  shift : (i m : ℕ) (e : Edge) (stop : Stop) → Stops (suc i + m) e stop → Stops (i + suc m) e stop
  shift i m e (Uncovered n) s = (omega (arith, s.0), s.1, s.2)
  shift i m e (Refused f n) s = (omega (arith, s.0), s.1, s.2)

  at_once : (i : ℕ) (e : Edge) (stop : Stop) → Stops i e stop → Stops (i + 0) e stop
  at_once i e (Uncovered n) s = (omega (arith, s.0), s.1, s.2)
  at_once i e (Refused f n) s = (omega (arith, s.0), s.1, s.2)

  later : (i : ℕ) (e : Edge) (es : List Edge) → Answered calls asks a ps p e → (r : Result (List Bool) Stop) → Tells (suc i) es r → Tells i (e ∷ es) r
  later i e es first (Ok leans) rest = at
    where
      at : (n : ℕ) (d : Edge) → n < length (e ∷ es) → Answered calls asks a ps p (get_or (e ∷ es) n d)
      at zero d l = first
      at (suc n) d l = rest n d (omega arith)
  later i e es first (Err stop) rest = record { at = suc rest.at; within = omega (arith, rest.within); here = λ d. shift i rest.at (get_or es rest.at d) stop (rest.here d); before = earlier }
    where
      earlier : (m : ℕ) (d : Edge) → m < suc rest.at → Answered calls asks a ps p (get_or (e ∷ es) m d)
      earlier zero d l = first
      earlier (suc m) d l = rest.before m d (omega arith)

  pub walk_tells : (i : ℕ) (es : List Edge) (leans : List Bool) → Tells i es (walked calls asks a p front i es leans)
  walk_tells i [] leans = λ n d l. absurd (omega arith)
  walk_tells i (e ∷ es) leans = go (owed calls asks a p front i e) (owed_says i e) (λ ls. walk_tells (suc i) es ls)
    where
      go : (o : Result (Option ℕ) Stop) → Says i e o → ((ls : List Bool) → Tells (suc i) es (walked calls asks a p front (suc i) es ls)) → Tells i (e ∷ es) (on_with o leans (walked calls asks a p front (suc i) es))
      go (Err stop) s ih = record { at = 0; within = omega arith; here = λ d. at_once i e stop s; before = λ m d l. absurd (omega arith) }
      go (Ok o) s ih = later i e es s (walked calls asks a p front (suc i) es (with_lean leans o)) (ih (with_lean leans o))
