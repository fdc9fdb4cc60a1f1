-- What each call answers, from the tests that it makes.
use Rattle.std.proofs.Common.{◌≡◌, ℕ, ◌<◌, Bool, true, false, cond, not, List, ◌++◌, map, length, take, drop, set, Ok, Err, IsErrAnd, MatchResult, Result, sym, refl, ap, ◌∙◌, arith}
use Rattle.std.proofs.lemmas.List.{length-take, length-map, set-append_left}
use Rattle.std.proofs.lemmas.Bool.{ltb-true, lt-ltb, eq-eqb, and_parts, and_from}
use Rattle.sheet.specs.Automata.{Automaton, location}
use Rattle.zone.specs.Calls as zones
use Rattle.book.specs.Calls.{told, kept, stopped, examined, vacant, place, at_hand, fitting, putting, struck, striking, marking, examining}
use Rattle.book.specs.Covering.{walked}
use Rattle.book.specs.Marks.{none, fresh, unleaned, with_marks, IsPlace}
use Rattle.book.specs.Questions.{Asks}
use Rattle.book.specs.declared.fault.BookFault.{BookFault}
use Rattle.book.specs.declared.fault.BookFault.TheVariants as fault
use Rattle.book.specs.declared.place.Place.{Place}
use Rattle.book.specs.declared.walk.Stop.{Stop}

-- the node after a walk, or the refusal
abbrev pub walk_result : {Row : Type 0} → Result (List Bool) Stop → Place Row → ℕ → Result (Place Row) BookFault
walk_result (Ok leans) p i = Ok (with_marks true leans p)
walk_result (Err stop) p i = Err (stopped i p.marked stop)

-- a refused call keeps what was there
pub refused_keeps : {X E : Type 0} (r : Result X E) (e : E) (before : X) → told r ≡ Err e → kept r before ≡ before
refused_keeps (Ok x) e before p = cc
refused_keeps (Err d) e before p = refl

module _ {Z Row : Type 0} (calls : zones.Calls Z Row) (asks : Asks) (a : Automaton) (ps : List (Place Row)) (i : ℕ) where
  -- a place of the first 64 is one of all
  pub within : at_hand calls asks a ps i ≡ true → i < length ps
  within h = omega (arith, ltb-true _ _ h, length-take 64 ps)

  pub below_64 : at_hand calls asks a ps i ≡ true → i < 64
  below_64 h = omega (arith, ltb-true _ _ h, length-take 64 ps)

  module _ (l n : ℕ) (z : Z) where
    put_by : (f s e : Bool) → fitting calls asks a ps i l z ≡ f → (place calls asks a ps i).standing ≡ s → calls.empty z ≡ e
        → putting calls asks a ps i l n z ≡ cond (not f) (Err fault.OutOfRange) (cond s (Err (fault.PlaceTaken i)) (cond e (Err (fault.EmptyZone i)) (Ok (set ps i (fresh l n (calls.row z))))))
    put_by f s e p q r = λ j. cond (not (p j)) (Err fault.OutOfRange) (cond (q j) (Err (fault.PlaceTaken i)) (cond (r j) (Err (fault.EmptyZone i)) (Ok (set ps i (fresh l n (calls.row z))))))

    -- a put that is told to be granted
    pub put_granted : told (putting calls asks a ps i l n z) ≡ Ok tt → (at_hand calls asks a ps i ≡ true) × (putting calls asks a ps i l n z ≡ Ok (set ps i (fresh l n (calls.row z))))
    put_granted h = go (fitting calls asks a ps i l z) (place calls asks a ps i).standing (calls.empty z) refl refl refl
      where
        go : (f s e : Bool) → fitting calls asks a ps i l z ≡ f → (place calls asks a ps i).standing ≡ s → calls.empty z ≡ e
            → (at_hand calls asks a ps i ≡ true) × (putting calls asks a ps i l n z ≡ Ok (set ps i (fresh l n (calls.row z))))
        go false s e p q r = cc ((sym (ap told (put_by false s e p q r)) ∙ h))
        go true true e p q r = cc ((sym (ap told (put_by true true e p q r)) ∙ h))
        go true false true p q r = cc ((sym (ap told (put_by true false true p q r)) ∙ h))
        go true false false p q r = ((and_parts _ _ (and_parts _ _ p).0).0, put_by true false false p q r)

  strike_by : (f s : Bool) → at_hand calls asks a ps i ≡ f → (place calls asks a ps i).standing ≡ s → striking calls asks a ps i ≡ cond (not f) (Err fault.OutOfRange) (cond (not s) (Err fault.PlaceVacant) (Ok (struck calls asks a ps i)))
  strike_by f s p q = λ j. cond (not (p j)) (Err fault.OutOfRange) (cond (not (q j)) (Err fault.PlaceVacant) (Ok (struck calls asks a ps i)))

  -- a strike that is told to be granted
  pub strike_granted : told (striking calls asks a ps i) ≡ Ok tt → (at_hand calls asks a ps i ≡ true) × (striking calls asks a ps i ≡ Ok (struck calls asks a ps i))
  strike_granted h = go (at_hand calls asks a ps i) (place calls asks a ps i).standing refl refl
    where
      go : (f s : Bool) → at_hand calls asks a ps i ≡ f → (place calls asks a ps i).standing ≡ s → (at_hand calls asks a ps i ≡ true) × (striking calls asks a ps i ≡ Ok (struck calls asks a ps i))
      go false s p q = cc ((sym (ap told (strike_by false s p q)) ∙ h))
      go true false p q = cc ((sym (ap told (strike_by true false p q)) ∙ h))
      go true true p q = (p, strike_by true true p q)

  -- the place that was read
  module _ (old : Place Row) (read : IsPlace ps i old) where
    read_is : place calls asks a ps i ≡ old
    read_is = sym (read.is (vacant calls asks a))

    stands : (t : Bool) → old.standing ≡ t → (place calls asks a ps i).standing ≡ t
    stands t e = ap (λ (p : Place Row). p.standing) read_is ∙ e

    module _ (l n : ℕ) (z : Z) (located : l < length a.locations) (clocked : calls.clocks z ≡ a.clocks) where
      fits : fitting calls asks a ps i l z ≡ true
      fits = and_from _ _ (and_from _ _ (lt-ltb _ _ read.within) (lt-ltb _ _ located)) (eq-eqb _ _ clocked)

      pub put_taken : old.standing ≡ true → told (putting calls asks a ps i l n z) ≡ Err (fault.PlaceTaken i)
      put_taken s = ap told (put_by l n z true true (calls.empty z) fits (stands true s) refl)

      pub put_empty : old.standing ≡ false → calls.empty z ≡ true → told (putting calls asks a ps i l n z) ≡ Err (fault.EmptyZone i)
      put_empty s e = ap told (put_by l n z true false true fits (stands false s) e)

      pub put_grants : old.standing ≡ false → calls.empty z ≡ false → told (putting calls asks a ps i l n z) ≡ Ok tt
      put_grants s e = ap told (put_by l n z true false false fits (stands false s) e)

    pub strike_vacant : old.standing ≡ false → told (striking calls asks a ps i) ≡ Err fault.PlaceVacant
    strike_vacant s = ap told (strike_by true false (lt-ltb _ _ read.within) (stands false s))

    pub strike_grants : old.standing ≡ true → told (striking calls asks a ps i) ≡ Ok tt
    strike_grants s = ap told (strike_by true true (lt-ltb _ _ read.within) (stands true s))

  -- the places after a strike, from the two writes that make it
  pub struck_by : (mid after : List (Place Row)) (v : Place Row) → at_hand calls asks a ps i ≡ true → mid ≡ map (unleaned i) (take 64 ps) ++ drop 64 ps → after ≡ set mid i v → v ≡ vacant calls asks a → after ≡ struck calls asks a ps i
  struck_by mid after v h p q r =
      q ∙ (λ j. set (p j) i (r j))
      ∙ set-append_left (map (unleaned i) (take 64 ps)) (drop 64 ps) i (vacant calls asks a) (omega (arith, ltb-true _ _ h, length-map (take 64 ps) (unleaned i)))

  examine_by : (f s t : Bool) → at_hand calls asks a ps i ≡ f → (place calls asks a ps i).standing ≡ s → asks.admits (location a (place calls asks a ps i).location).accepting (place calls asks a ps i).number ≡ t
      → examining calls asks a ps i ≡ cond (not f) (Err fault.OutOfRange) (cond (not s) (Err fault.PlaceVacant) (cond (not t) (Err (fault.NotAdmitted i)) (marking calls asks a ps i (walked calls asks a (place calls asks a ps i) (take 64 ps) 0 a.edges none))))
  examine_by f s t p q r = λ j. cond (not (p j)) (Err fault.OutOfRange) (cond (not (q j)) (Err fault.PlaceVacant) (cond (not (r j)) (Err (fault.NotAdmitted i)) (marking calls asks a ps i (walked calls asks a (place calls asks a ps i) (take 64 ps) 0 a.edges none))))

  module _ (old : Place Row) (read : IsPlace ps i old) where
    pub examine_vacant : old.standing ≡ false → examining calls asks a ps i ≡ Err fault.PlaceVacant
    examine_vacant s = examine_by true false _ (lt-ltb _ _ read.within) (stands old read false s) refl

    admits_is : (t : Bool) → asks.admits (location a old.location).accepting old.number ≡ t → asks.admits (location a (place calls asks a ps i).location).accepting (place calls asks a ps i).number ≡ t
    admits_is t e = ap (λ (p : Place Row). asks.admits (location a p.location).accepting p.number) (read_is old read) ∙ e

    pub examine_unadmitted : old.standing ≡ true → asks.admits (location a old.location).accepting old.number ≡ false → examining calls asks a ps i ≡ Err (fault.NotAdmitted i)
    examine_unadmitted s e = examine_by true true false (lt-ltb _ _ read.within) (stands old read true s) (admits_is false e)

    marked_as : (r : Result (List Bool) Stop) → marking calls asks a ps i r ≡ examined ps i (walk_result r old i)
    marked_as (Ok leans) = ap (λ (p : Place Row). Ok (set ps i (with_marks true leans p))) (read_is old read)
    marked_as (Err stop) = ap (λ (p : Place Row). Err (stopped i p.marked stop)) (read_is old read)

    pub examine_walks : old.standing ≡ true → asks.admits (location a old.location).accepting old.number ≡ true → (front : List (Place Row)) → front ≡ take 64 ps → (r : Result (List Bool) Stop) → r ≡ walked calls asks a old front 0 a.edges none → examining calls asks a ps i ≡ examined ps i (walk_result r old i)
    examine_walks s e front f r w =
        examine_by true true true (lt-ltb _ _ read.within) (stands old read true s) (admits_is true e)
        ∙ ap (marking calls asks a ps i) (ap (λ (p : Place Row). walked calls asks a p (take 64 ps) 0 a.edges none) (read_is old read) ∙ ap (λ (l : List (Place Row)). walked calls asks a old l 0 a.edges none) (sym f) ∙ sym w)
        ∙ marked_as r

    -- what the walk gave, with the refusal that its stop is
    pub walk_named : (P : Stop → BookFault → Type 0) → ((stop : Stop) (e : BookFault) → P stop e → e ≡ stopped i old.marked stop) → (r : Result (List Bool) Stop) (m : Result (List Bool) BookFault)
        → MatchResult r (λ leans. m ≡ Ok leans) (λ stop. IsErrAnd m (P stop)) → MatchResult m (λ leans. walk_result r old i ≡ Ok (with_marks true leans old)) (λ e. walk_result r old i ≡ Err e)
    walk_named P named (Ok leans) (Ok same) is = cc
    walk_named P named (Ok leans) (Err e) is = cc
    walk_named P named (Err stop) (Ok leans) is = absurd is
    walk_named P named (Err stop) (Err e) is = ap Err (sym (named stop e is))

  -- an examine that is granted
  pub examine_granted : (qs : List (Place Row)) → Ok qs ≡ examining calls asks a ps i → at_hand calls asks a ps i ≡ true
  examine_granted qs h = go (at_hand calls asks a ps i) refl
    where
      go : (t : Bool) → at_hand calls asks a ps i ≡ t → t ≡ true
      go true e = refl
      go false e = let out = examine_by false _ _ e refl refl in let z : Ok qs ≡ Err fault.OutOfRange = h ∙ out in cc
