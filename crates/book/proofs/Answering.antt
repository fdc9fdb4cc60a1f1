-- What examine and conclude answer, in terms of the nodes and their edges.
use Rattle.std.proofs.Common.{◌≡◌, ℕ, zero, suc, ◌≤◌, min, Bool, true, false, cond, not, List, [], ◌∷◌, get_or, take, is_ok, IfOk, IfErr, Some, None, Ok, Err, Decides, Option, Result, position, sym, refl, ap, ◌∙◌, subst, ⊎_elim, arith}
use Rattle.std.proofs.lemmas.Bool.{both_ways, and_parts, and_from, not_from_false}
use Rattle.std.proofs.lemmas.List.Quantifiers.{position-Some}
use Rattle.sheet.specs.Automata.{Automaton, Edge}
use Rattle.zone.specs.Calls as zones
use Rattle.book.specs.Calls.{told, vacant, place, at_hand, stopped, marking, examining, unmarked, covers_start, lesser, least_left, verdict, concluding}
use Rattle.book.specs.Covering.{walked}
use Rattle.book.specs.Grants.{Covered, Grants, FirstUncovered, NamesFirst, Concludes, Least}
use Rattle.book.specs.Marks.{none}
use Rattle.book.specs.Questions.{Asks}
use Rattle.book.specs.Standing.{accepting_at}
use Rattle.book.specs.declared.fault.BookFault.{BookFault}
use Rattle.book.specs.declared.fault.BookFault.TheVariants as fault
use Rattle.book.specs.declared.place.Place.{Place}
use Rattle.book.specs.declared.walk.Stop.{Stop}
use Rattle.book.specs.declared.walk.Stop.TheVariants.{Uncovered, Refused}
use Rattle.book.proofs.Exactly.{Failing, Tells, walk_tells}
use Rattle.book.proofs.Simulation.{least_found}
use Rattle.book.proofs.Walks.{none_passes}

module _ {Z Row : Type 0} (calls : zones.Calls Z Row) (asks : Asks) (a : Automaton) (ps : List (Place Row)) where
  module _ (i : ℕ) where
    abbrev node : Place Row
    node = place calls asks a ps i

    -- what an examine comes to
    abbrev Comes : {X : Type 0} → Result X BookFault → Type 0
    Comes (Ok x) = Grants calls asks a ps i
    Comes (Err f) = (Grants calls asks a ps i → ⊥) × NamesFirst calls asks a ps i f

    first_uncovered : (n : ℕ) → Failing calls asks a ps node 0 a.edges (Uncovered n) → FirstUncovered calls asks a ps node n
    first_uncovered n f =
        let d : Edge = record { source = 0; target = 0; resets = []; guard = [] } in
        let is : f.at ≡ n = omega (arith, (f.here d).0) in
        subst (FirstUncovered calls asks a ps node) is (record { within = f.within; leads = λ e. ((f.here e).1, (f.here e).2); before = f.before })

    not_granted : (stop : Stop) → Failing calls asks a ps node 0 a.edges stop → Grants calls asks a ps i → ⊥
    not_granted (Uncovered n) f g =
        let d : Edge = record { source = 0; target = 0; resets = []; guard = [] } in
        let s = f.here d in
        let r = g.answered f.at d f.within s.1 in
        let same : s.2.0 ≡ r.0 = (let x = s.2.1 in let y = r.1 in cc) in
        ⊎_elim (λ (e : calls.empty r.0 ≡ true). both_ways _ s.2.2 (ap calls.empty same ∙ e))
        (λ (c : Covered calls asks a ps node (get_or a.edges f.at d) r.0). s.2.3 (subst (Covered calls asks a ps node (get_or a.edges f.at d)) (sym same) c)) r.2
    not_granted (Refused x n) f g =
        let d : Edge = record { source = 0; target = 0; resets = []; guard = [] } in
        let s = f.here d in
        let r = g.answered f.at d f.within s.1 in
        let u = s.2 in
        let w = r.1 in
        cc

    stopped_comes : (t : Bool) (stop : Stop) → Failing calls asks a ps node 0 a.edges stop → NamesFirst calls asks a ps i (stopped i t stop)
    stopped_comes true (Uncovered n) f = first_uncovered n f
    stopped_comes false (Uncovered n) f = first_uncovered n f
    stopped_comes t (Refused x n) f = tt

    examine_comes : Comes (examining calls asks a ps i)
    examine_comes = near (at_hand calls asks a ps i) refl
      where
        walked_comes : at_hand calls asks a ps i ≡ true → (place calls asks a ps i).standing ≡ true → asks.admits (accepting_at calls asks a (place calls asks a ps i)) (place calls asks a ps i).number ≡ true
            → (r : Result (List Bool) Stop) → Tells calls asks a ps (place calls asks a ps i) 0 a.edges r → Comes (marking calls asks a ps i r)
        walked_comes h s e (Ok leans) t = record { near = h; standing = s; admitted = e; answered = t }
        walked_comes h s e (Err stop) t = (not_granted stop t, stopped_comes (place calls asks a ps i).marked stop t)

        entered : (t : Bool) → asks.admits (accepting_at calls asks a (place calls asks a ps i)) (place calls asks a ps i).number ≡ t → at_hand calls asks a ps i ≡ true → (place calls asks a ps i).standing ≡ true
            → Comes (cond (not t) (Err (fault.NotAdmitted i)) (marking calls asks a ps i (walked calls asks a (place calls asks a ps i) (take 64 ps) 0 a.edges none)))
        entered true e h s = walked_comes h s e _ (walk_tells calls asks a ps (place calls asks a ps i) 0 a.edges none)
        entered false e h s = (λ g. cc (sym g.admitted ∙ e), tt)

        stood : (t : Bool) → (place calls asks a ps i).standing ≡ t → at_hand calls asks a ps i ≡ true
            → Comes (cond (not t) (Err fault.PlaceVacant) (cond (not (asks.admits (accepting_at calls asks a (place calls asks a ps i)) (place calls asks a ps i).number)) (Err (fault.NotAdmitted i)) (marking calls asks a ps i (walked calls asks a (place calls asks a ps i) (take 64 ps) 0 a.edges none))))
        stood true s h = entered _ refl h s
        stood false s h = (λ g. cc (sym g.standing ∙ s), tt)

        near : (t : Bool) → at_hand calls asks a ps i ≡ t
            → Comes (cond (not t) (Err fault.OutOfRange) (cond (not (place calls asks a ps i).standing) (Err fault.PlaceVacant) (cond (not (asks.admits (accepting_at calls asks a (place calls asks a ps i)) (place calls asks a ps i).number)) (Err (fault.NotAdmitted i)) (marking calls asks a ps i (walked calls asks a (place calls asks a ps i) (take 64 ps) 0 a.edges none)))))
        near true h = stood _ refl h
        near false h = (λ g. cc (sym g.near ∙ h), tt)

    granted_by : {X : Type 0} (r : Result X BookFault) → Comes r → Decides (is_ok (told r)) (Grants calls asks a ps i)
    granted_by (Ok x) g = (λ _. g, λ _. refl)
    granted_by (Err f) g = ((λ p. cc (sym p)), λ h. absurd (g.0 h))

    named_by : {X : Type 0} (r : Result X BookFault) → Comes r → IfErr (told r) (NamesFirst calls asks a ps i)
    named_by (Ok x) g = tt
    named_by (Err f) g = g.1

    -- examine grants exactly when it should
    pub examine_exactly : (r : Result (Unit {0}) BookFault) → r ≡ told (examining calls asks a ps i) → Decides (is_ok r) (Grants calls asks a ps i)
    examine_exactly r is = subst (λ (x : Result (Unit {0}) BookFault). Decides (is_ok x) (Grants calls asks a ps i)) (sym is) (granted_by (examining calls asks a ps i) examine_comes)

    -- a refusal names the first edge that is not covered
    pub examine_names : (r : Result (Unit {0}) BookFault) → r ≡ told (examining calls asks a ps i) → IfErr r (NamesFirst calls asks a ps i)
    examine_names r is = subst (λ (x : Result (Unit {0}) BookFault). IfErr x (NamesFirst calls asks a ps i)) (sym is) (named_by (examining calls asks a ps i) examine_comes)

  -- the least left, over any list of places
  least_none : (qs : List (Place Row)) → least_left calls asks a qs ≡ None → (m : ℕ) → covers_start calls a (get_or qs m (vacant calls asks a)) ≡ false
  least_none [] p m = refl
  least_none (q ∷ qs) p m = go (covers_start calls a q) refl p m (least_none qs)
    where
      go : (t : Bool) → covers_start calls a q ≡ t → cond t (Some (lesser (asks.left q.number) (least_left calls asks a qs))) (least_left calls asks a qs) ≡ None → (m : ℕ)
          → (least_left calls asks a qs ≡ None → (m : ℕ) → covers_start calls a (get_or qs m (vacant calls asks a)) ≡ false) → covers_start calls a (get_or (q ∷ qs) m (vacant calls asks a)) ≡ false
      go true e h m ih = cc
      go false e h zero ih = e
      go false e h (suc m) ih = ih h m

  least_below : (qs : List (Place Row)) (n : ℕ) → least_left calls asks a qs ≡ Some n → (m : ℕ) → covers_start calls a (get_or qs m (vacant calls asks a)) ≡ true → n ≤ asks.left (get_or qs m (vacant calls asks a)).number
  least_below [] n p m c = cc (sym c)
  least_below (q ∷ qs) n p m c = go (covers_start calls a q) refl (least_left calls asks a qs) refl p m c (least_below qs)
    where
      go : (t : Bool) → covers_start calls a q ≡ t → (o : Option ℕ) → least_left calls asks a qs ≡ o → cond t (Some (lesser (asks.left q.number) o)) o ≡ Some n → (m : ℕ) → covers_start calls a (get_or (q ∷ qs) m (vacant calls asks a)) ≡ true
          → ((n : ℕ) → least_left calls asks a qs ≡ Some n → (m : ℕ) → covers_start calls a (get_or qs m (vacant calls asks a)) ≡ true → n ≤ asks.left (get_or qs m (vacant calls asks a)).number)
          → n ≤ asks.left (get_or (q ∷ qs) m (vacant calls asks a)).number
      go false e o l h zero c ih = cc (sym c ∙ e)
      go false e o l h (suc m) c ih = ih n (l ∙ h) m c
      go true e None l h zero c ih = let same : asks.left q.number ≡ n = cc in omega arith
      go true e None l h (suc m) c ih = cc (sym c ∙ least_none qs l m)
      go true e (Some k) l h zero c ih = let same : min (asks.left q.number) k ≡ n = cc in omega arith
      go true e (Some k) l h (suc m) c ih = let same : min (asks.left q.number) k ≡ n = cc in omega (arith, ih k l m c)

  -- what a conclude comes to
  abbrev Ends : Result ℕ BookFault → Type 0
  Ends (Ok n) = Concludes calls asks a ps × Least calls asks a ps n
  Ends (Err f) = Concludes calls asks a ps → ⊥

  concluded_ends : (o u : Option ℕ) → least_left calls asks a (take 64 ps) ≡ o → position unmarked (take 64 ps) ≡ u → Ends (verdict o u)
  concluded_ends None u p q = λ c. cc (sym c.covered.1 ∙ least_none (take 64 ps) p c.covered.0)
  concluded_ends (Some n) (Some j) p q = λ c.
      let low = position-Some unmarked (take 64 ps) j (vacant calls asks a) q in
      let parts = and_parts _ _ low.1 in
      both_ways _ (ap not (c.marked j parts.0)) parts.1
  concluded_ends (Some n) None p q =
      let f = least_found calls asks a (take 64 ps) n p in (
        record { marked = λ i s. all_marked i s (place calls asks a ps i).marked refl; covered = (f.0, f.1) },
        record { reached = (f.0, f.1, f.2); below = least_below (take 64 ps) n p },
      )
    where
      all_marked : (i : ℕ) → (place calls asks a ps i).standing ≡ true → (t : Bool) → (place calls asks a ps i).marked ≡ t → t ≡ true
      all_marked i s true e = refl
      all_marked i s false e =
          let yes : unmarked (place calls asks a ps i) ≡ true = and_from _ _ s (not_from_false _ e) in
          cc (sym yes ∙ none_passes (vacant calls asks a) unmarked refl (take 64 ps) q i)

  -- conclude grants exactly when it should
  pub conclude_exactly : (r : Result ℕ BookFault) → r ≡ concluding calls asks a ps → Decides (is_ok r) (Concludes calls asks a ps)
  conclude_exactly r is = subst (λ (x : Result ℕ BookFault). Decides (is_ok x) (Concludes calls asks a ps)) (sym is) (go (concluding calls asks a ps) (concluded_ends _ _ refl refl))
    where
      go : (x : Result ℕ BookFault) → Ends x → Decides (is_ok x) (Concludes calls asks a ps)
      go (Ok n) e = (λ _. e.0, λ _. refl)
      go (Err f) e = ((λ p. cc (sym p)), λ c. absurd (e c))

  -- and gives the least left
  pub conclude_least : (r : Result ℕ BookFault) → r ≡ concluding calls asks a ps → IfOk r (Least calls asks a ps)
  conclude_least r is = subst (λ (x : Result ℕ BookFault). IfOk x (Least calls asks a ps)) (sym is) (go (concluding calls asks a ps) (concluded_ends _ _ refl refl))
    where
      go : (x : Result ℕ BookFault) → Ends x → IfOk x (Least calls asks a ps)
      go (Ok n) e = e.1
      go (Err f) e = tt
