-- Every call keeps every marked node right.
use Rattle.std.proofs.Common.{◌≡◌, ℕ, zero, suc, ◌<◌, Bool, true, false, cond, not, ◌&&◌, eqb, List, [], ◌∷◌, map, length, get_or, take, set, replicate, Ok, Err, Result, sym, refl, ap, ◌∙◌, subst, inl, inr, ⊎_elim, arith}
use Rattle.std.proofs.lemmas.List.{length-set, length-map, length-take, length-replicate}
use Rattle.std.proofs.lemmas.Bool.{eqb-true, ltb-true, cond-true, cond-false, and_parts}
use Rattle.std.specs.List.{ContainsAt}
use Rattle.sheet.specs.Automata.{Automaton, Edge}
use Rattle.zone.specs.Calls as zones
use Rattle.book.specs.Calls.{kept, vacant, opened, place, at_hand, fitting, putting, struck, striking, marking, examining, done, played}
use Rattle.book.specs.Covering.{covers, walked}
use Rattle.book.specs.Marks.{none, fresh, with_marks, unleaned}
use Rattle.book.specs.Questions.{Asks}
use Rattle.book.specs.Standing.{accepting_at, Held, Right, Sound}
use Rattle.book.specs.declared.call.Call.{Call}
use Rattle.book.specs.declared.call.Call.TheVariants.{Put, Strike, Examine, Conclude}
use Rattle.book.specs.declared.fault.BookFault.TheVariants as fault
use Rattle.book.specs.declared.place.Place.{Place}
use Rattle.book.specs.declared.walk.Stop.{Stop}
use Rattle.std.proofs.Math.ListN.{get_or-map}
use Rattle.book.proofs.Fronts.{take_of_set, take_of_front, getD_of_set}
use Rattle.book.proofs.Walks.{Kept, Walked, walk}

-- what a place shows to those that lean on it
pub record Same {Row : Type 0} (p q : Place Row) : Type 0 where
  pub standing : p.standing ≡ q.standing
  pub location : p.location ≡ q.location
  pub number : p.number ≡ q.number
  pub zone : p.zone ≡ q.zone

same_as : {Row : Type 0} (p q : Place Row) → p ≡ q → Same p q
same_as p q e = record { standing = ap (λ (x : Place _). x.standing) e; location = ap (λ (x : Place _). x.location) e; number = ap (λ (x : Place _). x.number) e; zone = ap (λ (x : Place _). x.zone) e }

all_false : (n i : ℕ) → get_or (replicate n false) i false ≡ false
all_false zero i = refl
all_false (suc n) zero = refl
all_false (suc n) (suc i) = all_false n i

-- no place is leaned on
none_leans : (i : ℕ) → get_or none i false ≡ false
none_leans i = all_false 64 i

unleaned_same : {Row : Type 0} (i : ℕ) (p : Place Row) → Same (unleaned i p) p
unleaned_same i p = go (get_or p.leans i false)
  where
    go : (t : Bool) → Same (cond t (with_marks false none p) p) p
    go true = record { standing = refl; location = refl; number = refl; zone = refl }
    go false = record { standing = refl; location = refl; number = refl; zone = refl }

module _ {Z Row : Type 0} (calls : zones.Calls Z Row) (asks : Asks) (a : Automaton) where
  vacant_unleaned : (i : ℕ) → unleaned i (vacant calls asks a) ≡ vacant calls asks a
  vacant_unleaned i = cond-false _ (with_marks false none (vacant calls asks a)) (vacant calls asks a) (none_leans i)

  covers_same : (t : Bool) (n l : ℕ) (z : Z) (p q : Place Row) → Same p q → covers calls asks t n l z p ≡ covers calls asks t n l z q
  covers_same t n l z p q s = λ i. s.standing i && eqb (s.location i) l && asks.passes t n (s.number i) && calls.within z (calls.of_row (s.zone i))

  pub covers_standing : (t : Bool) (n l : ℕ) (z : Z) (p : Place Row) → covers calls asks t n l z p ≡ true → p.standing ≡ true
  covers_standing t n l z p h = (and_parts _ _ (and_parts _ _ (and_parts _ _ h).0).0).0

  -- a node stays right while what it leans on shows the same
  right_kept : (ps qs : List (Place Row)) (p : Place Row)
      → ((j : ℕ) → get_or p.leans j false ≡ true → (place calls asks a ps j).standing ≡ true → Same (place calls asks a qs j) (place calls asks a ps j))
      → Right calls asks a ps p → Right calls asks a qs p
  right_kept ps qs p same right = record { admitted = right.admitted; edges = λ e h s. held (right.edges e h s) }
    where
      held : {e : Edge} → Held calls asks a ps p.leans p e → Held calls asks a qs p.leans p e
      held {e} h = record {
        zone = h.zone;
        leads = h.leads;
        covered = ⊎_elim inl (λ (c : (j : ℕ) × (get_or p.leans j false ≡ true) × (covers calls asks (accepting_at calls asks a p) p.number e.target h.zone (place calls asks a ps j) ≡ true)).
            inr (c.0, c.1, covers_same (accepting_at calls asks a p) p.number e.target h.zone (place calls asks a qs c.0) (place calls asks a ps c.0) (same c.0 c.1 (covers_standing (accepting_at calls asks a p) p.number e.target h.zone (place calls asks a ps c.0) c.2)) ∙ c.2)) h.covered;
      }

  place_set : (ps : List (Place Row)) (i : ℕ) (x : Place Row) (k : ℕ) → at_hand calls asks a ps i ≡ true → place calls asks a (set ps i x) k ≡ cond (eqb k i) x (place calls asks a ps k)
  place_set ps i x k h = ap (λ (l : List (Place Row)). get_or l k (vacant calls asks a)) (take_of_set 64 ps i x) ∙ getD_of_set (take 64 ps) i x (vacant calls asks a) k (ltb-true _ _ h)

  -- one place is set to x, which shows what stood there, and is right if it is marked
  set_sound : (ps : List (Place Row)) (i : ℕ) (x : Place Row) → at_hand calls asks a ps i ≡ true → Sound calls asks a ps
      → ((place calls asks a ps i).standing ≡ true → Same x (place calls asks a ps i))
      → (x.standing ≡ true → x.marked ≡ true → Right calls asks a ps x)
      → Sound calls asks a (set ps i x)
  set_sound ps i x h sound same right k = at (eqb k i) refl
    where
      qs : List (Place Row)
      qs = set ps i x

      shows : (j : ℕ) → (place calls asks a ps j).standing ≡ true → (t : Bool) → eqb j i ≡ t → Same (cond t x (place calls asks a ps j)) (place calls asks a ps j)
      shows j s true e =
          let there : j ≡ i = eqb-true j i e in
          subst (λ (m : ℕ). Same x (place calls asks a ps m)) (sym there) (same (subst (λ (m : ℕ). (place calls asks a ps m).standing ≡ true) there s))
      shows j s false e = record { standing = refl; location = refl; number = refl; zone = refl }

      kept_right : (p : Place Row) → Right calls asks a ps p → Right calls asks a (set ps i x) p
      kept_right p r = right_kept ps (set ps i x) p (λ j l s. subst (λ (q : Place Row). Same q (place calls asks a ps j)) (sym (place_set ps i x j h)) (shows j s (eqb j i) refl)) r

      at : (t : Bool) → eqb k i ≡ t → (place calls asks a (set ps i x) k).standing ≡ true → (place calls asks a (set ps i x) k).marked ≡ true → Right calls asks a (set ps i x) (place calls asks a (set ps i x) k)
      at true e s m =
          let is : place calls asks a (set ps i x) k ≡ x = place_set ps i x k h ∙ cond-true (eqb k i) x (place calls asks a ps k) e in
          subst (Right calls asks a (set ps i x)) (sym is) (kept_right x (right (ap (λ (q : Place Row). q.standing) (sym is) ∙ s) (ap (λ (q : Place Row). q.marked) (sym is) ∙ m)))
      at false e s m =
          let is : place calls asks a (set ps i x) k ≡ place calls asks a ps k = place_set ps i x k h ∙ cond-false (eqb k i) x (place calls asks a ps k) e in
          subst (Right calls asks a (set ps i x)) (sym is) (kept_right (place calls asks a ps k) (sound k (ap (λ (q : Place Row). q.standing) (sym is) ∙ s) (ap (λ (q : Place Row). q.marked) (sym is) ∙ m)))

  put_sound : (ps : List (Place Row)) (i l n : ℕ) (z : Z) → Sound calls asks a ps → Sound calls asks a (kept (putting calls asks a ps i l n z) ps)
  put_sound ps i l n z sound = fits (fitting calls asks a ps i l z) refl
    where
      hollow : (t : Bool) → (place calls asks a ps i).standing ≡ false → at_hand calls asks a ps i ≡ true → Sound calls asks a (kept (cond t (Err (fault.EmptyZone i)) (Ok (set ps i (fresh l n (calls.row z))))) ps)
      hollow true v h = sound
      hollow false v h = set_sound ps i (fresh l n (calls.row z)) h sound (λ s. cc (sym v ∙ s)) (λ s m. cc m)

      free : (t : Bool) → (place calls asks a ps i).standing ≡ t → at_hand calls asks a ps i ≡ true → Sound calls asks a (kept (cond t (Err (fault.PlaceTaken i)) (cond (calls.empty z) (Err (fault.EmptyZone i)) (Ok (set ps i (fresh l n (calls.row z)))))) ps)
      free true v h = sound
      free false v h = hollow (calls.empty z) v h

      fits : (t : Bool) → fitting calls asks a ps i l z ≡ t → Sound calls asks a (kept (cond (not t) (Err fault.OutOfRange) (cond (place calls asks a ps i).standing (Err (fault.PlaceTaken i)) (cond (calls.empty z) (Err (fault.EmptyZone i)) (Ok (set ps i (fresh l n (calls.row z))))))) ps)
      fits false e = sound
      fits true e = free (place calls asks a ps i).standing refl (and_parts _ _ (and_parts _ _ e).0).0

  place_struck : (ps : List (Place Row)) (i k : ℕ) → at_hand calls asks a ps i ≡ true → place calls asks a (struck calls asks a ps i) k ≡ cond (eqb k i) (vacant calls asks a) (unleaned i (place calls asks a ps k))
  place_struck ps i k h =
      let front = map (unleaned i) (take 64 ps) in
      let long : length (set front i (vacant calls asks a)) ≡ length (take 64 ps) = length-set front i (vacant calls asks a) ∙ length-map (take 64 ps) (unleaned i) in
      let within : i < length front = omega (arith, ltb-true _ _ h, length-map (take 64 ps) (unleaned i)) in
      ap (λ (l : List (Place Row)). get_or l k (vacant calls asks a)) (take_of_front 64 (set front i (vacant calls asks a)) ps long)
      ∙ getD_of_set front i (vacant calls asks a) (vacant calls asks a) k within
      ∙ ap (cond (eqb k i) (vacant calls asks a)) (ap (get_or front k) (sym (vacant_unleaned i)) ∙ get_or-map (unleaned i) (take 64 ps) k (vacant calls asks a))

  struck_sound : (ps : List (Place Row)) (i : ℕ) → at_hand calls asks a ps i ≡ true → Sound calls asks a ps → Sound calls asks a (struck calls asks a ps i)
  struck_sound ps i h sound k = at (eqb k i) refl
    where
      qs : List (Place Row)
      qs = struck calls asks a ps i

      shows : (p : Place Row) → get_or p.leans i false ≡ false → (j : ℕ) → get_or p.leans j false ≡ true → (t : Bool) → eqb j i ≡ t → Same (cond t (vacant calls asks a) (unleaned i (place calls asks a ps j))) (place calls asks a ps j)
      shows p free j l true e = cc (sym (subst (λ (m : ℕ). get_or p.leans m false ≡ false) (sym (eqb-true j i e)) free) ∙ l)
      shows p free j l false e = unleaned_same i (place calls asks a ps j)

      kept_right : (p : Place Row) → get_or p.leans i false ≡ false → Right calls asks a ps p → Right calls asks a (struck calls asks a ps i) p
      kept_right p free r = right_kept ps (struck calls asks a ps i) p (λ j l s. subst (λ (q : Place Row). Same q (place calls asks a ps j)) (sym (place_struck ps i j h)) (shows p free j l (eqb j i) refl)) r

      left : (p : Place Row) → (p.standing ≡ true → p.marked ≡ true → Right calls asks a ps p) → (t : Bool) → get_or p.leans i false ≡ t → (cond t (with_marks false none p) p).standing ≡ true → (cond t (with_marks false none p) p).marked ≡ true → Right calls asks a (struck calls asks a ps i) (cond t (with_marks false none p) p)
      left p r true e s m = cc m
      left p r false e s m = kept_right p e (r s m)

      at : (t : Bool) → eqb k i ≡ t → (place calls asks a (struck calls asks a ps i) k).standing ≡ true → (place calls asks a (struck calls asks a ps i) k).marked ≡ true → Right calls asks a (struck calls asks a ps i) (place calls asks a (struck calls asks a ps i) k)
      at true e s m =
          let is : place calls asks a (struck calls asks a ps i) k ≡ vacant calls asks a = place_struck ps i k h ∙ cond-true (eqb k i) (vacant calls asks a) (unleaned i (place calls asks a ps k)) e in
          cc (ap (λ (q : Place Row). q.standing) (sym is) ∙ s)
      at false e s m =
          let is : place calls asks a (struck calls asks a ps i) k ≡ unleaned i (place calls asks a ps k) = place_struck ps i k h ∙ cond-false (eqb k i) (vacant calls asks a) (unleaned i (place calls asks a ps k)) e in
          subst (Right calls asks a (struck calls asks a ps i)) (sym is)
          (left (place calls asks a ps k) (sound k) (get_or (place calls asks a ps k).leans i false) refl (ap (λ (q : Place Row). q.standing) (sym is) ∙ s) (ap (λ (q : Place Row). q.marked) (sym is) ∙ m))

  strike_sound : (ps : List (Place Row)) (i : ℕ) → Sound calls asks a ps → Sound calls asks a (kept (striking calls asks a ps i) ps)
  strike_sound ps i sound = near (at_hand calls asks a ps i) refl
    where
      taken : (t : Bool) → at_hand calls asks a ps i ≡ true → Sound calls asks a (kept (cond (not t) (Err fault.PlaceVacant) (Ok (struck calls asks a ps i))) ps)
      taken true h = struck_sound ps i h sound
      taken false h = sound

      near : (t : Bool) → at_hand calls asks a ps i ≡ t → Sound calls asks a (kept (cond (not t) (Err fault.OutOfRange) (cond (not (place calls asks a ps i).standing) (Err fault.PlaceVacant) (Ok (struck calls asks a ps i)))) ps)
      near true e = taken (place calls asks a ps i).standing e
      near false e = sound

  walked_right : (ps : List (Place Row)) (p : Place Row) (leans : List Bool) → asks.admits (accepting_at calls asks a p) p.number ≡ true → walked calls asks a p (take 64 ps) 0 a.edges none ≡ Ok leans → Right calls asks a ps (with_marks true leans p)
  walked_right ps p leans admitted h =
      let w = walk calls asks a (vacant calls asks a) p (take 64 ps) (omega (arith, length-take 64 ps)) 0 a.edges none leans (length-replicate 64 false) h in
      record { admitted = admitted; edges = λ e m s. held w e m s }
    where
      held : Walked calls asks a (vacant calls asks a) p (take 64 ps) a.edges none leans → (e : Edge) → ContainsAt a.edges e → e.source ≡ p.location → Held calls asks a ps leans (with_marks true leans p) e
      held w e m s =
          let is : get_or a.edges m.0 e ≡ e = m.2 e in
          let k = subst (Kept calls asks a (vacant calls asks a) p (take 64 ps) leans) is (w.keeps m.0 e m.1 (ap (λ (d : Edge). d.source) is ∙ s)) in
          record { zone = k.0; leads = k.1; covered = k.2 }

  marked_sound : (ps : List (Place Row)) (i : ℕ) → at_hand calls asks a ps i ≡ true → asks.admits (accepting_at calls asks a (place calls asks a ps i)) (place calls asks a ps i).number ≡ true → Sound calls asks a ps → (r : Result (List Bool) Stop) → walked calls asks a (place calls asks a ps i) (take 64 ps) 0 a.edges none ≡ r → Sound calls asks a (kept (marking calls asks a ps i r) ps)
  marked_sound ps i h admitted sound (Err stop) w = sound
  marked_sound ps i h admitted sound (Ok leans) w =
      set_sound ps i (with_marks true leans (place calls asks a ps i)) h sound
      (λ s. record { standing = refl; location = refl; number = refl; zone = refl })
      (λ s m. walked_right ps (place calls asks a ps i) leans admitted w)

  examine_sound : (ps : List (Place Row)) (i : ℕ) → Sound calls asks a ps → Sound calls asks a (kept (examining calls asks a ps i) ps)
  examine_sound ps i sound = near (at_hand calls asks a ps i) refl
    where
      walk_of : Result (List Bool) Stop
      walk_of = walked calls asks a (place calls asks a ps i) (take 64 ps) 0 a.edges none

      admits_of : Bool
      admits_of = asks.admits (accepting_at calls asks a (place calls asks a ps i)) (place calls asks a ps i).number

      admitted : (t : Bool) → admits_of ≡ t → at_hand calls asks a ps i ≡ true → Sound calls asks a (kept (cond (not t) (Err (fault.NotAdmitted i)) (marking calls asks a ps i walk_of)) ps)
      admitted true e h = marked_sound ps i h e sound walk_of refl
      admitted false e h = sound

      taken : (t : Bool) → at_hand calls asks a ps i ≡ true → Sound calls asks a (kept (cond (not t) (Err fault.PlaceVacant) (cond (not admits_of) (Err (fault.NotAdmitted i)) (marking calls asks a ps i walk_of))) ps)
      taken true h = admitted admits_of refl h
      taken false h = sound

      near : (t : Bool) → at_hand calls asks a ps i ≡ t → Sound calls asks a (kept (cond (not t) (Err fault.OutOfRange) (cond (not (place calls asks a ps i).standing) (Err fault.PlaceVacant) (cond (not admits_of) (Err (fault.NotAdmitted i)) (marking calls asks a ps i walk_of)))) ps)
      near true e = taken (place calls asks a ps i).standing e
      near false e = sound

  opened_sound : (ps : List (Place Row)) → Sound calls asks a (opened calls asks a ps)
  opened_sound ps i s m =
      let v = vacant calls asks a in
      let front : take 64 (opened calls asks a ps) ≡ map (λ (p : Place Row). v) (take 64 ps) = take_of_front 64 (map (λ (p : Place Row). v) (take 64 ps)) ps (length-map (take 64 ps) (λ (p : Place Row). v)) in
      let is : place calls asks a (opened calls asks a ps) i ≡ v = ap (λ (l : List (Place Row)). get_or l i v) front ∙ get_or-map (λ (p : Place Row). v) (take 64 ps) i v in
      cc (ap (λ (q : Place Row). q.standing) (sym is) ∙ s)

  done_sound : (c : Call Z) (ps : List (Place Row)) → Sound calls asks a ps → Sound calls asks a (done calls asks a c ps)
  done_sound (Put i l n z) ps sound = put_sound ps i l n z sound
  done_sound (Strike i) ps sound = strike_sound ps i sound
  done_sound (Examine i) ps sound = examine_sound ps i sound
  done_sound Conclude ps sound = sound

  played_sound : (cs : List (Call Z)) (ps : List (Place Row)) → Sound calls asks a ps → Sound calls asks a (played calls asks a cs ps)
  played_sound [] ps sound = sound
  played_sound (c ∷ cs) ps sound = played_sound cs (done calls asks a c ps) (done_sound c ps sound)

  -- whatever calls were made on a new book, every marked node is right
  pub history_sound : (cs : List (Call Z)) (ps : List (Place Row)) → Sound calls asks a (played calls asks a cs (opened calls asks a ps))
  history_sound cs ps = played_sound cs (opened calls asks a ps) (opened_sound ps)
