-- A concluded book bounds the visits of every run.
use Rattle.std.proofs.Common.{◌≡◌, ℕ, suc, ◌+◌, ◌<◌, ◌≤◌, min, Bool, true, false, cond, ◌⊎◌, List, [], ◌∷◌, get_or, take, IfOk, Some, None, Ok, Err, Option, Result, position, sym, refl, ap, ◌∙◌, subst, inl, inr, ⊎_elim, arith}
use Rattle.std.proofs.lemmas.Bool.{eqb-true, and_parts, cases_lt}
use Rattle.std.specs.List.{ContainsAt, AllByRecursion}
use Rattle.sheet.specs.Automata.{Automaton, Edge, location}
use Rattle.sheet.specs.Runs.{Valuation, Holds, Run, starts, steps, visit, waited, all_zeroed, AtMostVisits}
use Rattle.zone.specs.Calls as zones
use Rattle.zone.specs.Laws.{Laws}
use Rattle.book.specs.Calls.{vacant, opened, place, covers_start, least_left, lesser, unmarked, verdict, concluding, played}
use Rattle.book.specs.Covering.{covers}
use Rattle.book.specs.Questions.{Asks, Keeps}
use Rattle.book.specs.Standing.{accepting_at, Held, Right, Sound}
use Rattle.book.specs.declared.call.Call.{Call}
use Rattle.book.specs.declared.fault.BookFault.{BookFault}
use Rattle.book.specs.declared.place.Place.{Place}
use Rattle.book.proofs.Reaching.{followed_holds}
use Rattle.book.proofs.Standing.{history_sound}
use Rattle.book.proofs.Walks.{none_passes}

cases_le : (m n : ℕ) → (m ≤ n) ⊎ (n ≤ m)
cases_le m n = ⊎_elim (λ (h : m < n). inl (omega arith)) (λ (h : n ≤ m). inr h) (cases_lt m n)

module _ {Z Row : Type 0} (calls : zones.Calls Z Row) (asks : Asks) (a : Automaton) where
  -- the least left is that of a place that covers the start
  pub least_found : (ps : List (Place Row)) (n : ℕ) → least_left calls asks a ps ≡ Some n → (m : ℕ) × (covers_start calls a (get_or ps m (vacant calls asks a)) ≡ true) × (asks.left (get_or ps m (vacant calls asks a)).number ≡ n)
  least_found [] n p = cc
  least_found (q ∷ ps) n p = go (covers_start calls a q) refl (least_left calls asks a ps) refl p (least_found ps)
    where
      go : (t : Bool) → covers_start calls a q ≡ t → (o : Option ℕ) → least_left calls asks a ps ≡ o → cond t (Some (lesser (asks.left q.number) o)) o ≡ Some n
          → ((n : ℕ) → least_left calls asks a ps ≡ Some n → (m : ℕ) × (covers_start calls a (get_or ps m (vacant calls asks a)) ≡ true) × (asks.left (get_or ps m (vacant calls asks a)).number ≡ n))
          → (m : ℕ) × (covers_start calls a (get_or (q ∷ ps) m (vacant calls asks a)) ≡ true) × (asks.left (get_or (q ∷ ps) m (vacant calls asks a)).number ≡ n)
      go false e o l h ih = let r = ih n (l ∙ h) in (suc r.0, r.1, r.2)
      go true e None l h ih = (0, e, cc)
      go true e (Some m) l h ih =
          let same : min (asks.left q.number) m ≡ n = cc in
          let r = ih m l in
          ⊎_elim (λ (below : asks.left q.number ≤ m). (0, e, omega arith)) (λ (above : m ≤ asks.left q.number). (suc r.0, r.1, omega (arith, r.2))) (cases_le (asks.left q.number) m)

  verdict_some : (o u : Option ℕ) (n : ℕ) → verdict o u ≡ Ok n → (o ≡ Some n) × (u ≡ None)
  verdict_some None u n p = cc
  verdict_some (Some m) None n p = (cc, refl)
  verdict_some (Some m) (Some i) n p = cc

  module _ (laws : Laws calls) (keeps : Keeps asks) (ps : List (Place Row)) (n : ℕ) (sound : Sound calls asks a ps) (concluded : concluding calls asks a ps ≡ Ok n) where
    granted : (least_left calls asks a (take 64 ps) ≡ Some n) × (position unmarked (take 64 ps) ≡ None)
    granted = verdict_some _ _ n concluded

    -- every node that stands is right
    all_right : (i : ℕ) → (place calls asks a ps i).standing ≡ true → Right calls asks a ps (place calls asks a ps i)
    all_right i s = sound i s (marked (place calls asks a ps i).marked refl)
      where
        no : unmarked (place calls asks a ps i) ≡ false
        no = none_passes (vacant calls asks a) unmarked refl (take 64 ps) granted.1 i

        marked : (t : Bool) → (place calls asks a ps i).marked ≡ t → t ≡ true
        marked true e = refl
        marked false e = let yes : unmarked (place calls asks a ps i) ≡ true = rw (s, e) in sym no ∙ yes

    -- a node that stands at l, holds v, and leaves enough visits
    pub record Meets (k l visits : ℕ) (v : Valuation) : Type 0 where
      pub at : ℕ
      pub standing : (place calls asks a ps at).standing ≡ true
      pub located : (place calls asks a ps at).location ≡ l
      pub holds : calls.holds (calls.of_row (place calls asks a ps at).zone) k v
      pub leaves : visits + asks.left (place calls asks a ps at).number ≤ n + visit a l

    met_at_start : (k : ℕ) → 0 < k → Meets k a.start (visit a a.start) (λ x. 0)
    met_at_start k p =
        let f = least_found (take 64 ps) n granted.0 in
        let c = and_parts _ _ f.1 in
        let b = and_parts _ _ c.0 in
        record { at = f.0; standing = b.0; located = eqb-true _ _ b.1; holds = laws.zero_sound _ k c.1 p; leaves = omega (arith, f.2) }

    met_after : (k l visits d : ℕ) (v : Valuation) (e : Edge) → 0 < k → Meets k l visits v → ContainsAt a.edges e → e.source ≡ l
        → AllByRecursion (Holds k (waited v d)) (location a l).limit → AllByRecursion (Holds k (waited v d)) e.guard → AllByRecursion (Holds k (all_zeroed (waited v d) e.resets)) (location a e.target).limit
        → Meets k e.target (visits + visit a e.target) (all_zeroed (waited v d) e.resets)
    met_after k l visits d v e pos m has source limit guard target = go held.covered
      where
        p : Place Row
        p = place calls asks a ps m.at

        held : Held calls asks a ps p.leans p e
        held = (all_right m.at m.standing).edges e has (source ∙ sym m.located)

        reached : calls.holds held.zone k (all_zeroed (waited v d) e.resets)
        reached = followed_holds calls laws a (calls.of_row p.zone) held.zone e k d v pos held.leads m.holds (subst (λ (x : ℕ). AllByRecursion (Holds k (waited v d)) (location a x).limit) (sym source) limit) guard target

        go : (calls.empty held.zone ≡ true) ⊎ ((j : ℕ) × (get_or p.leans j false ≡ true) × (covers calls asks (accepting_at calls asks a p) p.number e.target held.zone (place calls asks a ps j) ≡ true))
            → Meets k e.target (visits + visit a e.target) (all_zeroed (waited v d) e.resets)
        go (inl none) = absurd (laws.empty_sound held.zone k _ none pos reached)
        go (inr c) =
            let w = and_parts _ _ c.2 in
            let q = and_parts _ _ w.0 in
            let s = and_parts _ _ q.0 in
            let passed = keeps.passes_left (accepting_at calls asks a p) p.number (place calls asks a ps c.0).number q.1 in
            let same : cond (accepting_at calls asks a p) 1 0 ≡ visit a l = ap (visit a) m.located in
            record {
              at = c.0;
              standing = s.0;
              located = eqb-true _ _ s.1;
              holds = laws.within_sound held.zone _ k _ w.1 pos reached;
              leaves = omega (arith, m.leaves, passed, same);
            }

    met : (k l visits : ℕ) (v : Valuation) → 0 < k → Run a k l v visits → Meets k l visits v
    met k _ _ _ pos (starts h) = met_at_start k pos
    met k _ _ _ pos (steps {l} {n = visits} {v} d e run has source limit guard target) = met_after k l visits d v e pos (met k l visits v pos run) has source limit guard target

    bounded : (k l visits : ℕ) (v : Valuation) → 0 < k → Meets k l visits v → visits ≤ n
    bounded k l visits v pos m = go (accepting_at calls asks a p) refl
      where
        p : Place Row
        p = place calls asks a ps m.at

        go : (t : Bool) → accepting_at calls asks a p ≡ t → visits ≤ n
        go true e =
            let one : visit a l ≡ 1 = ap (visit a) (sym m.located) ∙ ap (λ t. cond t 1 0) e in
            let left = keeps.admits_left p.number (subst (λ (t : Bool). asks.admits t p.number ≡ true) e (all_right m.at m.standing).admitted) in
            omega (arith, m.leaves, left, one)
        go false e =
            let none : visit a l ≡ 0 = ap (visit a) (sym m.located) ∙ ap (λ t. cond t 1 0) e in
            omega (arith, m.leaves, none)

    concluded_bounds : AtMostVisits a n
    concluded_bounds k l visits v pos run = bounded k l visits v pos (met k l visits v pos run)

  -- whatever calls were made on a new book: if it concludes with n, no run has more than n visits
  pub history_bounds : Laws calls → Keeps asks → (history : List (Call Z)) (first : List (Place Row)) (n : ℕ) → concluding calls asks a (played calls asks a history (opened calls asks a first)) ≡ Ok n → AtMostVisits a n
  history_bounds laws keeps history first n c = concluded_bounds laws keeps (played calls asks a history (opened calls asks a first)) n (history_sound calls asks a history first) c

  -- the same of what a book concludes, granted or refused
  pub concluded_made : Laws calls → Keeps asks → (ps : List (Place Row)) (r : Result ℕ BookFault) → r ≡ concluding calls asks a ps → (history : List (Call Z)) (first : List (Place Row)) → ps ≡ played calls asks a history (opened calls asks a first) → IfOk r (AtMostVisits a)
  concluded_made laws keeps ps (Ok n) is history first came = history_bounds laws keeps history first n (sym (is ∙ ap (concluding calls asks a) came))
  concluded_made laws keeps ps (Err e) is history first came = tt
