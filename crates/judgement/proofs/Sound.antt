-- The places that a certificate leaves are those of a list of calls on a new book, so the number that is concluded bounds the visits.
use Rattle.std.proofs.Common.{◌≡◌, ℕ, Bool, true, false, cond, List, [], ◌∷◌, ◌++◌, IfOk, Some, None, Ok, Err, Option, Result, sym, refl, ap, ◌∙◌, subst}
use Rattle.std.specs.List.{range_with_len}
use Rattle.reader.specs.Readings.{Sited}
use Rattle.reader.specs.Endings.{Ending}
use Rattle.sheet.specs.Automata.{Automaton}
use Rattle.sheet.specs.Runs.{AtMostVisits}
use Rattle.zone.specs.Calls as zones
use Rattle.zone.specs.Laws.{Laws}
use Rattle.book.specs.Calls.{kept, opened, putting, examining, concluding, played}
use Rattle.book.specs.Following.{and_then}
use Rattle.book.specs.Questions.{Asks, Keeps}
use Rattle.book.specs.declared.call.Call.{Call}
use Rattle.book.specs.declared.call.Call.TheVariants.{Put, Examine}
use Rattle.book.specs.declared.fault.BookFault.{BookFault}
use Rattle.book.specs.declared.place.Place.{Place}
use Rattle.book.proofs.Reaching.{then_ok}
use Rattle.book.proofs.Simulation.{history_bounds}
use Rattle.judgement.specs.Certifying.{node_offset, in_file, stands, concluded, examined_at, all_examined, certifying_from}
use Rattle.judgement.specs.Nodes.{Progress, in_book, progress, put_latest, with_bound, pending, advanced, advancing, all_advanced}
use Rattle.judgement.specs.Parts.{Part, book, node, bound, end, other, part_of}
use Rattle.judgement.specs.declared.fault.CheckFault.{CheckFault}
use Rattle.judgement.specs.declared.nodes.Pending.{Pending}

-- what an answer that is granted stands on

in_book_granted : {X : Type 0} (at : ℕ) (r : Result X BookFault) (x : X) → in_book at r ≡ Ok x → r ≡ Ok x
in_book_granted at (Ok y) x p = cc
in_book_granted at (Err f) x p = cc

pub ended_whole : (ending : Ending) (done : Unit {0}) → in_file ending ≡ Ok done → ending ≡ Ok tt
ended_whole (Ok _) done p = refl
ended_whole (Err f) done p = cc

concluded_granted : (xs : List Sited) (r : Result ℕ BookFault) (n : ℕ) → concluded xs r ≡ Ok n → r ≡ Ok n
concluded_granted xs (Ok m) n p = cc
concluded_granted xs (Err f) n p = cc

progress_places : {Z Row : Type 0} (r : Result (Option (Pending Z)) CheckFault) (ps : List (Place Row)) (t : Progress Z Row) → progress r ps ≡ Ok t → ps ≡ t.0
progress_places (Ok latest) ps t p = let same : (ps, latest) ≡ t = cc in ap (λ s. s.0) same
progress_places (Err f) ps t p = cc

module _ {Z Row : Type 0} (calls : zones.Calls Z Row) (asks : Asks) (a : Automaton) where
  -- some list of calls leads from the places ps to the places qs
  Reached : List (Place Row) → List (Place Row) → Type 0
  Reached ps qs = (h : List (Call Z)) × (played calls asks a h ps ≡ qs)

  played_on : (h j : List (Call Z)) (ps : List (Place Row)) → played calls asks a (h ++ j) ps ≡ played calls asks a j (played calls asks a h ps)
  played_on [] j ps = refl
  played_on (c ∷ h) j ps = played_on h j _

  reached_none : (ps qs : List (Place Row)) → ps ≡ qs → Reached ps qs
  unfolding Reached
  reached_none ps qs e = ([], e)

  reached_then : (ps qs rs : List (Place Row)) → Reached ps qs → Reached qs rs → Reached ps rs
  unfolding Reached
  reached_then ps qs rs (h, e) (j, d) = (h ++ j, played_on h j ps ∙ ap (played calls asks a j) e ∙ d)

  put_reached : (ps : List (Place Row)) (latest : Option (Pending Z)) (qs : List (Place Row)) → put_latest calls asks a (ps, latest) ≡ Ok qs → Reached ps qs
  unfolding Reached
  put_reached ps None qs p = reached_none ps qs cc
  put_reached ps (Some n) qs p = (Put n.place n.location n.number n.zone ∷ [], ap (λ r. kept r ps) (in_book_granted n.offset (putting calls asks a ps n.place n.location n.number n.zone) qs p))

  node_reached : (s t : Progress Z Row) (at place location number : ℕ) (fits : Bool) (e : CheckFault)
      → cond fits (and_then (put_latest calls asks a s) (λ ps. Ok (ps, Some (pending at place location number (calls.whole a.clocks))))) (Err e) ≡ Ok t → Reached s.0 t.0
  node_reached s t at place location number true e p =
      let put = then_ok (put_latest calls asks a s) _ t p in
      let same : (put.0, Some (pending at place location number (calls.whole a.clocks))) ≡ t = cc in
      subst (Reached s.0) (ap (λ u. u.0) same) (put_reached s.0 s.1 put.0 put.1)
  node_reached s t at place location number false e p = absurd cc

  advanced_reached : (s t : Progress Z Row) (at : ℕ) (p : Part) → advanced calls asks a s at p ≡ Ok t → Reached s.0 t.0
  advanced_reached s t at (node place location number) e = node_reached s t at place location number _ _ e
  advanced_reached (ps, latest) t at (bound i j strict constant) e = reached_none ps t.0 (progress_places (with_bound calls latest at i j strict constant) ps t e)
  advanced_reached s t at end e = let same : s ≡ t = cc in reached_none s.0 t.0 (ap (λ u. u.0) same)
  advanced_reached s t at (book kind question) e = absurd cc
  advanced_reached s t at other e = absurd cc

  all_advanced_reached : (xs : List Sited) (s t : Progress Z Row) → all_advanced calls asks a s xs ≡ Ok t → Reached s.0 t.0
  all_advanced_reached [] s t p = let same : s ≡ t = cc in reached_none s.0 t.0 (ap (λ u. u.0) same)
  all_advanced_reached (x ∷ xs) s t p =
      let one = then_ok (advancing calls asks a s x) (λ u. all_advanced calls asks a u xs) t p in
      reached_then s.0 one.0.0 t.0 (advanced_reached s one.0 x.offset (part_of x.entry) one.1) (all_advanced_reached xs one.0 t one.2)

  examined_by : (ps qs : List (Place Row)) (at i : ℕ) (t : Bool) → cond t (in_book at (examining calls asks a ps i)) (Ok ps) ≡ Ok qs → Reached ps qs
  unfolding Reached
  examined_by ps qs at i true p = (Examine i ∷ [], ap (λ r. kept r ps) (in_book_granted at (examining calls asks a ps i) qs p))
  examined_by ps qs at i false p = reached_none ps qs cc

  all_examined_reached : (xs : List Sited) (is : List ℕ) (ps qs : List (Place Row)) → all_examined calls asks a xs ps is ≡ Ok qs → Reached ps qs
  all_examined_reached xs [] ps qs p = reached_none ps qs cc
  all_examined_reached xs (i ∷ is) ps qs p =
      let one = then_ok (examined_at calls asks a xs ps i) (λ rs. all_examined calls asks a xs rs is) qs p in
      reached_then ps one.0 qs (examined_by ps one.0 (node_offset xs i) i (stands ps i) one.1) (all_examined_reached xs is one.0 qs one.2)

  -- a number is given only for a file that was read to its end, by a list of calls on the book
  granted : (ps : List (Place Row)) (xs : List Sited) (ending : Ending) (n : ℕ) → certifying_from calls asks a ps xs ending ≡ Ok n
      → (ending ≡ Ok tt) × ((h : List (Call Z)) × (concluding calls asks a (played calls asks a h ps) ≡ Ok n))
  unfolding Reached
  granted ps xs ending n p =
      let put = then_ok (all_advanced calls asks a (ps, None) xs) _ n p in
      let end = then_ok (in_file ending) _ n put.2 in
      let last = then_ok (put_latest calls asks a put.0) _ n end.2 in
      let marked = then_ok (all_examined calls asks a xs last.0 (range_with_len 0 64)) _ n last.2 in
      let way = reached_then ps put.0.0 marked.0 (all_advanced_reached xs (ps, None) put.0 put.1)
      (reached_then put.0.0 last.0 marked.0 (put_reached put.0.0 put.0.1 last.0 last.1) (all_examined_reached xs (range_with_len 0 64) last.0 marked.0 marked.1)) in
      (ended_whole ending end.0 end.1, (way.0, ap (concluding calls asks a) way.1 ∙ concluded_granted xs (concluding calls asks a marked.0) n marked.2))

  -- the number that a new book concludes bounds the visits of every run
  pub certified_bounds : Laws calls → Keeps asks → (first : List (Place Row)) (xs : List Sited) (ending : Ending) (r : Result ℕ CheckFault)
      → r ≡ certifying_from calls asks a (opened calls asks a first) xs ending → IfOk r (λ n. (ending ≡ Ok tt) × AtMostVisits a n)
  certified_bounds laws keeps first xs ending (Ok n) p =
      let g = granted (opened calls asks a first) xs ending n (sym p) in
      (g.0, history_bounds calls asks a laws keeps g.1.0 first n g.1.1)
  certified_bounds laws keeps first xs ending (Err f) p = tt
