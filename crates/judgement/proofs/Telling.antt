-- Every file gets a verdict, and the line of a number is that of no other verdict.
use Rattle.std.proofs.Common.{◌≡◌, ℕ, ◌^◌, ◌<◌, ◌≤◌, Bool, true, false, cond, ◌&&◌, eqb, ltb, leb, List, [], ◌∷◌, length, take, drop, ℤ, Some, None, Ok, Err, codes, decimal, Option, Result, refl, subst, ⊎_elim, arith}
use Rattle.std.proofs.lemmas.Fmt.{decimal_injective}
use Rattle.std.proofs.lemmas.List.{append_cancel_left, append_cancel_right}
use Rattle.std.proofs.lemmas.Bool.{cases_lt}
use Rattle.std.specs.List.{range_with_len}
use Rattle.reader.specs.Entries.{Entry}
use Rattle.reader.specs.Files.{kinds}
use Rattle.reader.specs.Order.{has, allowed}
use Rattle.reader.specs.Readings.{Sited, sited, reading}
use Rattle.reader.specs.declared.fault.FileFault.{FileFault}
use Rattle.reader.specs.declared.kind.Kind.TheVariants as kind
use Rattle.reader.specs.Endings.{Ending}
use Rattle.sheet.specs.Automata.{Automaton, location}
use Rattle.sheet.specs.Described.{count, described}
use Rattle.sheet.specs.Judged.{drafted, fits, room, refusal_by}
use Rattle.sheet.specs.Ready.{hold_at_zero, readiness}
use Rattle.sheet.specs.declared.fault.SheetFault.{SheetFault}
use Rattle.sheet.specs.declared.fault.SheetFault.TheVariants.{OutOfPlace, StartOutsideLimit}
use Rattle.zone.specs.BoxCalls.{box_calls}
use Rattle.zone.specs.Calls as zones
use Rattle.zone.specs.DifferenceCalls.{difference_calls}
use Rattle.zone.specs.declared.fault.ZoneFault.{ZoneFault}
use Rattle.book.specs.Calls.{concluding}
use Rattle.book.specs.Following.{and_then}
use Rattle.book.specs.Questions.{Asks, unreachability, emptiness}
use Rattle.book.specs.declared.fault.BookFault.{BookFault}
use Rattle.book.specs.declared.place.Place.{Place}
use Rattle.judgement.specs.Certifying.{node_offset, in_file, stands, concluded, examined_at, all_examined, certifying_from}
use Rattle.judgement.specs.Described.{Bounds}
use Rattle.judgement.specs.Drafting.{sheet_length, taken_unless, taking, drafting, in_sheet, sealing}
use Rattle.judgement.specs.Judged.{certified, after_sheet, from_sheet, judging, Judgeable}
use Rattle.judgement.specs.Lines.{verdict_text, line}
use Rattle.judgement.specs.Nodes.{Progress, progress, in_book, in_bound, with_zone, bounded, with_bound, put_latest, advanced, advancing, all_advanced}
use Rattle.judgement.specs.Parts.{Part, book, node, bound, end, other, part_of}
use Rattle.judgement.specs.declared.fault.CheckFault.{CheckFault}
use Rattle.judgement.specs.declared.nodes.Pending.{Pending}
use Rattle.judgement.specs.declared.verdict.Verdict.{Verdict}
use Rattle.judgement.specs.declared.verdict.Verdict.TheVariants.{Stands, Refused}

-- each part of the judgement gives a fault that is a refusal

told_then : {X Y : Type 0} (r : Result X CheckFault) (f : X → Result Y CheckFault) → Judgeable r → ((x : X) → Judgeable (f x)) → Judgeable (and_then r f)
told_then (Ok x) f h k = k x
told_then (Err e) f h k = h

told_if : {X : Type 0} (t : Bool) (r s : Result X CheckFault) → Judgeable r → Judgeable s → Judgeable (cond t r s)
told_if true r s h k = h
told_if false r s h k = k

told_book : {X : Type 0} (at : ℕ) (r : Result X BookFault) → Judgeable (in_book at r)
told_book at (Ok x) = tt
told_book at (Err f) = refl

told_bound : {X : Type 0} (at place : ℕ) (r : Result X ZoneFault) → Judgeable (in_bound at place r)
told_bound at place (Ok x) = tt
told_bound at place (Err f) = refl

told_file : {X : Type 0} (r : Result X FileFault) → Judgeable (in_file r)
told_file (Ok x) = tt
told_file (Err f) = refl

told_concluded : (xs : List Sited) (r : Result ℕ BookFault) → Judgeable (concluded xs r)
told_concluded xs (Ok n) = tt
told_concluded xs (Err f) = refl

told_progress : {Z Row : Type 0} (r : Result (Option (Pending Z)) CheckFault) (ps : List (Place Row)) → Judgeable r → Judgeable (progress r ps)
told_progress (Ok latest) ps h = tt
told_progress (Err f) ps h = h

-- the sheet's own refusals
told_taken : (es : List Entry) (x : Sited) (placed in_range roomy : Bool) → Judgeable (taken_unless es x (refusal_by placed in_range roomy))
told_taken es x true true true = tt
told_taken es x true true false = refl
told_taken es x true false roomy = refl
told_taken es x false in_range roomy = refl

told_taking : (es : List Entry) (x : Sited) → Judgeable (taking es x)
told_taking es x =
    told_taken es x (drafted x.entry.kind && allowed (kinds es) x.entry.kind)
    (fits (described es).clocks (length (described es).locations) x.entry.kind x.entry)
    (room (count kind.Edge es) (count kind.Limit es) (count kind.Guard es) x.entry.kind)

told_drafting : (xs : List Sited) (es : List Entry) → Judgeable (drafting es xs)
told_drafting [] es = tt
told_drafting (x ∷ xs) es = told_then (taking es x) (λ ds. drafting ds xs) (told_taking es x) (λ ds. told_drafting xs ds)

-- whether a draft is ready, by its two tests
abbrev ready_by : Bool → Bool → Result (Unit {0}) SheetFault
ready_by headed holds = cond headed (cond holds (Ok tt) (Err StartOutsideLimit)) (Err OutOfPlace)

told_ready : (at : ℕ) (headed holds : Bool) → Judgeable (in_sheet at (ready_by headed holds))
told_ready at true true = tt
told_ready at true false = refl
told_ready at false holds = refl

told_sealing : (es : List Entry) (at : ℕ) → Judgeable (sealing es at)
told_sealing es at =
    told_then (in_sheet at (readiness es)) (λ done. Ok (described es))
    (told_ready at (has kind.Head (kinds es)) (hold_at_zero (location (described es) (described es).start).limit))
    (λ done. tt)

module _ {Z Row : Type 0} (calls : zones.Calls Z Row) where
  told_with_bound : (latest : Option (Pending Z)) (at i j strict : ℕ) (c : ℤ) → Judgeable (with_bound calls latest at i j strict c)
  told_with_bound None at i j strict c = refl
  told_with_bound (Some n) at i j strict c =
      let zone = calls.constrained n.zone (record { i = i; j = j; strict = eqb strict 1; constant = c }) in
      told_then (bounded calls n at i j strict c) (λ m. Ok (Some m))
      (told_if (leb strict 1) _ _ (told_then (in_bound at n.place zone) (λ z. Ok (with_zone n z)) (told_bound at n.place zone) (λ z. tt)) refl)
      (λ m. tt)

  module _ (asks : Asks) (a : Automaton) where
    told_put : (s : Progress Z Row) → Judgeable (put_latest calls asks a s)
    told_put (ps, None) = tt
    told_put (ps, Some n) = told_book n.offset _

    told_advanced : (s : Progress Z Row) (at : ℕ) (p : Part) → Judgeable (advanced calls asks a s at p)
    told_advanced s at (node place location number) = told_if (ltb place 64 && ltb location (length a.locations)) _ _ (told_then (put_latest calls asks a s) _ (told_put s) (λ ps. tt)) refl
    told_advanced (ps, latest) at (bound i j strict constant) = told_progress (with_bound calls latest at i j strict constant) ps (told_with_bound latest at i j strict constant)
    told_advanced s at end = tt
    told_advanced s at (book kind question) = refl
    told_advanced s at other = refl

    told_nodes : (xs : List Sited) (s : Progress Z Row) → Judgeable (all_advanced calls asks a s xs)
    told_nodes [] s = tt
    told_nodes (x ∷ xs) s = told_then (advancing calls asks a s x) (λ t. all_advanced calls asks a t xs) (told_advanced s x.offset (part_of x.entry)) (λ t. told_nodes xs t)

    told_examined : (xs : List Sited) (is : List ℕ) (ps : List (Place Row)) → Judgeable (all_examined calls asks a xs ps is)
    told_examined xs [] ps = tt
    told_examined xs (i ∷ is) ps =
        told_then (examined_at calls asks a xs ps i) (λ qs. all_examined calls asks a xs qs is)
        (told_if (stands ps i) _ _ (told_book (node_offset xs i) _) tt)
        (λ qs. told_examined xs is qs)

    told_certifying : (ps : List (Place Row)) (xs : List Sited) (ending : Ending) → Judgeable (certifying_from calls asks a ps xs ending)
    told_certifying ps xs ending =
        told_then (all_advanced calls asks a (ps, None) xs) _ (told_nodes xs (ps, None)) λ s.
        told_then (in_file ending) _ (told_file ending) λ done.
        told_then (put_latest calls asks a s) _ (told_put s) λ qs.
        told_then (all_examined calls asks a xs qs (range_with_len 0 64)) _ (told_examined xs (range_with_len 0 64) qs) λ rs.
        told_concluded xs (concluding calls asks a rs)

told_certified : (ending : Ending) (at : ℕ) (p : Part) (a : Automaton) (xs : List Sited) → Judgeable (certified ending at p a xs)
told_certified ending at (book kind question) a xs =
    told_if (eqb kind 0) _ _
    (told_if (eqb question 0) _ _ (told_certifying difference_calls unreachability a _ xs ending) (told_if (eqb question 1) _ _ (told_certifying difference_calls emptiness a _ xs ending) refl))
    (told_if (eqb kind 1) _ _
    (told_if (eqb question 0) _ _ (told_certifying box_calls unreachability a _ xs ending) (told_if (eqb question 1) _ _ (told_certifying box_calls emptiness a _ xs ending) refl))
    refl)
told_certified ending at (node place location number) a xs = refl
told_certified ending at (bound i j strict constant) a xs = refl
told_certified ending at end a xs = refl
told_certified ending at other a xs = refl

told_after : (ending : Ending) (len : ℕ) (a : Automaton) (xs : List Sited) → Judgeable (after_sheet ending len a xs)
told_after ending len a [] = refl
told_after ending len a (x ∷ xs) = told_certified ending x.offset (part_of x.entry) a xs

told_from : (ending : Ending) (len : ℕ) (es : List Entry) (xs : List Sited) → Judgeable (from_sheet ending len es xs)
told_from ending len es [] = refl
told_from ending len es (x ∷ xs) = told_then (sealing es x.offset) (λ a. after_sheet ending len a xs) (told_sealing es x.offset) (λ a. told_after ending len a xs)

-- every file gets a verdict
pub judgeable : (bytes : List ℕ) → Judgeable (judging bytes)
judgeable bytes =
    let xs = sited 0 (reading bytes).0 in
    told_then (drafting [] (take (sheet_length xs) xs)) (λ es. from_sheet (reading bytes).1 (length bytes) es (drop (sheet_length xs) xs)) (told_drafting (take (sheet_length xs) xs) []) (λ es. told_from (reading bytes).1 (length bytes) es (drop (sheet_length xs) xs))

-- more visits than some bound are no fewer than its visits
looser : (bytes : List ℕ) (m n : ℕ) → m ≤ n → Bounds bytes m → Bounds bytes n
looser bytes m n h b = record {
  automaton = b.automaton;
  certificate = b.certificate;
  describes = b.describes;
  visits = λ k l visits v positive run. let few : visits ≤ m = b.visits k l visits v positive run in omega arith;
}

-- the line of a number is that of no other verdict
pub line_bounds : (bytes : List ℕ) (v : Verdict) (n : ℕ) → ((m : ℕ) → v ≡ Stands m → (m < 2 ^ 64) × Bounds bytes m) → line v ≡ line (Stands n) → Bounds bytes n
line_bounds bytes (Stands m) n known p =
    let k = known m refl in
    let same = append_cancel_left (codes "STANDS ") (decimal m) (decimal n) (append_cancel_right (verdict_text (Stands m)) (verdict_text (Stands n)) (0x0a ∷ []) p) in
    ⊎_elim
    (λ small. subst (Bounds bytes) (decimal_injective m n k.0 small same) k.1)
    (λ large. looser bytes m n (omega (arith, k.0)) k.1)
    (cases_lt n (2 ^ 64))
line_bounds bytes (Refused r) n known p = absurd (let z : ◌≡◌ {A = ℕ} 82 83 = cc in omega arith)
