-- The nodes of a certificate, record by record, as they are put in a book's places.
use Rattle.std.specs.Prelude.{ℕ, cond, ◌&&◌, List, [], ◌∷◌, length, ℤ, Some, None, Ok, Err, Option, Result, ◌==◌, nat_le, nat_lt}
use Rattle.reader.specs.declared.fault.FileFault.TheVariants as file
use Rattle.sheet.specs.Automata.{Automaton}
use Rattle.zone.specs.Calls as zones
use Rattle.zone.specs.declared.fault.ZoneFault.{ZoneFault}
use Rattle.zone.specs.declared.fault.ZoneFault.TheVariants as zone_fault
use Rattle.book.specs.Calls.{putting}
use Rattle.book.specs.Following.{and_then}
use Rattle.book.specs.Questions.{Asks}
use Rattle.book.specs.declared.fault.BookFault.{BookFault}
use Rattle.book.specs.declared.fault.BookFault.TheVariants as book_fault
use Rattle.book.specs.declared.place.Place.{Place}
use Rattle.reader.specs.Readings.{Sited}
use Rattle.judgement.specs.Parts.{Part, book, node, bound, end, other, part_of}
use Rattle.judgement.specs.declared.fault.CheckFault.{CheckFault}
use Rattle.judgement.specs.declared.fault.CheckFault.TheVariants as fault
use Rattle.judgement.specs.declared.nodes.Pending.{Pending}

-- a book's answer, with the offset at which it is given
abbrev pub in_book : {X : Type 0} → ℕ → Result X BookFault → Result X CheckFault
in_book at (Ok x) = Ok x
in_book at (Err f) = Err (fault.Book f at)

-- a zone's answer on a bound of the node in a place, with the offset of the bound
abbrev pub in_bound : {X : Type 0} → ℕ → ℕ → Result X ZoneFault → Result X CheckFault
in_bound at place (Ok x) = Ok x
in_bound at place (Err f) = Err (fault.Bound f at place)

module _ {Z : Type 0} where
  abbrev pub pending : (offset place location number : ℕ) → Z → Pending Z
  pending offset place location number zone = record { offset = offset; place = place; location = location; number = number; zone = zone }

  -- the node with another zone
  abbrev pub with_zone : Pending Z → Z → Pending Z
  with_zone n zone = pending n.offset n.place n.location n.number zone

-- the places, and the latest node, which is not put yet
abbrev pub Progress : Type 0 → Type 0 → Type 0
Progress Z Row = List (Place Row) × Option (Pending Z)

module _ {Z Row : Type 0} where
  -- the progress of a call: the latest node that it answers, and the places that it leaves
  abbrev pub progress : Result (Option (Pending Z)) CheckFault → List (Place Row) → Result (Progress Z Row) CheckFault
  progress (Ok latest) ps = Ok (ps, latest)
  progress (Err f) ps = Err f

-- the places that a call leaves, where it is granted
abbrev pub places_by : {Row : Type 0} → Result (Unit {0}) CheckFault → List (Place Row) → Result (List (Place Row)) CheckFault
places_by (Ok done) ps = Ok ps
places_by (Err f) ps = Err f

module _ {Z Row : Type 0} (calls : zones.Calls Z Row) where
  -- a node under one more bound, which stands at offset `at`
  abbrev pub bounded : Pending Z → (at i j strict : ℕ) → ℤ → Result (Pending Z) CheckFault
  bounded n at i j strict c =
      cond (nat_le strict 1)
      (and_then (in_bound at n.place (calls.constrained n.zone (record { i = i; j = j; strict = (strict == 1); constant = c }))) (λ z. Ok (with_zone n z)))
      (Err (fault.Bound zone_fault.OutOfRange at n.place))

  -- the latest node under a bound; a bound before any node is out of place
  abbrev pub with_bound : Option (Pending Z) → (at i j strict : ℕ) → ℤ → Result (Option (Pending Z)) CheckFault
  with_bound None at i j strict c = Err (fault.File (file.OutOfPlace at))
  with_bound (Some n) at i j strict c = and_then (bounded n at i j strict c) (λ m. Ok (Some m))

  module _ (asks : Asks) (a : Automaton) where
    -- the latest node put
    abbrev pub put_latest : Progress Z Row → Result (List (Place Row)) CheckFault
    put_latest (ps, None) = Ok ps
    put_latest (ps, Some n) = in_book n.offset (putting calls asks a ps n.place n.location n.number n.zone)

    -- a node record, judged before the node before it is put
    abbrev pub with_node : Progress Z Row → (at place location number : ℕ) → Result (Progress Z Row) CheckFault
    with_node s at place location number =
        cond (nat_lt place 64 && nat_lt location (length a.locations))
        (and_then (put_latest s) (λ ps. Ok (ps, Some (pending at place location number (calls.whole a.clocks)))))
        (Err (fault.Book book_fault.OutOfRange at))

    -- one record of the certificate, by what it is
    abbrev pub advanced : Progress Z Row → ℕ → Part → Result (Progress Z Row) CheckFault
    advanced s at (node place location number) = with_node s at place location number
    advanced (ps, latest) at (bound i j strict constant) = progress (with_bound latest at i j strict constant) ps
    advanced s at end = Ok s
    advanced s at (book kind question) = Err (fault.File (file.OutOfPlace at))
    advanced s at other = Err (fault.File (file.OutOfPlace at))

    abbrev pub advancing : Progress Z Row → Sited → Result (Progress Z Row) CheckFault
    advancing s x = advanced s x.offset (part_of x.entry)

    -- all records of the certificate, up to the first refusal
    abbrev pub all_advanced : Progress Z Row → List Sited → Result (Progress Z Row) CheckFault
    all_advanced s [] = Ok s
    all_advanced s (x ∷ xs) = and_then (advancing s x) (λ t. all_advanced t xs)
