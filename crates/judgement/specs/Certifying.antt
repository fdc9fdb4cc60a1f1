-- What the records of a certificate come to, in a book on 64 places of its own.
use Rattle.std.specs.Prelude.{ℕ, ◌-◌, Bool, false, cond, List, [], ◌∷◌, map, length, replicate, Some, None, Ok, Err, Option, Result, ◌==◌, slice_index, slice_index_or}
use Rattle.std.specs.List.{range_with_len}
use Rattle.reader.specs.declared.fault.FileFault.{FileFault}
use Rattle.reader.specs.Endings.{Ending}
use Rattle.sheet.specs.Automata.{Automaton}
use Rattle.zone.specs.Calls as zones
use Rattle.book.specs.Calls.{vacant, opened, examining, concluding}
use Rattle.book.specs.Faults.{place_of}
use Rattle.book.specs.Following.{and_then}
use Rattle.book.specs.Questions.{Asks}
use Rattle.book.specs.declared.fault.BookFault.{BookFault}
use Rattle.book.specs.declared.place.Place.{Place}
use Rattle.judgement.specs.Nodes.{in_book, put_latest, all_advanced}
use Rattle.reader.specs.Readings.{Sited}
use Rattle.judgement.specs.Parts.{Part, book, node, bound, end, other, part_of}
use Rattle.judgement.specs.declared.fault.CheckFault.{CheckFault}
use Rattle.judgement.specs.declared.fault.CheckFault.TheVariants as fault

-- the record is the node of this place
abbrev pub names_place : ℕ → Part → Bool
names_place i (node place location number) = place == i
names_place i (bound j k strict constant) = false
names_place i end = false
names_place i (book kind question) = false
names_place i other = false

-- the offset of the first node record that names place i, and 0 where none does
abbrev pub node_offset : List Sited → ℕ → ℕ
node_offset [] i = 0
node_offset (x ∷ xs) i = cond (names_place i (part_of x.entry)) x.offset (node_offset xs i)

-- the offset of the last record, and 0 where there is none
abbrev pub last_offset : List Sited → ℕ
last_offset xs = slice_index (map (λ x. x.offset) xs) (length xs - 1)

-- a fault at a node is at the offset of its record, any other at the end of the file
abbrev pub offset_by : List Sited → Option ℕ → ℕ
offset_by xs None = last_offset xs
offset_by xs (Some place) = node_offset xs place

-- what is concluded, with the offset of a fault
abbrev pub concluded : List Sited → Result ℕ BookFault → Result ℕ CheckFault
concluded xs (Ok n) = Ok n
concluded xs (Err f) = Err (fault.Book f (offset_by xs (place_of f)))

-- a reader's answer
abbrev pub in_file : {X : Type 0} → Result X FileFault → Result X CheckFault
in_file (Ok x) = Ok x
in_file (Err f) = Err (fault.File f)

-- a node stands in place i
abbrev pub stands : {Row : Type 0} → List (Place Row) → ℕ → Bool
stands ps i = slice_index_or (map (λ p. p.standing) ps) i false

module _ {Z Row : Type 0} (calls : zones.Calls Z Row) (asks : Asks) (a : Automaton) where
  -- 64 vacant places
  abbrev pub own_places : List (Place Row)
  own_places = replicate 64 (vacant calls asks a)

  -- place i examined, if a node stands there
  abbrev pub examined_at : List Sited → List (Place Row) → ℕ → Result (List (Place Row)) CheckFault
  examined_at xs ps i = cond (stands ps i) (in_book (node_offset xs i) (examining calls asks a ps i)) (Ok ps)

  -- some places examined one after another, up to the first refusal
  abbrev pub all_examined : List Sited → List (Place Row) → List ℕ → Result (List (Place Row)) CheckFault
  all_examined xs ps [] = Ok ps
  all_examined xs ps (i ∷ is) = and_then (examined_at xs ps i) (λ qs. all_examined xs qs is)

  -- from the places of an open book: nodes put, places examined upward, and concluded, up to the first refusal
  abbrev pub certifying_from : List (Place Row) → List Sited → Ending → Result ℕ CheckFault
  certifying_from ps xs ending =
      and_then (all_advanced calls asks a (ps, None) xs) λ s.
      and_then (in_file ending) λ done.
      and_then (put_latest calls asks a s) λ qs.
      and_then (all_examined xs qs (range_with_len 0 64)) λ rs.
      concluded xs (concluding calls asks a rs)

  -- the same of a new book
  abbrev pub certifying : List Sited → Ending → Result ℕ CheckFault
  certifying xs ending = certifying_from (opened calls asks a own_places) xs ending
