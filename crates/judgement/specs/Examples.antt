-- Worked examples, in one statement.
use Rattle.std.specs.Prelude.{◌≡◌, ℕ, Bool, true, false, List, [], ◌∷◌, ◌++◌, map, take, is_ok, Ok, Err, codes, Result}
use Rattle.reader.specs.Readings.{reading, sited}
use Rattle.sheet.specs.Automata.{Automaton}
use Rattle.sheet.specs.Described.{described}
use Rattle.zone.specs.BoxCalls.{box_calls}
use Rattle.zone.specs.Calls as zones
use Rattle.zone.specs.DifferenceCalls.{difference_calls}
use Rattle.zone.specs.declared.fault.ZoneFault.{ZoneFault}
use Rattle.zone.specs.declared.fault.ZoneFault.TheVariants as zone_fault
use Rattle.book.specs.Calls.{told, opened, examining, concluding, played}
use Rattle.book.specs.Following.{above, below, all_constrained, and_then}
use Rattle.book.specs.Questions.{Asks, emptiness}
use Rattle.book.specs.declared.call.Call.{Call}
use Rattle.book.specs.declared.call.Call.TheVariants.{Put, Strike, Examine}
use Rattle.book.specs.declared.fault.BookFault.{BookFault}
use Rattle.book.specs.declared.fault.BookFault.TheVariants.{Uncovered, Unmarked}
use Rattle.book.specs.declared.place.Place.{Place}
use Rattle.judgement.specs.Certifying.{own_places}
use Rattle.judgement.specs.Drafting.{sheet_length}
use Rattle.judgement.specs.Judged.{printed}
use Rattle.judgement.specs.Lines.{ended_line}

-- one clock x; location 0 under x ≤ c, location 1 accepting; an edge from 0 to 1 at x ≥ 2 that sets x to zero; c is given by its low and its high byte
abbrev pub one_visit_sheet : (low high : ℕ) → List ℕ
one_visit_sheet low high =
    0x01 ∷ 0x01 ∷ 0x02 ∷ 0x00 ∷ 0x02 ∷ 0x01 ∷ 0x03 ∷ 0x00 ∷ 0x01 ∷ 0x01 ∷ low ∷ high ∷ 0x04 ∷ 0x00 ∷ 0x01 ∷ 0x01 ∷ 0x05 ∷ 0x01 ∷ 0x03 ∷ 0x02 ∷ 0x00 ∷ 0x06 ∷ []

-- a node at x = 0
abbrev pub node_at_zero : (place location number : ℕ) → List ℕ
node_at_zero place location number = 0x11 ∷ place ∷ location ∷ number ∷ 0x00 ∷ 0x12 ∷ 0x01 ∷ 0x00 ∷ 0x00 ∷ 0x00 ∷ 0x00 ∷ []

-- a file of that sheet and some nodes
abbrev pub one_visit_file : (low high kind question : ℕ) → List ℕ → List ℕ
one_visit_file low high kind question nodes = one_visit_sheet low high ++ (0x10 ∷ kind ∷ question ∷ nodes ++ 0x1f ∷ [])

-- with a node at each location, the second of this number, under x ≤ 5 at location 0
abbrev pub one_visit : (kind question number : ℕ) → List ℕ
one_visit kind question number = one_visit_file 0x05 0x00 kind question (node_at_zero 0 0 1 ++ node_at_zero 1 1 number)

-- the automaton that the records of a file before its sheet end describe
abbrev pub automaton_in : List ℕ → Automaton
automaton_in bytes = let xs = sited 0 (reading bytes).0 in described (map (λ x. x.entry) (take (sheet_length xs) xs))

-- an accepting start with an edge to itself, and nodes of the whole zone at numbers 7 and 6
abbrev pub self_loop : ℕ → List ℕ
self_loop kind = 0x01 ∷ 0x01 ∷ 0x01 ∷ 0x00 ∷ 0x02 ∷ 0x00 ∷ 0x04 ∷ 0x00 ∷ 0x00 ∷ 0x00 ∷ 0x06 ∷ 0x10 ∷ kind ∷ 0x01 ∷ 0x11 ∷ 0x00 ∷ 0x00 ∷ 0x07 ∷ 0x00 ∷ 0x11 ∷ 0x01 ∷ 0x00 ∷ 0x06 ∷ 0x00 ∷ 0x1f ∷ []

module _ {Z Row : Type 0} (calls : zones.Calls Z Row) where
  -- the places after some calls on a new book
  abbrev pub left_by : Asks → Automaton → List (Call Z) → List (Place Row)
  left_by asks a history = played calls asks a history (opened calls asks a (own_places calls asks a))

  -- both nodes of the first file put and examined, and place 1 struck: what is concluded
  abbrev pub concluded_after_strike : Z → Result ℕ BookFault
  concluded_after_strike z =
      let a = automaton_in (one_visit 0 1 1) in
      concluding calls emptiness a (left_by emptiness a (Put 0 0 1 z ∷ Put 1 1 1 z ∷ Examine 0 ∷ Examine 1 ∷ Strike 1 ∷ []))

  -- x at most 0, in zones of one clock
  abbrev pub at_zero : Result Z ZoneFault
  at_zero = all_constrained calls (calls.whole 1) (above 1 0 ∷ [])

  -- whether x1 = x2 = 0, time, and then x1 ≥ 2 and x2 ≤ 1 leave an empty zone
  abbrev pub parted : Result Bool ZoneFault
  parted =
      and_then (all_constrained calls (calls.whole 2) (above 1 0 ∷ above 2 0 ∷ [])) λ z.
      and_then (all_constrained calls (calls.elapsed z) (below 1 2 ∷ above 2 1 ∷ [])) λ y.
      Ok (calls.empty y)

  -- what examining place i of the second file answers
  abbrev pub self_loop_examined : ℕ → Result (Unit {0}) BookFault
  self_loop_examined i =
      let a = automaton_in (self_loop 0) in
      let whole = calls.whole 1 in
      told (examining calls emptiness a (left_by emptiness a (Put 0 0 7 whole ∷ Put 1 0 6 whole ∷ [])) i)

  -- x bounded by a constant
  abbrev pub bounded_by : ℕ → Result Z ZoneFault
  bounded_by c = calls.constrained (calls.whole 1) (above 1 c)

pub record WorkedExamples : Type 0 where
  -- the first file, with difference-bound matrices and with boxes
  pub differences : printed (one_visit 0 1 1) ≡ ended_line (codes "STANDS 1")
  pub boxes : printed (one_visit 1 1 1) ≡ ended_line (codes "STANDS 1")
  -- with the second node's number 0, and as unreachability
  pub number_0 : printed (one_visit 0 1 0) ≡ ended_line (codes "REFUSED 12 B 36 1 -")
  pub unreachability : printed (one_visit 0 0 1) ≡ ended_line (codes "REFUSED 12 B 36 1 -")
  -- without the second node and its bound
  pub one_node : printed (one_visit_file 0x05 0x00 0 1 (node_at_zero 0 0 1)) ≡ ended_line (codes "REFUSED 13 B 25 0 0")
  -- place 1 struck after both examines: place 0 has no mark
  pub struck_differences : and_then (at_zero difference_calls) (λ z. Ok (concluded_after_strike difference_calls z)) ≡ Ok (Err (Unmarked 0))
  pub struck_boxes : and_then (at_zero box_calls) (λ z. Ok (concluded_after_strike box_calls z)) ≡ Ok (Err (Unmarked 0))
  -- an empty difference zone, but no empty box
  pub parted_differences : parted difference_calls ≡ Ok true
  pub parted_boxes : parted box_calls ≡ Ok false
  -- the accepting start with an edge to itself: place 0 is granted, place 1 is not
  pub loop_granted : self_loop_examined difference_calls 0 ≡ Ok tt
  pub loop_uncovered : self_loop_examined difference_calls 1 ≡ Err (Uncovered 1 0)
  pub loop_granted_boxes : self_loop_examined box_calls 0 ≡ Ok tt
  pub loop_uncovered_boxes : self_loop_examined box_calls 1 ≡ Err (Uncovered 1 0)
  pub loop_printed : printed (self_loop 0) ≡ ended_line (codes "REFUSED 13 B 19 1 0")
  pub loop_printed_boxes : printed (self_loop 1) ≡ ended_line (codes "REFUSED 13 B 19 1 0")
  -- the constant 10,000 is taken and 10,001 is not, in an atom and in a bound
  pub atom_10000 : printed (one_visit_file 0x10 0x27 0 1 (node_at_zero 0 0 1 ++ node_at_zero 1 1 1)) ≡ ended_line (codes "STANDS 1")
  pub atom_10001 : printed (one_visit_file 0x11 0x27 0 1 (node_at_zero 0 0 1 ++ node_at_zero 1 1 1)) ≡ ended_line (codes "REFUSED 4 S 6 - -")
  pub bound_10000 : is_ok (bounded_by difference_calls 10000) ≡ true
  pub bound_10001 : bounded_by difference_calls 10001 ≡ Err zone_fault.OutOfRange
  pub bound_10000_boxes : is_ok (bounded_by box_calls 10000) ≡ true
  pub bound_10001_boxes : bounded_by box_calls 10001 ≡ Err zone_fault.OutOfRange
