-- The verdict on a file, and the line that is printed for it.
use Rattle.std.specs.Prelude.{◌≡◌, ℕ, true, cond, ◌⊎◌, List, [], ◌∷◌, length, take, drop, is_some, Some, None, Ok, Err, Option, Result, ◌==◌}
use Rattle.std.specs.Option.{option_map}
use Rattle.reader.specs.Entries.{Entry}
use Rattle.reader.specs.Readings.{Sited, sited, reading}
use Rattle.reader.specs.declared.fault.FileFault.{FileFault}
use Rattle.reader.specs.declared.fault.FileFault.TheVariants.{Truncated, OutOfPlace}
use Rattle.reader.specs.Endings.{Ending}
use Rattle.sheet.specs.Automata.{Automaton}
use Rattle.zone.specs.BoxCalls.{box_calls}
use Rattle.zone.specs.DifferenceCalls.{difference_calls}
use Rattle.book.specs.Following.{and_then}
use Rattle.book.specs.Questions.{unreachability, emptiness}
use Rattle.book.specs.declared.fault.BookFault.TheVariants as book_fault
use Rattle.judgement.specs.Certifying.{certifying}
use Rattle.judgement.specs.Drafting.{sheet_length, drafting, sealing, Wanting}
use Rattle.judgement.specs.Faults.{refusal_of}
use Rattle.judgement.specs.Lines.{line}
use Rattle.judgement.specs.Parts.{Part, book, node, bound, end, other, part_of}
use Rattle.judgement.specs.declared.fault.CheckFault.{CheckFault}
use Rattle.judgement.specs.declared.fault.CheckFault.TheVariants as fault
use Rattle.judgement.specs.declared.verdict.Verdict.{Verdict}
use Rattle.judgement.specs.declared.verdict.Verdict.TheVariants as verdict

-- what is refused where a record is due and the reading has ended, in a file of so many bytes
abbrev pub missing : Ending → ℕ → FileFault
missing (Err f) len = f
missing (Ok done) len = Truncated len

module _ (ending : Ending) where
  -- the certificate over a kind of zone and a question by their numbers: 0 is difference-bound matrices and unreachability, 1 is boxes and emptiness
  abbrev pub certified_by : (at kind question : ℕ) → Automaton → List Sited → Result ℕ CheckFault
  certified_by at kind question a xs =
      cond (kind == 0)
      (cond (question == 0) (certifying difference_calls unreachability a xs ending)
      (cond (question == 1) (certifying difference_calls emptiness a xs ending)
      (Err (fault.Book book_fault.OutOfRange at))))
      (cond (kind == 1)
      (cond (question == 0) (certifying box_calls unreachability a xs ending)
      (cond (question == 1) (certifying box_calls emptiness a xs ending)
      (Err (fault.Book book_fault.OutOfRange at))))
      (Err (fault.Book book_fault.OutOfRange at)))

  -- the certificate after the book record, which stands at offset `at`
  abbrev pub certified : ℕ → Part → Automaton → List Sited → Result ℕ CheckFault
  certified at (book kind question) a xs = certified_by at kind question a xs
  certified at (node place location number) a xs = Err (fault.File (OutOfPlace at))
  certified at (bound i j strict constant) a xs = Err (fault.File (OutOfPlace at))
  certified at end a xs = Err (fault.File (OutOfPlace at))
  certified at other a xs = Err (fault.File (OutOfPlace at))

  module _ (len : ℕ) where
    -- the records after the sheet end
    abbrev pub after_sheet : Automaton → List Sited → Result ℕ CheckFault
    after_sheet a [] = Err (fault.File (missing ending len))
    after_sheet a (x ∷ xs) = certified x.offset (part_of x.entry) a xs

    -- the sheet of the records es, which the first of the others ends
    abbrev pub from_sheet : List Entry → List Sited → Result ℕ CheckFault
    from_sheet es [] = Err (fault.File (missing ending len))
    from_sheet es (x ∷ xs) = and_then (sealing es x.offset) (λ a. after_sheet a xs)

    -- all records of a file
    abbrev pub judged : List Sited → Result ℕ CheckFault
    judged xs = and_then (drafting [] (take (sheet_length xs) xs)) (λ es. from_sheet es (drop (sheet_length xs) xs))

-- the number or the fault that the bytes of a file come to
abbrev pub judging : List ℕ → Result ℕ CheckFault
judging bytes = judged (reading bytes).1 (length bytes) (sited 0 (reading bytes).0)

-- the verdict; none only for want of memory
abbrev pub verdict_of : Result ℕ CheckFault → Option Verdict
verdict_of (Ok n) = Some (verdict.Stands n)
verdict_of (Err f) = option_map verdict.Refused (refusal_of f)

abbrev pub verdict_on : List ℕ → Option Verdict
verdict_on bytes = verdict_of (judging bytes)

-- the line of a verdict, where there is one
abbrev pub line_by : Option Verdict → List ℕ
line_by None = []
line_by (Some v) = line v

-- the line that is printed for the bytes of a file
abbrev pub printed : List ℕ → List ℕ
printed bytes = line_by (verdict_on bytes)

-- a file that comes to s gets a verdict
abbrev pub Judgeable : {X : Type 0} → Result X CheckFault → Type 0
Judgeable (Ok x) = Unit {0}
Judgeable (Err f) = is_some (refusal_of f) ≡ true

-- r is what s says, unless memory was wanting
abbrev pub Tells : Result ℕ CheckFault → Result ℕ CheckFault → Type 0
Tells s (Ok n) = s ≡ Ok n
Tells s (Err f) = Wanting f ⊎ (s ≡ Err f)
