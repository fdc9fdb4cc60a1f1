-- What drafting a sheet from the records of a file comes to.
use Rattle.std.specs.Prelude.{◌≡◌, ℕ, suc, cond, ◌⊎◌, List, [], ◌∷◌, ◌++◌, Some, None, Ok, Err, Option, Result}
use Rattle.reader.specs.Entries.{Entry}
use Rattle.reader.specs.declared.kind.Kind.TheVariants as kind
use Rattle.sheet.specs.Automata.{Automaton}
use Rattle.sheet.specs.Described.{described}
use Rattle.sheet.specs.Fields.{is}
use Rattle.sheet.specs.Judged.{refusal}
use Rattle.sheet.specs.Ready.{readiness}
use Rattle.sheet.specs.Sheets.{automaton_of}
use Rattle.sheet.specs.Taken.{Contents, Took}
use Rattle.sheet.specs.declared.fault.SheetFault.{SheetFault}
use Rattle.sheet.specs.declared.sheet.Sheet.{Sheet}
use Rattle.book.specs.Following.{and_then}
use Rattle.judgement.specs.Faults.{refusal_of}
use Rattle.reader.specs.Readings.{Sited}
use Rattle.judgement.specs.declared.fault.CheckFault.{CheckFault}
use Rattle.judgement.specs.declared.fault.CheckFault.TheVariants as fault

-- how many records come before the first sheet end
abbrev pub sheet_length : List Sited → ℕ
sheet_length [] = 0
sheet_length (x ∷ xs) = cond (is kind.SheetEnd x.entry) 0 (suc (sheet_length xs))

-- the records es and one more, unless the sheet refuses it
abbrev pub taken_unless : List Entry → Sited → Option SheetFault → Result (List Entry) CheckFault
taken_unless es x None = Ok (es ++ x.entry ∷ [])
taken_unless es x (Some f) = Err (fault.Sheet f x.offset)

abbrev pub taking : List Entry → Sited → Result (List Entry) CheckFault
taking es x = taken_unless es x (refusal es x.entry)

-- the records es and those that follow, up to the first that the sheet refuses
abbrev pub drafting : List Entry → List Sited → Result (List Entry) CheckFault
drafting es [] = Ok es
drafting es (x ∷ xs) = and_then (taking es x) (λ ds. drafting ds xs)

-- a sheet's answer, with the offset at which it is given
abbrev pub in_sheet : {X : Type 0} → ℕ → Result X SheetFault → Result X CheckFault
in_sheet at (Ok x) = Ok x
in_sheet at (Err f) = Err (fault.Sheet f at)

-- the automaton that the records es describe, if it is ready at the sheet end
abbrev pub sealing : List Entry → ℕ → Result Automaton CheckFault
sealing es at = and_then (in_sheet at (readiness es)) (λ done. Ok (described es))

-- a sheet by its automaton
abbrev pub automaton_in : Result Sheet CheckFault → Result Automaton CheckFault
automaton_in (Ok s) = Ok (automaton_of s)
automaton_in (Err f) = Err f

-- the fault is want of memory
abbrev pub Wanting : CheckFault → Type 0
Wanting f = refusal_of f ≡ None

-- the draft has taken the records that drafting gives, or the fault is the one that drafting gives
abbrev pub Drafts : Result (List Entry) CheckFault → Result Contents CheckFault → Type 0
Drafts r (Ok d) = (es : List Entry) × (r ≡ Ok es) × Took es d
Drafts r (Err f) = Wanting f ⊎ (r ≡ Err f)
