-- The records of a file and how its reading ends, as they are computed; records with their offsets.
use Rattle.std.specs.Prelude.{ℕ, zero, suc, ◌+◌, List, [], ◌∷◌, length, Ok, Err}
use Rattle.reader.specs.Entries.{Entry, entry_of, encoded}
use Rattle.reader.specs.Stages.{stage_of}
use Rattle.reader.specs.Steps.{hands, ends, refuses, step_in, reach, stage_after}
use Rattle.reader.specs.declared.fault.FileFault.TheVariants.{Truncated}
use Rattle.reader.specs.Endings.{Ending}
use Rattle.reader.specs.declared.listing.Placed.{Placed}
use Rattle.reader.specs.declared.stage.Stage.{Stage}

-- the records from stage s and offset `at` on, and how reading ends, in at most `fuel` steps
unfoldable pub read_on : ℕ → List ℕ → Stage → ℕ → List Entry × Ending
read_on zero bytes s at = ([], Err (Truncated at))
read_on (suc fuel) bytes s at =
    elim (step_in bytes s at) [
      | hands e ↦ let r = read_on fuel bytes (stage_after s (hands e)) (at + reach (hands e)) in (e ∷ r.0, r.1)
      | ends ↦ ([], Ok tt)
      | refuses f ↦ ([], Err f)
    ]

-- all records of a file up to its end or the first refusal, and how reading ends
unfoldable pub reading : List ℕ → List Entry × Ending
reading bytes = read_on (suc (length bytes)) bytes (stage_of []) 0

-- a record and the offset of its kind byte
pub record Sited : Type 0 where
  pub offset : ℕ
  pub entry : Entry

-- the first record at offset `at`, and each other where the one before it ends
abbrev pub sited : ℕ → List Entry → List Sited
sited at [] = []
sited at (e ∷ es) = record { offset = at; entry = e } ∷ sited (at + length (encoded e)) es

-- what a `Placed` of the code stands for
abbrev pub sited_of : Placed → Sited
sited_of p = record { offset = p.offset; entry = entry_of p.record }
