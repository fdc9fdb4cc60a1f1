-- What one call of the reader gives: the record at an offset, the end, or a refusal.
use Rattle.std.specs.Prelude.{◌≡◌, ℕ, Bool, true, false, cond, List, [], ◌∷◌, length, drop, Some, None, Ok, Err, Option, Result, nat_lt}
use Rattle.std.specs.Option.{unwrap_or}
use Rattle.reader.specs.Entries.{Entry, entry_of, encoded, cut}
use Rattle.reader.specs.Kinds.{kind_of}
use Rattle.reader.specs.Stages.{next_stage}
use Rattle.reader.specs.declared.fault.FileFault.{FileFault}
use Rattle.reader.specs.declared.fault.FileFault.TheVariants.{UnknownKind, Truncated, OutOfPlace, TooLong}
use Rattle.reader.specs.declared.kind.Kind.{Kind}
use Rattle.reader.specs.declared.record.Record.{Record}
use Rattle.reader.specs.declared.stage.Stage.{Stage}
use Rattle.reader.specs.declared.stage.Stage.TheVariants.{Start, Sheet, Edges, Sealed, Book, Nodes, Ended}

pub data Step : Type 0 where
  hands : Entry → Step
  ends : Step
  refuses : FileFault → Step

abbrev pub step_of : Result (Option Record) FileFault → Step
step_of (Ok (Some r)) = hands (entry_of r)
step_of (Ok None) = ends
step_of (Err f) = refuses f

abbrev pub ended : Stage → Bool
ended Start = false
ended Sheet = false
ended Edges = false
ended Sealed = false
ended Book = false
ended Nodes = false
ended Ended = true

-- after the end of the file, no byte may come
abbrev pub at_end : ℕ → List ℕ → Step
at_end at [] = ends
at_end at (b ∷ rest) = refuses (OutOfPlace at)

-- a whole record, which may come where there is a stage after it
abbrev pub placed : ℕ → Entry → Option Stage → Step
placed at e None = refuses (OutOfPlace at)
placed at e (Some s) = hands e

-- a record of a known kind, if its body is whole
abbrev pub bodied : Stage → ℕ → Kind → Option Entry → Step
bodied s at k None = refuses (Truncated at)
bodied s at k (Some e) = placed at e (next_stage s k)

-- a record whose kind byte stands for a kind, if any
abbrev pub known : Stage → ℕ → Option Kind → List ℕ → Step
known s at None rest = refuses (UnknownKind at)
known s at (Some k) rest = bodied s at k (cut k rest)

-- a record is due
abbrev pub due : Stage → ℕ → List ℕ → Step
due s at [] = refuses (Truncated at)
due s at (b ∷ rest) = known s at (kind_of b) rest

-- what the bytes `rest` give, which begin at offset `at`, at stage s
abbrev pub step_at : Stage → ℕ → List ℕ → Step
step_at s at rest = cond (ended s) (at_end at rest) (due s at rest)

-- the longest file that is read
abbrev pub max_length : ℕ
max_length = 65535

-- what a file gives at stage s and offset `at`
abbrev pub step_in : List ℕ → Stage → ℕ → Step
step_in bytes s at = cond (nat_lt max_length (length bytes)) (refuses TooLong) (step_at s at (drop at bytes))

-- how many bytes a step moves the reader on
abbrev pub reach : Step → ℕ
reach (hands e) = length (encoded e)
reach ends = 0
reach (refuses f) = 0

-- the stage after a step
abbrev pub stage_after : Stage → Step → Stage
stage_after s (hands e) = unwrap_or (next_stage s e.kind) s
stage_after s ends = s
stage_after s (refuses f) = s

-- r is the step p, and at a record it has the stage after it
abbrev pub Due : Stage → Step → Result (Option (Record × Stage)) FileFault → Type 0
Due s p (Ok (Some d)) = (p ≡ hands (entry_of d.0)) × (next_stage s (entry_of d.0).kind ≡ Some d.1)
Due s p (Ok None) = p ≡ ends
Due s p (Err f) = p ≡ refuses f
