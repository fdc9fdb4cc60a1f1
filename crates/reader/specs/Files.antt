-- The records of which a file is made, and how its reading ends.
use Rattle.std.specs.Prelude.{◌≡◌, ℕ, ◌+◌, ◌<◌, ◌≤◌, true, false, List, [], ◌∷◌, ◌++◌, map, length, take, ◌≢◌, Ok, Err}
use Rattle.std.specs.List.{flat_map, AllByRecursion}
use Rattle.reader.specs.Entries.{Entry, encoded}
use Rattle.reader.specs.Kinds.{byte_of, body_length}
use Rattle.reader.specs.Order.{has, allowed, in_order}
use Rattle.reader.specs.Stages.{stage_of}
use Rattle.reader.specs.Steps.{Step, hands, ends, refuses, reach, stage_after, max_length}
use Rattle.reader.specs.declared.fault.FileFault.TheVariants.{UnknownKind, Truncated, OutOfPlace, TooLong}
use Rattle.reader.specs.declared.kind.Kind.{Kind}
use Rattle.reader.specs.declared.kind.Kind.TheVariants.{FileEnd}
use Rattle.reader.specs.Endings.{Ending}
use Rattle.reader.specs.declared.stage.Stage.{Stage}

abbrev pub kinds : List Entry → List Kind
kinds es = map (λ e. e.kind) es

-- the body has the length that the kind fixes
abbrev pub Whole : Entry → Type 0
Whole e = length e.body ≡ body_length e.kind

-- how reading ends after records of kinds `before`, with the bytes `rest` left at offset `at`
pub data Stops (before : List Kind) (at : ℕ) (rest : List ℕ) : Ending → Type 0 where
  at_end : has FileEnd before ≡ true → rest ≡ [] → Stops before at rest (Ok tt)
  past_end : has FileEnd before ≡ true → 0 < length rest → Stops before at rest (Err (OutOfPlace at))
  missing : has FileEnd before ≡ false → rest ≡ [] → Stops before at rest (Err (Truncated at))
  unknown : (b : ℕ) (after : List ℕ) → has FileEnd before ≡ false → rest ≡ b ∷ after → ((k : Kind) → byte_of k ≢ b) → Stops before at rest (Err (UnknownKind at))
  short : (k : Kind) (after : List ℕ) → has FileEnd before ≡ false → rest ≡ byte_of k ∷ after → length after < body_length k → Stops before at rest (Err (Truncated at))
  misplaced : (k : Kind) (after : List ℕ) → has FileEnd before ≡ false → rest ≡ byte_of k ∷ after → body_length k ≤ length after → allowed before k ≡ false → Stops before at rest (Err (OutOfPlace at))

-- how the reading of a file ends after the records es, with the bytes `rest` left
pub data Ends (bytes : List ℕ) (es : List Entry) (rest : List ℕ) : Ending → Type 0 where
  too_long : max_length < length bytes → es ≡ [] → Ends bytes es rest (Err TooLong)
  stops : {ending : Ending} → length bytes ≤ max_length → Stops (kinds es) (length (flat_map encoded es)) rest ending → Ends bytes es rest ending

-- the file is the records es in order, one after another, and the bytes at which reading ends
pub record MadeOf (bytes : List ℕ) (es : List Entry) (ending : Ending) : Type 0 where
  pub rest : List ℕ
  pub joins : flat_map encoded es ++ rest ≡ bytes
  pub bodies : AllByRecursion Whole es
  pub ordered : in_order [] (kinds es) ≡ true
  pub ends : Ends bytes es rest ending

-- the first `at` bytes are the records es in order, one after another, and leave stage s
pub record ReadTo (bytes : List ℕ) (es : List Entry) (at : ℕ) (s : Stage) : Type 0 where
  pub within : at ≤ length bytes
  pub fits : 0 < at → length bytes ≤ max_length
  pub joins : flat_map encoded es ≡ take at bytes
  pub bodies : AllByRecursion Whole es
  pub ordered : in_order [] (kinds es) ≡ true
  pub leaves : stage_of (kinds es) ≡ s

-- where es were read so far, a step hands out the next record of the file, or it is how reading ends
abbrev pub Continues : List ℕ → List Entry → ℕ → Stage → Step → Type 0
Continues bytes es at s (hands e) = ReadTo bytes (es ++ e ∷ []) (at + reach (hands e)) (stage_after s (hands e))
Continues bytes es at s ends = MadeOf bytes es (Ok tt)
Continues bytes es at s (refuses f) = MadeOf bytes es (Err f)
