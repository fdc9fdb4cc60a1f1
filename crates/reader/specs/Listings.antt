-- The records of a file with their offsets.
use Rattle.std.specs.Prelude.{◌≡◌, ℕ, ◌+◌, List, [], ◌∷◌, map, length}
use Rattle.reader.specs.Entries.{Entry, entry_of, encoded}
use Rattle.reader.specs.Files.{MadeOf}
use Rattle.reader.specs.Readings.{reading, sited, sited_of}
use Rattle.reader.specs.Endings.{Ending}
use Rattle.reader.specs.declared.listing.Placed.{Placed}

abbrev pub entries : List Placed → List Entry
entries ps = map (λ p. entry_of p.record) ps

-- the first record begins at offset `at`, and each other where the one before it ends
abbrev pub Adjacent : ℕ → List Placed → Type 0
Adjacent at [] = Unit {0}
Adjacent at (p ∷ ps) = (p.offset ≡ at) × Adjacent (at + length (encoded (entry_of p.record))) ps

-- ps are the records of which the file is made, from its start to where reading ends
pub record Lists (bytes : List ℕ) (ps : List Placed) (ending : Ending) : Type 0 where
  pub made_of : MadeOf bytes (entries ps) ending
  pub adjacent : Adjacent 0 ps
  pub only : (es : List Entry) (other : Ending) → MadeOf bytes es other → (es ≡ entries ps) × (other ≡ ending)
  pub reads : reading bytes ≡ (entries ps, ending)
  pub places : map sited_of ps ≡ sited 0 (entries ps)
