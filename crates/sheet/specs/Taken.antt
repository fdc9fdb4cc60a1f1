-- What a draft holds, and what it is to have taken a list of records.
use Rattle.std.specs.Prelude.{◌≡◌, ℕ, true, List, []}
use Rattle.reader.specs.Entries.{Entry}
use Rattle.reader.specs.Files.{kinds}
use Rattle.reader.specs.Order.{in_order}
use Rattle.reader.specs.Stages.{stage_of}
use Rattle.reader.specs.declared.kind.Kind.TheVariants as kind
use Rattle.reader.specs.declared.stage.Stage.{Stage}
use Rattle.sheet.specs.Automata.{Automaton}
use Rattle.sheet.specs.Described.{count, described}
use Rattle.sheet.specs.Sheets.{automaton_of, blank_automaton}
use Rattle.sheet.specs.declared.builder.Builder.{Builder}

-- a draft as plain data
pub record Contents : Type 0 where
  pub stage : Stage
  pub automaton : Automaton
  pub limit_atoms : ℕ
  pub guard_atoms : ℕ

abbrev pub built : Builder → Contents
built b = record { stage = b.stage; automaton = automaton_of b.sheet; limit_atoms = b.limit_atoms; guard_atoms = b.guard_atoms }

-- nothing has come
abbrev pub blank_contents : Contents
blank_contents = record { stage = stage_of []; automaton = blank_automaton; limit_atoms = 0; guard_atoms = 0 }

-- a draft that holds c has taken exactly the records es
pub record Took (es : List Entry) (c : Contents) : Type 0 where
  pub ordered : in_order [] (kinds es) ≡ true
  pub stage : stage_of (kinds es) ≡ c.stage
  pub automaton : c.automaton ≡ described es
  pub limit_atoms : c.limit_atoms ≡ count kind.Limit es
  pub guard_atoms : c.guard_atoms ≡ count kind.Guard es
