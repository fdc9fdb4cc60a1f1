-- The automaton and the certificate that the bytes of a file describe.
use Rattle.std.specs.Prelude.{◌≡◌, ℕ, List, [], ◌∷◌, ◌++◌, map, Ok, ◌==◌}
use Rattle.reader.specs.Entries.{Entry}
use Rattle.reader.specs.Files.{MadeOf}
use Rattle.reader.specs.Readings.{Sited}
use Rattle.reader.specs.declared.kind.Kind.TheVariants as kind
use Rattle.reader.specs.Endings.{Ending}
use Rattle.sheet.specs.Automata.{Automaton}
use Rattle.sheet.specs.Described.{described}
use Rattle.sheet.specs.Runs.{AtMostVisits}
use Rattle.zone.specs.declared.constraint.Constraint.{Constraint}
use Rattle.judgement.specs.Parts.{Part, book, node, bound, end, other, part_of}

-- a node of a certificate, with the bounds of its zone
pub record CertificateNode : Type 0 where
  pub place : ℕ
  pub location : ℕ
  pub number : ℕ
  pub bounds : List Constraint

-- a certificate: the numbers of its kind of zone and of its question, and its nodes
pub record Certificate : Type 0 where
  pub kind : ℕ
  pub question : ℕ
  pub nodes : List CertificateNode

-- a bound before those that follow, and none from the next node on
abbrev pub bound_before : Part → List Constraint → List Constraint
bound_before (bound i j strict constant) cs = record { i = i; j = j; strict = (strict == 1); constant = constant } ∷ cs
bound_before (node place location number) cs = []
bound_before end cs = cs
bound_before (book kind question) cs = cs
bound_before other cs = cs

-- the bounds of the bound records that come before the next node record
abbrev pub bounds_before_node : List Entry → List Constraint
bounds_before_node [] = []
bounds_before_node (e ∷ es) = bound_before (part_of e) (bounds_before_node es)

-- the node of a node record, with those bounds, before the nodes that follow
abbrev pub node_before : Part → List Constraint → List CertificateNode → List CertificateNode
node_before (node place location number) cs ns = record { place = place; location = location; number = number; bounds = cs } ∷ ns
node_before (bound i j strict constant) cs ns = ns
node_before end cs ns = ns
node_before (book kind question) cs ns = ns
node_before other cs ns = ns

-- the nodes of a list of records
abbrev pub described_nodes : List Entry → List CertificateNode
described_nodes [] = []
described_nodes (e ∷ es) = node_before (part_of e) (bounds_before_node es) (described_nodes es)

-- the record is a book record
pub record BookNamed (p : Part) : Type 0 where
  pub kind : ℕ
  pub question : ℕ
  pub is : p ≡ book kind question

-- the first of some records is a book record
abbrev pub BookFirst : List Sited → Type 0
BookFirst [] = ⊥
BookFirst (x ∷ xs) = BookNamed (part_of x.entry)

-- the second is
abbrev pub BookSecond : List Sited → Type 0
BookSecond [] = ⊥
BookSecond (x ∷ xs) = BookFirst xs

-- the bytes are records in order and nothing else: those of the sheet, which describe the automaton, the sheet end, the book record, and those of the certificate
pub record Describes (bytes : List ℕ) (a : Automaton) (c : Certificate) : Type 0 where
  pub sheet : List Entry
  pub sheet_end : Entry
  pub book_record : Entry
  pub nodes : List Entry
  pub made_of : MadeOf bytes (sheet ++ sheet_end ∷ (book_record ∷ nodes)) (Ok tt)
  pub ends_sheet : sheet_end.kind ≡ kind.SheetEnd
  pub automaton : a ≡ described sheet
  pub opens : part_of book_record ≡ book c.kind c.question
  pub certificate : c.nodes ≡ described_nodes nodes

-- the bytes describe an automaton and a certificate, and no run of the automaton has more than n visits
pub record Bounds (bytes : List ℕ) (n : ℕ) : Type 0 where
  pub automaton : Automaton
  pub certificate : Certificate
  pub describes : Describes bytes automaton certificate
  pub visits : AtMostVisits automaton n

-- the same of records with their offsets and the way in which the reading of them ended
pub record BoundsIn (xs : List Sited) (ending : Ending) (n : ℕ) : Type 0 where
  pub sheet : List Sited
  pub sheet_end : Sited
  pub book_record : Sited
  pub nodes : List Sited
  pub splits : xs ≡ sheet ++ sheet_end ∷ (book_record ∷ nodes)
  pub ends_sheet : sheet_end.entry.kind ≡ kind.SheetEnd
  pub kind : ℕ
  pub question : ℕ
  pub opens : part_of book_record.entry ≡ book kind question
  pub ends : ending ≡ Ok tt
  pub visits : AtMostVisits (described (map (λ x. x.entry) sheet)) n
