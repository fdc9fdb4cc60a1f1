-- Which refusal a record meets in a draft.
use Rattle.std.specs.Prelude.{ℕ, ◌+◌, ◌^◌, Bool, true, false, cond, ◌&&◌, List, length, is_some, Some, None, Option, nat_le, nat_lt}
use Rattle.reader.specs.Entries.{Entry}
use Rattle.reader.specs.Files.{kinds}
use Rattle.reader.specs.Order.{allowed}
use Rattle.reader.specs.declared.kind.Kind.{Kind}
use Rattle.reader.specs.declared.kind.Kind.TheVariants as kind
use Rattle.sheet.specs.Described.{count, described}
use Rattle.sheet.specs.Fields.{field, wide}
use Rattle.sheet.specs.Relations.{relation_of}
use Rattle.sheet.specs.declared.fault.SheetFault.{SheetFault}
use Rattle.sheet.specs.declared.fault.SheetFault.TheVariants.{OutOfPlace, OutOfRange, TooMany}

-- the kinds of record that a draft takes
abbrev pub drafted : Kind → Bool
drafted kind.Head = true
drafted kind.Accepting = true
drafted kind.Limit = true
drafted kind.Edge = true
drafted kind.Guard = true
drafted kind.SheetEnd = false
drafted kind.Book = false
drafted kind.Node = false
drafted kind.Bound = false
drafted kind.FileEnd = false

-- an atom compares a clock from 1 to n, by a known relation, with a constant up to 10,000
abbrev pub atom_fits : ℕ → ℕ → ℕ → ℕ → Bool
atom_fits n clock relation constant = nat_le 1 clock && nat_le clock n && is_some (relation_of relation) && nat_le constant 10000

-- the atom that begins at byte i fits a sheet of n clocks
abbrev pub atom_fits_at : ℕ → ℕ → Entry → Bool
atom_fits_at n i e = atom_fits n (field e i) (field e (i + 1)) (wide e (i + 2))

-- a record of kind k has every field in range, for a sheet of n clocks and m locations
abbrev pub fits : ℕ → ℕ → Kind → Entry → Bool
fits n m kind.Head e = nat_le 1 (field e 0) && nat_le (field e 0) 6 && nat_le 1 (field e 1) && nat_le (field e 1) 32 && nat_lt (field e 2) (field e 1)
fits n m kind.Accepting e = nat_lt (field e 0) m
fits n m kind.Limit e = nat_lt (field e 0) m && atom_fits_at n 1 e
fits n m kind.Edge e = nat_lt (field e 0) m && nat_lt (field e 1) m && nat_lt (field e 2) (2 ^ n)
fits n m kind.Guard e = atom_fits_at n 0 e
fits n m kind.SheetEnd e = true
fits n m kind.Book e = true
fits n m kind.Node e = true
fits n m kind.Bound e = true
fits n m kind.FileEnd e = true

-- there is room for one more record of kind k beside so many edges, limit atoms and guard atoms
abbrev pub room : ℕ → ℕ → ℕ → Kind → Bool
room edges limits guards kind.Head = true
room edges limits guards kind.Accepting = true
room edges limits guards kind.Limit = nat_lt limits 64
room edges limits guards kind.Edge = nat_lt edges 128
room edges limits guards kind.Guard = nat_lt guards 256
room edges limits guards kind.SheetEnd = true
room edges limits guards kind.Book = true
room edges limits guards kind.Node = true
room edges limits guards kind.Bound = true
room edges limits guards kind.FileEnd = true

-- the first ground on which a record is refused, if any
abbrev pub refusal_by : Bool → Bool → Bool → Option SheetFault
refusal_by placed in_range roomy = cond placed (cond in_range (cond roomy None (Some TooMany)) (Some OutOfRange)) (Some OutOfPlace)

-- the refusal that record e meets in a draft that has taken the records es, if any
abbrev pub refusal : List Entry → Entry → Option SheetFault
refusal es e =
    refusal_by
    (drafted e.kind && allowed (kinds es) e.kind)
    (fits (described es).clocks (length (described es).locations) e.kind e)
    (room (count kind.Edge es) (count kind.Limit es) (count kind.Guard es) e.kind)
