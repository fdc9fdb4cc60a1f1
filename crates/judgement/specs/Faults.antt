-- Faults with the offsets at which they arise, and the refusal that each comes to.
use Rattle.std.specs.Prelude.{ℕ, Some, None, Ok, Err, Option, Result}
use Rattle.reader.specs.Faults as file
use Rattle.reader.specs.declared.ground.Ground.{Ground}
use Rattle.reader.specs.declared.ground.Layer.{Layer}
use Rattle.reader.specs.declared.ground.Layer.TheVariants as layer
use Rattle.sheet.specs.Faults as sheet
use Rattle.zone.specs.Faults as zone
use Rattle.zone.specs.declared.fault.ZoneFault.{ZoneFault}
use Rattle.zone.specs.declared.fault.ZoneFault.TheVariants.{OutOfRange, NoDifferences, TooWide}
use Rattle.book.specs.Faults as book
use Rattle.judgement.specs.declared.fault.CheckFault.{CheckFault}
use Rattle.judgement.specs.declared.fault.CheckFault.TheVariants.{File, Sheet, Bound, Book, Memory}
use Rattle.judgement.specs.declared.fault.Located.{Located}
use Rattle.judgement.specs.declared.verdict.Refusal.{Refusal}

-- an answer with the offset added to its fault
abbrev pub located : {X F : Type 0} → ℕ → Result X F → Result X (Located F)
located at (Ok x) = Ok x
located at (Err f) = Err (record { fault = f; offset = at })

abbrev pub refusal_with : Ground → Layer → ℕ → Option ℕ → Option ℕ → Refusal
refusal_with reason layer offset place edge = record { reason = reason; layer = layer; offset = offset; place = place; edge = edge }

-- a refusal that names no node, of a ground and a layer that may be there
abbrev pub plain_refusal : Option Ground → Option Layer → ℕ → Option Refusal
plain_refusal None l offset = None
plain_refusal (Some g) None offset = None
plain_refusal (Some g) (Some l) offset = Some (refusal_with g l offset None None)

-- the node of a bound is named where its zone refuses more than a field
abbrev pub bound_place : ZoneFault → ℕ → Option ℕ
bound_place OutOfRange place = None
bound_place NoDifferences place = Some place
bound_place TooWide place = Some place

-- the refusal that a fault comes to; want of memory is none
abbrev pub refusal_of : CheckFault → Option Refusal
refusal_of (File f) = Some (refusal_with (file.ground_of f) layer.File (file.offset_of f) None None)
refusal_of (Sheet f offset) = plain_refusal (sheet.ground_of f) (sheet.layer_of f) offset
refusal_of (Bound f offset place) = Some (refusal_with (zone.ground_of f) layer.Zone offset (bound_place f place) None)
refusal_of (Book f offset) = Some (refusal_with (book.ground_of f) (book.layer_of f) offset (book.place_of f) (book.edge_of f))
refusal_of (Memory error) = None
