use Rattle.std.proofs.Common.{◌≡◌, ◌-◌, length, vec_items}
use Rattle.reader.specs.Files.{ReadTo}
use Rattle.reader.specs.Listings.{entries, Adjacent}
use Rattle.reader.proofs.listing.Listing.of.Given as goal

abbrev pub invariant-loop-record : goal.invariant-loop-record
invariant-loop-record l =
    (l.reader.input.now ≡ l.input)
    × ReadTo l.input (entries (vec_items l.records)) l.reader.offset l.reader.stage
    × Adjacent 0 (vec_items l.records)

abbrev pub decreases-loop-record : goal.decreases-loop-record
decreases-loop-record l = length l.input - l.reader.offset
