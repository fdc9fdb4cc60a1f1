-- Offsets of records, and the places that stand.
use Rattle.std.proofs.Common.{◌≡◌, ℕ, Bool, true, false, cond, List, [], ◌∷◌, map, Some, unwrap_or, option_map, refl}
use Rattle.std.specs.List.{find}
use Rattle.reader.specs.Entries.{entry_of}
use Rattle.reader.specs.declared.listing.Placed.{Placed}
use Rattle.judgement.specs.Certifying.{names_place, node_offset}
use Rattle.judgement.specs.Parts.{part_of}
use Rattle.reader.specs.Readings.{sited_of}

-- the offset of a node is that of the first record that names its place
pub node_found : (i : ℕ) (ps : List Placed) → node_offset (map sited_of ps) i ≡ unwrap_or (option_map (λ p. p.offset) (find (λ p. names_place i (part_of (entry_of p.«record»))) ps)) 0
node_found i [] = refl
node_found i (p ∷ ps) = go (names_place i (part_of (entry_of p.«record»))) (node_found i ps)
  where
    go : (t : Bool) → node_offset (map sited_of ps) i ≡ unwrap_or (option_map (λ q. q.offset) (find (λ q. names_place i (part_of (entry_of q.«record»))) ps)) 0
        → cond t p.offset (node_offset (map sited_of ps) i) ≡ unwrap_or (option_map (λ q. q.offset) (cond t (Some p) (find (λ q. names_place i (part_of (entry_of q.«record»))) ps))) 0
    go true e = refl
    go false e = e
