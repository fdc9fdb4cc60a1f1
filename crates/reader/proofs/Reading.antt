-- What `reading` computes are the records of which the file is made, and `sited` gives their offsets.
use Rattle.std.proofs.Common.{◌≡◌, ℕ, zero, suc, ◌+◌, ◌<◌, List, [], ◌∷◌, ◌++◌, map, length, refl, ap, ◌∙◌, append_assoc, append-nil, arith}
use Rattle.reader.specs.Entries.{Entry, entry_of, encoded}
use Rattle.reader.specs.Files.{MadeOf, ReadTo, Continues}
use Rattle.reader.specs.Listings.{entries, Adjacent}
use Rattle.reader.specs.Readings.{read_on, reading, sited, sited_of}
use Rattle.reader.specs.Stages.{stage_of}
use Rattle.reader.specs.Steps.{Step, hands, ends, refuses, step_in, reach, stage_after}
use Rattle.reader.specs.Endings.{Ending}
use Rattle.reader.specs.declared.listing.Placed.{Placed}
use Rattle.reader.specs.declared.stage.Stage.{Stage}
use Rattle.reader.proofs.Framing.{continues}
use Rattle.reader.proofs.Unique.{one_reading}

-- the file is made of the records es and then those of r
abbrev Made : List ℕ → List Entry → List Entry × Ending → Type 0
Made bytes es r = MadeOf bytes (es ++ r.0) r.1

-- where es were read so far, reading on gives the other records, if there is fuel for every byte left
made_on : (fuel : ℕ) (bytes : List ℕ) (es : List Entry) (s : Stage) (at : ℕ) → ReadTo bytes es at s → length bytes < at + fuel → Made bytes es (read_on fuel bytes s at)
unfolding read_on
made_on zero bytes es s at before enough = absurd (omega (arith, before.within))
made_on (suc fuel) bytes es s at before enough =
    let after = λ (e : Entry) (more : Continues bytes es at s (hands e)). made_on fuel bytes (es ++ e ∷ []) (stage_after s (hands e)) (at + reach (hands e)) more (omega arith) in
    go after (step_in bytes s at) refl (continues bytes es at s before)
  where
    go : ((e : Entry) → Continues bytes es at s (hands e) → Made bytes (es ++ e ∷ []) (read_on fuel bytes (stage_after s (hands e)) (at + reach (hands e)))) → (p : Step) → step_in bytes s at ≡ p → Continues bytes es at s p → Made bytes es (read_on (suc fuel) bytes s at)
    go after (hands e) is more = rw (is, read_on) (rw append_assoc at (after e more))
    go after ends is last = rw (is, read_on, append-nil) last
    go after (refuses f) is last = rw (is, read_on, append-nil) last

reading_makes : (bytes : List ℕ) → MadeOf bytes (reading bytes).0 (reading bytes).1
unfolding reading
reading_makes bytes =
    let start : ReadTo bytes [] 0 (stage_of []) = record { within = omega arith; fits = λ h. absurd (omega arith); joins = refl; bodies = tt; ordered = refl; leaves = refl } in
    made_on (suc (length bytes)) bytes [] (stage_of []) 0 start (omega arith)

pub reading_is : (bytes : List ℕ) (es : List Entry) (x : Ending) → MadeOf bytes es x → reading bytes ≡ (es, x)
reading_is bytes es x m =
    let same = one_reading bytes (reading bytes).0 es (reading bytes).1 x (reading_makes bytes) m in
    ap (λ ds. (ds, (reading bytes).1)) same.0 ∙ ap (λ y. (es, y)) same.1

-- records that adjoin stand where `sited` puts them
pub sited_adjacent : (at : ℕ) (ps : List Placed) → Adjacent at ps → map sited_of ps ≡ sited at (entries ps)
sited_adjacent at [] a = refl
sited_adjacent at (p ∷ ps) a = cc (a.0, sited_adjacent (at + length (encoded (entry_of p.record))) ps a.1)
