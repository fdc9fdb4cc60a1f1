-- A listing with one more record.
use Rattle.std.proofs.Common.{◌≡◌, ℕ, ◌+◌, List, [], ◌∷◌, ◌++◌, length, sym, subst, arith, Ok, Err}
use Rattle.std.proofs.lemmas.List.{length-append, map_push}
use Rattle.std.specs.List.{flat_map}
use Rattle.reader.specs.Entries.{Entry, entry_of, encoded}
use Rattle.reader.specs.Files.{MadeOf, ReadTo, Continues}
use Rattle.reader.specs.Listings.{entries, Adjacent, Lists}
use Rattle.reader.specs.Steps.{Step, hands, reach, stage_after}
use Rattle.reader.specs.Endings.{Ending}
use Rattle.reader.specs.declared.listing.Placed.{Placed}
use Rattle.reader.specs.declared.stage.Stage.{Stage}
use Rattle.reader.proofs.Reading.{reading_is, sited_adjacent}
use Rattle.reader.proofs.Unique.{stop, one_reading}

pub adjacent_push : (at : ℕ) (ps : List Placed) (p : Placed) → p.offset ≡ at + length (flat_map encoded (entries ps)) → Adjacent at ps → Adjacent at (ps ++ p ∷ [])
adjacent_push at [] p e h = (omega arith, tt)
adjacent_push at (q ∷ ps) p e h =
    let d = encoded (entry_of q.record) in
    (h.0, adjacent_push (at + length d) ps p (omega (arith, length-append d (flat_map encoded (entries ps)))) h.1)

pub entries_push : (ps : List Placed) (p : Placed) → entries (ps ++ p ∷ []) ≡ entries ps ++ entry_of p.record ∷ []
entries_push ps p = map_push (λ (q : Placed). entry_of q.record) ps p

-- what a listing promises, from the records read and how reading ended
pub lists : (bytes : List ℕ) (ps : List Placed) (x : Ending) → MadeOf bytes (entries ps) x → Adjacent 0 ps → Lists bytes ps x
lists bytes ps x m a = record {
  made_of = m;
  adjacent = a;
  only = λ es y n. one_reading bytes es (entries ps) y x n m;
  reads = reading_is bytes (entries ps) x m;
  places = sited_adjacent 0 ps a;
}

-- one more record of the file was read
pub listed_more : (bytes input : List ℕ) (ps qs : List Placed) (p : Placed) (at to : ℕ) (s t : Stage) (step : Step)
    → step ≡ hands (entry_of p.record) → input ≡ bytes → qs ≡ ps ++ p ∷ [] → to ≡ at + reach step → t ≡ stage_after s step
    → ReadTo bytes (entries ps) at s → (ReadTo input (entries ps) at s → Continues input (entries ps) at s step)
    → ReadTo bytes (entries qs) to t
listed_more bytes input ps qs p at to s t step is same pushed moved staged before reads =
    let grown = subst (Continues input (entries ps) at s) is (reads (subst (λ (bs : List ℕ). ReadTo bs (entries ps) at s) (sym same) before)) in
    rw (pushed, moved, staged, is, entries_push ps p) (subst (λ (bs : List ℕ). Continues bs (entries ps) at s (hands (entry_of p.record))) same grown)

stopped_so : (bytes : List ℕ) (es : List Entry) (at : ℕ) (s : Stage) (x : Ending) → Continues bytes es at s (stop x) → MadeOf bytes es x
stopped_so bytes es at s (Ok tt) m = m
stopped_so bytes es at s (Err f) m = m

-- reading ended
pub listed_all : (bytes input : List ℕ) (ps : List Placed) (at : ℕ) (s : Stage) (x : Ending) (step : Step)
    → step ≡ stop x → input ≡ bytes → ReadTo bytes (entries ps) at s → (ReadTo input (entries ps) at s → Continues input (entries ps) at s step) → Adjacent 0 ps
    → Lists bytes ps x
listed_all bytes input ps at s x step is same before reads a =
    let last = subst (Continues input (entries ps) at s) is (reads (subst (λ (bs : List ℕ). ReadTo bs (entries ps) at s) (sym same) before)) in
    lists bytes ps x (subst (λ (bs : List ℕ). MadeOf bs (entries ps) x) same (stopped_so input (entries ps) at s x last)) a
