-- The list of a grid's bounds and its entries.
use Rattle.std.specs.Prelude.{◌≡◌, ℕ, ◌+◌, ◌*◌, ◌/◌, ◌%◌, ◌<◌, length, slice_index_or}
use Rattle.std.proofs.Common.{◌∙◌, ap, arith}
use Rattle.std.proofs.lemmas.List.FromFn.{length-map-range_with_len, get_or-map-range_with_len}
use Rattle.zone.specs.declared.bound.Bound.TheVariants.{Free}
use Rattle.zone.specs.Grids.{Grid, entry, listed}

pub length_listed : (d : Grid) → length (listed d) ≡ 49
unfolding listed
length_listed d = length-map-range_with_len (λ h. d (h / 7) (h % 7)) 0 49

pub listed_at : (d : Grid) (k : ℕ) → k < 49 → slice_index_or (listed d) k Free ≡ d (k / 7) (k % 7)
unfolding listed
listed_at d k l = get_or-map-range_with_len (λ h. d (h / 7) (h % 7)) 0 49 k k Free l (omega arith)

pub entry_listed : (d : Grid) (p q : ℕ) → p < 7 → q < 7 → entry (listed d) p q ≡ d p q
unfolding entry
entry_listed d p q l k =
    let e : (7 * p + q) / 7 ≡ p = omega arith in
    let f : (7 * p + q) % 7 ≡ q = omega arith in
    let i : 7 * p + q < 49 = omega arith in
    listed_at d (7 * p + q) i ∙ (ap (λ h. d h ((7 * p + q) % 7)) e ∙ ap (d p) f)
