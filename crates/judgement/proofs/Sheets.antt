-- The records of a sheet, one record further on.
use Rattle.std.proofs.Common.{◌≡◌, ℕ, suc, ◌+◌, ◌≤◌, Bool, true, false, not, cond, ltb, List, map, length, unwrap_or, Some, None, sym, refl, ap, ◌∙◌, arith}
use Rattle.std.proofs.lemmas.List.Recursion.{is_position_or_len}
use Rattle.std.proofs.lemmas.List.Sums.{prefix_len-le-length}
use Rattle.std.proofs.lemmas.Bool.{ltb-false}
use Rattle.std.specs.List.{position, position_or_len}
use Rattle.reader.specs.Entries.{entry_of}
use Rattle.reader.specs.declared.kind.Kind.TheVariants as kind
use Rattle.reader.specs.declared.listing.Placed.{Placed}
use Rattle.sheet.specs.Fields.{is}
use Rattle.judgement.specs.Drafting.{sheet_length}
use Rattle.reader.specs.Readings.{sited_of}

add_suc : (n : ℕ) → suc n ≡ 1 + n
add_suc n = omega arith

found_or : (n m : ℕ) (t : Bool) → ltb n m ≡ t → n ≤ m → unwrap_or (cond t (Some n) None) m ≡ n
found_or n m true e h = refl
found_or n m false e h = let past = ltb-false n m e in omega arith

-- the length of a sheet is the index of the record that ends it, or that of all records
pub length_found : (ps : List Placed) → unwrap_or (position (λ p. is kind.SheetEnd (entry_of p.«record»)) ps) (length ps) ≡ sheet_length (map sited_of ps)
length_found ps =
    let ends = λ (p : Placed). is kind.SheetEnd (entry_of p.«record») in
    found_or (position_or_len ends ps) (length ps) _ refl (prefix_len-le-length (λ p. not (ends p)) ps)
    ∙ sym (is_position_or_len (λ (qs : List Placed). sheet_length (map sited_of qs)) ends refl (λ p qs. ap (cond (ends p) 0) (add_suc (sheet_length (map sited_of qs)))) ps)
