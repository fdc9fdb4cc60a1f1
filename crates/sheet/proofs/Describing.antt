-- What one more record changes in the automaton that records describe.
use Rattle.std.proofs.Common.{◌≡◌, ℕ, ◌+◌, ◌<◌, Bool, false, ◌||◌, List, [], ◌∷◌, ◌++◌, map, length, get_or, None, filter, refl, arith}
use Rattle.std.proofs.lemmas.Grind.{common_steps}
use Rattle.std.proofs.lemmas.List.FromFn.{fill_by_all, get_or-map-range_with_len, length-map-range_with_len}
use Rattle.std.proofs.lemmas.List.Elements.{filter-append}
use Rattle.std.proofs.lemmas.List.{length-set, length-append, map-append}
use Rattle.std.specs.List.{range_with_len}
use Rattle.reader.specs.Entries.{Entry, entry}
use Rattle.reader.specs.Files.{kinds}
use Rattle.reader.specs.Order.{has}
use Rattle.reader.specs.declared.kind.Kind.{Kind}
use Rattle.reader.specs.declared.kind.Kind.TheVariants as kind
use Rattle.sheet.specs.Automata.{Location, Edge}
use Rattle.sheet.specs.Described.{any, count, head_of, concerns, described_location, guard_before_edge, described_edges}
use Rattle.sheet.specs.Fields.{is, atom_at}
use Rattle.sheet.specs.Parts.{with_location, guarded}
use Rattle.sheet.specs.Sheets.{plain}

-- one more record

any_push : (test : Entry → Bool) (es : List Entry) (e : Entry) → any test (es ++ e ∷ []) ≡ (any test es || test e)
any_push test [] e = grind arith
any_push test (d ∷ es) e = grind (arith, any_push test es e)

pub count_push : (k : Kind) (es : List Entry) (e : Entry) → count k (es ++ e ∷ []) ≡ count k es + count k (e ∷ [])
count_push k es e = grind (arith, filter-append, length-append)

pub head_of_push : (es : List Entry) (e : Entry) → is kind.Head e ≡ false → head_of (es ++ e ∷ []) ≡ head_of es
head_of_push [] e h = grind arith
head_of_push (d ∷ es) e h = grind (arith, head_of_push es e h)

pub location_push : (es : List Entry) (e : Entry) (l : ℕ) → described_location (es ++ e ∷ []) l ≡ record { accepting = any (concerns kind.Accepting l) es || concerns kind.Accepting l e; limit = map (atom_at 1) (filter (concerns kind.Limit l) es) ++ map (atom_at 1) (filter (concerns kind.Limit l) (e ∷ [])) }
location_push es e l = grind (arith, any_push, filter-append, map-append)

-- one location of a row changes

relocated_at : (f g : ℕ → Location) (u : Location → Location) (m l : ℕ) → g l ≡ u (f l) → ((k : ℕ) → (k ≡ l → ⊥) → g k ≡ f k) → (k : ℕ) → k < m → get_or (with_location u (map f (range_with_len 0 m)) l) k plain ≡ g k
relocated_at f g u m l here there k h = grind (arith, common_steps, get_or-map-range_with_len, length-map-range_with_len)

pub relocated : (f g : ℕ → Location) (u : Location → Location) (m l : ℕ) → g l ≡ u (f l) → ((k : ℕ) → (k ≡ l → ⊥) → g k ≡ f k) → with_location u (map f (range_with_len 0 m)) l ≡ map g (range_with_len 0 m)
relocated f g u m l here there =
    fill_by_all g (with_location u (map f (range_with_len 0 m)) l) m plain (grind (arith, length-set, length-map-range_with_len)) (relocated_at f g u m l here there)

-- a record that adds nothing to the guard of the edge before it
module _ (e : Entry) (quiet : guard_before_edge (e ∷ []) ≡ []) where
  guard_push : (es : List Entry) → guard_before_edge (es ++ e ∷ []) ≡ guard_before_edge es
  guard_push [] = quiet
  guard_push (d ∷ es) = grind (arith, guard_push es)

  pub edges_push : (es : List Entry) → described_edges (es ++ e ∷ []) ≡ described_edges es ++ described_edges (e ∷ [])
  edges_push [] = refl
  edges_push (d ∷ es) = grind (arith, edges_push es, guard_push)

-- a guard record

abbrev guard_entry : List ℕ → Entry
guard_entry body = entry kind.Guard body

guard_after_none : (body : List ℕ) (es : List Entry) → described_edges es ≡ [] → guard_before_edge (es ++ guard_entry body ∷ []) ≡ guard_before_edge es ++ atom_at 0 (guard_entry body) ∷ []
guard_after_none body [] p = refl
guard_after_none body (d ∷ es) p = grind (arith, guard_after_none body es)

guard_after_some : (body : List ℕ) (es : List Entry) (f : Edge) (fs : List Edge) → described_edges es ≡ f ∷ fs → guard_before_edge (es ++ guard_entry body ∷ []) ≡ guard_before_edge es
guard_after_some body [] f fs p = cc
guard_after_some body (d ∷ es) f fs p = grind (arith, guard_after_some body es)

-- the guard of the latest edge has one more atom
pub edges_guarded : (body : List ℕ) (es : List Entry) → described_edges (es ++ guard_entry body ∷ []) ≡ guarded (atom_at 0 (guard_entry body)) (described_edges es)
edges_guarded body [] = refl
edges_guarded body (d ∷ es) = grind (arith, edges_guarded body es, guard_after_none body es, guard_after_some body es)

-- as many edges as edge records
pub length_edges : (es : List Entry) → length (described_edges es) ≡ count kind.Edge es
length_edges [] = refl
length_edges (e ∷ es) = grind (arith, length_edges es)

pub no_head : (es : List Entry) → head_of es ≡ None → has kind.Head (kinds es) ≡ false
no_head [] p = refl
no_head (e ∷ es) p = grind (arith, no_head es)
