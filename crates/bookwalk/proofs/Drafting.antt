-- The records that a draft takes one by one are those before the sheet end.
use Rattle.std.proofs.Common.{◌≡◌, ℕ, ◌+◌, ◌<◌, ◌≤◌, false, List, [], ◌∷◌, ◌++◌, length, get_or, drop, sym, ap, subst, ◌∙◌, append_assoc, append-nil, arith}
use Rattle.std.proofs.lemmas.List.{at_drop_more, at_drop_all}
use Rattle.reader.specs.Entries.{Entry, entry_of}
use Rattle.reader.specs.Listings.{entries, Lists}
use Rattle.reader.specs.Readings.{reading}
use Rattle.reader.specs.declared.kind.Kind.TheVariants as kind
use Rattle.reader.specs.Endings.{Ending}
use Rattle.reader.specs.declared.listing.Placed.{Placed}
use Rattle.reader.specs.declared.record.Record.{Record}
use Rattle.reader.specs.declared.record.Record.TheVariants.{SheetEnd}
use Rattle.sheet.specs.Fields.{is}
use Rattle.sheet.specs.Taken.{Contents, Took}
use Rattle.bookwalk.specs.Example.{before_sheet_end}

abbrev left : List Placed → List Entry
left ps = before_sheet_end (entries ps)

not_end : (r : Record) → (r ≡ SheetEnd → ⊥) → is kind.SheetEnd (entry_of r) ≡ false
not_end r h = grind arith

module _ (ps : List Placed) (i : ℕ) (es : List Entry) (so : es ++ left (drop i ps) ≡ left ps) where
  pub one_more : (d : Placed) → i < length ps → ((get_or ps i d).record ≡ SheetEnd → ⊥) → (es ++ entry_of (get_or ps i d).record ∷ []) ++ left (drop (i + 1) ps) ≡ left ps
  one_more d within going = grind (arith, at_drop_more left ps i d within, not_end (get_or ps i d).record going, append_assoc)

  pub stopped : (d : Placed) → i < length ps → (get_or ps i d).record ≡ SheetEnd → es ≡ left ps
  stopped d within end = grind (arith, at_drop_more left ps i d within, append-nil es)

  pub all_taken : length ps ≤ i → es ≡ left ps
  all_taken past = grind (arith, at_drop_all left ps i past, append-nil es)

-- the records of a listing are those that its file reads as
pub took_left : (bytes : List ℕ) (ps part : List Placed) (ending : Ending) (es : List Entry) (c : Contents) → Lists bytes ps ending → part ≡ ps → es ≡ left part → Took es c → Took (before_sheet_end (reading bytes).0) c
took_left bytes ps part ending es c lists same e took = subst (λ xs. Took xs c) (e ∙ ap left same ∙ sym (ap (λ (r : List Entry × Ending). before_sheet_end r.0) lists.reads)) took
