-- The records of a file, split at the sheet end.
use Rattle.std.proofs.Common.{◌≡◌, ℕ, suc, Bool, true, false, cond, eqb, List, [], ◌∷◌, ◌++◌, map, length, take, drop, IfOk, Some, None, Ok, Option, Result, sym, refl, ap, ◌∙◌, subst, append_assoc, append-nil}
use Rattle.std.proofs.lemmas.List.{take-append-drop, take-map, drop-map, map-append}
use Rattle.std.proofs.lemmas.Result.{IfOk-weaker}
use Rattle.reader.specs.Entries.{Entry, entry_of}
use Rattle.reader.specs.Files.{MadeOf}
use Rattle.reader.specs.Kinds.{byte_of}
use Rattle.reader.specs.Listings.{entries, Lists}
use Rattle.reader.specs.Readings.{Sited, sited, sited_of}
use Rattle.reader.specs.declared.kind.Kind.{Kind}
use Rattle.reader.specs.declared.kind.Kind.TheVariants as kind
use Rattle.reader.specs.Endings.{Ending}
use Rattle.reader.specs.declared.listing.Placed.{Placed}
use Rattle.sheet.specs.Described.{described}
use Rattle.sheet.specs.Fields.{is}
use Rattle.sheet.specs.Judged.{refusal}
use Rattle.sheet.specs.Runs.{AtMostVisits}
use Rattle.sheet.specs.declared.fault.SheetFault.{SheetFault}
use Rattle.judgement.specs.Described.{BookSecond, described_nodes, Bounds, BoundsIn}
use Rattle.judgement.specs.Drafting.{sheet_length, taken_unless, taking, drafting}
use Rattle.judgement.specs.Judged.{judged, judging}
use Rattle.judgement.specs.declared.fault.CheckFault.{CheckFault}
use Rattle.book.proofs.Reaching.{then_ok}

-- drafting takes every record
taken_all : (es ds : List Entry) (x : Sited) (o : Option SheetFault) → taken_unless es x o ≡ Ok ds → ds ≡ es ++ x.entry ∷ []
taken_all es ds x None p = cc
taken_all es ds x (Some f) p = cc

pub drafting_takes : (xs : List Sited) (es ds : List Entry) → drafting es xs ≡ Ok ds → ds ≡ es ++ map (λ x. x.entry) xs
drafting_takes [] es ds p = let same : es ≡ ds = cc in sym (append-nil es ∙ same)
drafting_takes (x ∷ xs) es ds p =
    let one = then_ok (taking es x) (λ cs. drafting cs xs) ds p in
    drafting_takes xs one.0 ds one.2
    ∙ ap (λ bs. bs ++ map (λ y. y.entry) xs) (taken_all es one.0 x (refusal es x.entry) one.1)
    ∙ append_assoc es (x.entry ∷ []) (map (λ y. y.entry) xs)

-- the first record that is not of the sheet ends it

kind_from_byte : (k : Kind) → eqb (byte_of kind.SheetEnd) (byte_of k) ≡ true → k ≡ kind.SheetEnd
kind_from_byte kind.Head p = cc
kind_from_byte kind.Accepting p = cc
kind_from_byte kind.Limit p = cc
kind_from_byte kind.Edge p = cc
kind_from_byte kind.Guard p = cc
kind_from_byte kind.SheetEnd p = refl
kind_from_byte kind.Book p = cc
kind_from_byte kind.Node p = cc
kind_from_byte kind.Bound p = cc
kind_from_byte kind.FileEnd p = cc

ends_here : (xs : List Sited) (x : Sited) (ys : List Sited) → drop (sheet_length xs) xs ≡ x ∷ ys → x.entry.kind ≡ kind.SheetEnd
ends_here [] x ys p = cc
ends_here (w ∷ xs) x ys p = go (is kind.SheetEnd w.entry) refl p (ends_here xs x ys)
  where
    go : (t : Bool) → is kind.SheetEnd w.entry ≡ t → drop (cond t 0 (suc (sheet_length xs))) (w ∷ xs) ≡ x ∷ ys → (drop (sheet_length xs) xs ≡ x ∷ ys → x.entry.kind ≡ kind.SheetEnd) → x.entry.kind ≡ kind.SheetEnd
    go true e q later = let same : w ≡ x = cc in ap (λ (v : Sited). v.entry.kind) (sym same) ∙ kind_from_byte w.entry.kind e
    go false e q later = later q

-- what is known of the records from the sheet end on
module _ (xs : List Sited) (ending : Ending) (n : ℕ) (es : List Entry) (drafts : drafting [] (take (sheet_length xs) xs) ≡ Ok es) (ends : ending ≡ Ok tt) (visits : AtMostVisits (described es) n) where
  bounds_at : (rest : List Sited) → drop (sheet_length xs) xs ≡ rest → BookSecond rest → BoundsIn xs ending n
  bounds_at [] is second = absurd second
  bounds_at (x ∷ []) is second = absurd second
  bounds_at (x ∷ y ∷ ys) is second = record {
    sheet = take (sheet_length xs) xs;
    sheet_end = x;
    book_record = y;
    nodes = ys;
    splits = sym (take-append-drop (sheet_length xs) xs) ∙ ap (λ zs. take (sheet_length xs) xs ++ zs) is;
    ends_sheet = ends_here xs x (y ∷ ys) is;
    kind = second.kind;
    question = second.question;
    opens = second.is;
    ends = ends;
    visits = subst (λ (ds : List Entry). AtMostVisits (described ds) n) (drafting_takes (take (sheet_length xs) xs) [] es drafts) visits;
  }

  pub bounds_in : BookSecond (drop (sheet_length xs) xs) → BoundsIn xs ending n
  bounds_in second = bounds_at (drop (sheet_length xs) xs) refl second

-- they are
module _ (ending : Ending) (len : ℕ) (xs front back : List Sited) (r : Result ℕ CheckFault) (es : List Entry)
    (split_front : front ≡ take (sheet_length xs) xs) (split_back : back ≡ drop (sheet_length xs) xs) (drafts : drafting [] front ≡ Ok es) where
  drafts_front : drafting [] (take (sheet_length xs) xs) ≡ Ok es
  drafts_front = ap (drafting []) (sym split_front) ∙ drafts

  pub bounds_judged : IfOk r (λ n. BookSecond back × (ending ≡ Ok tt) × AtMostVisits (described es) n) → IfOk r (BoundsIn xs ending)
  bounds_judged m = IfOk-weaker r _ (BoundsIn xs ending) (λ n h. bounds_in xs ending n es drafts_front h.1 h.2 (subst BookSecond split_back h.0)) m

-- a slice of records split at the sheet end
module _ (ps : List Placed) (k : ℕ) (is : k ≡ sheet_length (map sited_of ps)) where
  pub front_split : (qs : List Placed) → qs ≡ take k ps → map sited_of qs ≡ take (sheet_length (map sited_of ps)) (map sited_of ps)
  front_split qs e = ap (map sited_of) e ∙ sym (take-map sited_of k ps) ∙ ap (λ (m : ℕ). take m (map sited_of ps)) is

  pub back_split : (qs : List Placed) → qs ≡ drop k ps → map sited_of qs ≡ drop (sheet_length (map sited_of ps)) (map sited_of ps)
  back_split qs e = ap (map sited_of) e ∙ sym (drop-map sited_of k ps) ∙ ap (λ (m : ℕ). drop m (map sited_of ps)) is

-- what a listing comes to is what its bytes come to
pub judged_listing : (bytes : List ℕ) (ps : List Placed) (ending : Ending) → Lists bytes ps ending → judged ending (length bytes) (map sited_of ps) ≡ judging bytes
judged_listing bytes ps ending l =
    ap (judged ending (length bytes)) l.places
    ∙ sym (ap (λ (r : List Entry × Ending). judged r.1 (length bytes) (sited 0 r.0)) l.reads)

entries_sited : (ps : List Placed) → map (λ x. x.entry) (map sited_of ps) ≡ entries ps
entries_sited [] = refl
entries_sited (p ∷ ps) = ap (λ es. entry_of p.«record» ∷ es) (entries_sited ps)

pub bounds_listing : (bytes : List ℕ) (ps : List Placed) (ending : Ending) (n : ℕ) → Lists bytes ps ending → BoundsIn (map sited_of ps) ending n → Bounds bytes n
bounds_listing bytes ps ending n l b =
    let entry_in = λ (x : Sited). x.entry in
    let records = sym (entries_sited ps) ∙ ap (map entry_in) b.splits ∙ map-append entry_in b.sheet (b.sheet_end ∷ (b.book_record ∷ b.nodes)) in
    record {
      automaton = described (map entry_in b.sheet);
      certificate = record { kind = b.kind; question = b.question; nodes = described_nodes (map entry_in b.nodes) };
      describes = record {
        sheet = map entry_in b.sheet;
        sheet_end = b.sheet_end.entry;
        book_record = b.book_record.entry;
        nodes = map entry_in b.nodes;
        made_of = subst (λ (es : List Entry). MadeOf bytes es (Ok tt)) records (subst (MadeOf bytes (entries ps)) b.ends l.made_of);
        ends_sheet = b.ends_sheet;
        automaton = refl;
        opens = b.opens;
        certificate = refl;
      };
      visits = b.visits;
    }
