-- A file is made of one list of records, and its reading ends in one way.
use Rattle.std.proofs.Common.{◌≡◌, ℕ, ◌+◌, ◌≤◌, Bool, true, false, List, [], ◌∷◌, ◌++◌, length, take, Some, None, Option, sym, refl, ap, ◌∙◌, subst, append_assoc, append-nil, arith, Ok, Err}
use Rattle.std.proofs.lemmas.List.{length-append, take_at, append_cancel_left}
use Rattle.std.proofs.lemmas.Bool.{and_parts, and_from, cond-true, cond-false, le-leb, lt-leb}
use Rattle.std.specs.List.{flat_map, AllByRecursion}
use Rattle.reader.specs.Entries.{Entry, entry, encoded}
use Rattle.reader.specs.Files.{kinds, Whole, Stops, at_end, past_end, missing, unknown, short, misplaced, Ends, too_long, stops, MadeOf}
use Rattle.reader.specs.Kinds.{byte_of, body_length, kind_of}
use Rattle.reader.specs.Order.{has, allowed, in_order}
use Rattle.reader.specs.Stages.{stage_of, next_stage, Follows}
use Rattle.reader.specs.Steps as steps
use Rattle.reader.specs.Steps.{Step, hands, ends, refuses, ended, placed, bodied, known, due, step_at, max_length}
use Rattle.reader.specs.declared.kind.Kind.{Kind}
use Rattle.reader.specs.declared.kind.Kind.TheVariants.{FileEnd}
use Rattle.reader.specs.Endings.{Ending}
use Rattle.reader.specs.declared.stage.Stage.{Stage}
use Rattle.reader.specs.declared.stage.Stage.TheVariants.{Start, Sheet, Edges, Sealed, Book, Nodes, Ended}
use Rattle.reader.proofs.Framing.{kind_of_byte, byte_of_kind, ended_has}
use Rattle.reader.proofs.Orders.{in_order_push, follows}

-- the step that ends a reading
abbrev pub stop : Ending → Step
stop (Ok tt) = ends
stop (Err f) = refuses f

stop_one : (x y : Ending) → stop x ≡ stop y → x ≡ y
stop_one (Ok _) (Ok _) p = refl
stop_one (Ok tt) (Err f) p = cc
stop_one (Err f) (Ok tt) p = cc
stop_one (Err f) (Err g) p = cc

stop_hands : (x : Ending) (e : Entry) → stop x ≡ hands e → ⊥
stop_hands (Ok tt) e p = cc
stop_hands (Err f) e p = cc

no_kind_of : (b : ℕ) → ((k : Kind) → byte_of k ≡ b → ⊥) → kind_of b ≡ None
no_kind_of b h = go (kind_of b) refl
  where
    go : (o : Option Kind) → kind_of b ≡ o → o ≡ None
    go None e = refl
    go (Some k) e = absurd (h k (sym (byte_of_kind b k e)))

ended_stays : (s : Stage) (k : Kind) → ended s ≡ true → next_stage s k ≡ None
ended_stays Start k p = cc
ended_stays Sheet k p = cc
ended_stays Edges k p = cc
ended_stays Sealed k p = cc
ended_stays Book k p = cc
ended_stays Nodes k p = cc
ended_stays Ended k p = refl

module _ (before : List Kind) (ordered : in_order [] before ≡ true) where
  no_stage : (k : Kind) → allowed before k ≡ false → next_stage (stage_of before) k ≡ None
  no_stage k h = go (next_stage (stage_of before) k) (follows before (stage_of before) k ordered refl)
    where
      go : (o : Option Stage) → Follows before k o → o ≡ None
      go None f = refl
      go (Some t) f = let is = f.0 in cc

  some_stage : (k : Kind) → allowed before k ≡ true → (t : Stage) × (next_stage (stage_of before) k ≡ Some t)
  some_stage k h = go (next_stage (stage_of before) k) refl (follows before (stage_of before) k ordered refl)
    where
      go : (o : Option Stage) → next_stage (stage_of before) k ≡ o → Follows before k o → (t : Stage) × (next_stage (stage_of before) k ≡ Some t)
      go None e f = absurd cc
      go (Some t) e f = (t, e)

  not_over : (k : Kind) → allowed before k ≡ true → ended (stage_of before) ≡ false
  not_over k h = go (ended (stage_of before)) refl
    where
      go : (t : Bool) → ended (stage_of before) ≡ t → t ≡ false
      go false e = refl
      go true e = let n = ended_stays (stage_of before) k e in let s = (some_stage k h).1 in cc

  going : (at : ℕ) (rest : List ℕ) → ended (stage_of before) ≡ false → step_at (stage_of before) at rest ≡ due (stage_of before) at rest
  going at rest e = cond-false _ (steps.at_end at rest) (due (stage_of before) at rest) e

  over : (at : ℕ) (rest : List ℕ) → has FileEnd before ≡ true → step_at (stage_of before) at rest ≡ steps.at_end at rest
  over at rest e = cond-true _ (steps.at_end at rest) (due (stage_of before) at rest) (ended_has before ∙ e)

  stops_at : (at : ℕ) (rest : List ℕ) (x : Ending) → Stops before at rest x → step_at (stage_of before) at rest ≡ stop x
  stops_at at rest _ (at_end e r) = over at rest e ∙ ap (steps.at_end at) r
  stops_at at [] _ (past_end e h) = absurd (omega arith)
  stops_at at (b ∷ rest) _ (past_end e h) = over at (b ∷ rest) e
  stops_at at rest _ (missing e r) = going at rest (ended_has before ∙ e) ∙ ap (due (stage_of before) at) r
  stops_at at rest _ (unknown b after e r h) =
      going at rest (ended_has before ∙ e) ∙ ap (due (stage_of before) at) r ∙ ap (λ o. known (stage_of before) at o after) (no_kind_of b h)
  stops_at at rest _ (short k after e r h) =
      going at rest (ended_has before ∙ e) ∙ ap (due (stage_of before) at) r
      ∙ ap (λ o. known (stage_of before) at o after) (kind_of_byte k)
      ∙ ap (bodied (stage_of before) at k) (cond-false _ (Some (entry k (take (body_length k) after))) None (lt-leb _ _ h))
  stops_at at rest _ (misplaced k after e r h n) =
      going at rest (ended_has before ∙ e) ∙ ap (due (stage_of before) at) r
      ∙ ap (λ o. known (stage_of before) at o after) (kind_of_byte k)
      ∙ ap (bodied (stage_of before) at k) (cond-true _ (Some (entry k (take (body_length k) after))) None (le-leb _ _ h))
      ∙ ap (placed at (entry k (take (body_length k) after))) (no_stage k n)

  hands_at : (at : ℕ) (e : Entry) (rest : List ℕ) → Whole e → allowed before e.kind ≡ true → step_at (stage_of before) at (encoded e ++ rest) ≡ hands e
  hands_at at e rest whole h =
      let k = e.kind in
      let after = e.body ++ rest in
      let enough : body_length k ≤ length after = omega (arith, whole, length-append e.body rest) in
      going at (encoded e ++ rest) (not_over k h)
      ∙ ap (λ o. known (stage_of before) at o after) (kind_of_byte k)
      ∙ ap (bodied (stage_of before) at k) (cond-true _ (Some (entry k (take (body_length k) after))) None (le-leb _ _ enough) ∙ ap (λ bs. Some (entry k bs)) (take_at e.body rest (body_length k) whole))
      ∙ ap (placed at e) (some_stage k h).1

-- the rest of a file, after records of kinds `before`, is made of es
pub record Tail (before : List Kind) (at : ℕ) (bytes : List ℕ) (es : List Entry) (x : Ending) : Type 0 where
  pub left : List ℕ
  pub joins : flat_map encoded es ++ left ≡ bytes
  pub bodies : AllByRecursion Whole es
  pub ordered : in_order before (kinds es) ≡ true
  pub stops : Stops (before ++ kinds es) (at + length (flat_map encoded es)) left x

tail_none : (before : List Kind) (at : ℕ) (bytes : List ℕ) (x : Ending) → Tail before at bytes [] x → Stops before at bytes x
tail_none before at bytes x t =
    let zero : at + 0 ≡ at = omega arith in
    subst (λ (bs : List ℕ). Stops before at bs x) t.joins
    (subst (λ (n : ℕ). Stops before n t.left x) zero
    (subst (λ (ks : List Kind). Stops ks (at + 0) t.left x) (append-nil before) t.stops))

tail_more : (before : List Kind) (at : ℕ) (bytes : List ℕ) (e : Entry) (es : List Entry) (x : Ending) → (t : Tail before at bytes (e ∷ es) x) → Tail (before ++ e.kind ∷ []) (at + length (encoded e)) (flat_map encoded es ++ t.left) es x
tail_more before at bytes e es x t =
    let more : at + length (flat_map encoded (e ∷ es)) ≡ at + length (encoded e) + length (flat_map encoded es) = omega (arith, length-append (encoded e) (flat_map encoded es)) in
    record {
      left = t.left;
      joins = refl;
      bodies = t.bodies.1;
      ordered = (and_parts _ _ t.ordered).1;
      stops =
          subst (λ (n : ℕ). Stops ((before ++ e.kind ∷ []) ++ kinds es) n t.left x) more
          (subst (λ (ks : List Kind). Stops ks (at + length (flat_map encoded (e ∷ es))) t.left x) (sym (append_assoc before (e.kind ∷ []) (kinds es))) t.stops);
    }

tail_hands : (before : List Kind) (at : ℕ) (bytes : List ℕ) (e : Entry) (es : List Entry) (x : Ending) → in_order [] before ≡ true → Tail before at bytes (e ∷ es) x → step_at (stage_of before) at bytes ≡ hands e
tail_hands before at bytes e es x o t =
    ap (step_at (stage_of before) at) (sym t.joins ∙ append_assoc (encoded e) (flat_map encoded es) t.left)
    ∙ hands_at before o at e (flat_map encoded es ++ t.left) t.bodies.0 (and_parts _ _ t.ordered).0

one_tail : (before : List Kind) (at : ℕ) (bytes : List ℕ) (ds es : List Entry) (x y : Ending) → in_order [] before ≡ true → Tail before at bytes ds x → Tail before at bytes es y → (ds ≡ es) × (x ≡ y)
one_tail before at bytes [] [] x y o s t =
    (refl, stop_one x y (sym (stops_at before o at bytes x (tail_none before at bytes x s)) ∙ stops_at before o at bytes y (tail_none before at bytes y t)))
one_tail before at bytes [] (e ∷ es) x y o s t =
    absurd (stop_hands x e (sym (stops_at before o at bytes x (tail_none before at bytes x s)) ∙ tail_hands before at bytes e es y o t))
one_tail before at bytes (d ∷ ds) [] x y o s t =
    absurd (stop_hands y d (sym (stops_at before o at bytes y (tail_none before at bytes y t)) ∙ tail_hands before at bytes d ds x o s))
one_tail before at bytes (d ∷ ds) (e ∷ es) x y o s t =
    let step : hands d ≡ hands e = sym (tail_hands before at bytes d ds x o s) ∙ tail_hands before at bytes e es y o t in
    let same : d ≡ e = cc in
    let rest : flat_map encoded es ++ t.left ≡ flat_map encoded ds ++ s.left =
    append_cancel_left (encoded e) _ _
    (sym (append_assoc (encoded e) (flat_map encoded es) t.left) ∙ t.joins ∙ sym s.joins ∙ append_assoc (encoded d) (flat_map encoded ds) s.left ∙ ap (λ (f : Entry). encoded f ++ (flat_map encoded ds ++ s.left)) same) in
    let next = subst (λ (f : Entry). Tail (before ++ f.kind ∷ []) (at + length (encoded f)) (flat_map encoded es ++ t.left) es y) (sym same) (tail_more before at bytes e es y t) in
    let grown = in_order_push [] before d.kind ∙ and_from _ _ o (and_parts _ _ s.ordered).0 in
    let r = one_tail (before ++ d.kind ∷ []) (at + length (encoded d)) (flat_map encoded ds ++ s.left) ds es x y grown (tail_more before at bytes d ds x s) (subst (λ (bs : List ℕ). Tail (before ++ d.kind ∷ []) (at + length (encoded d)) bs es y) rest next) in
    (ap (λ (f : Entry). f ∷ ds) same ∙ ap (λ (fs : List Entry). e ∷ fs) r.0, r.1)

tail_of : (bytes : List ℕ) (es : List Entry) (x : Ending) (m : MadeOf bytes es x) → Stops (kinds es) (length (flat_map encoded es)) m.rest x → Tail [] 0 bytes es x
tail_of bytes es x m s =
    let zero : length (flat_map encoded es) ≡ 0 + length (flat_map encoded es) = omega arith in
    record { left = m.rest; joins = m.joins; bodies = m.bodies; ordered = m.ordered; stops = subst (λ (n : ℕ). Stops (kinds es) n m.rest x) zero s }

one_by : (bytes : List ℕ) (ds es : List Entry) (x y : Ending) (m : MadeOf bytes ds x) (n : MadeOf bytes es y) → Ends bytes ds m.rest x → Ends bytes es n.rest y → (ds ≡ es) × (x ≡ y)
one_by bytes ds es _ _ m n (too_long h p) (too_long k q) = (p ∙ sym q, refl)
one_by bytes ds es _ y m n (too_long h p) (stops k s) = absurd (omega arith)
one_by bytes ds es x _ m n (stops h s) (too_long k q) = absurd (omega arith)
one_by bytes ds es x y m n (stops h s) (stops k t) = one_tail [] 0 bytes ds es x y refl (tail_of bytes ds x m s) (tail_of bytes es y n t)

pub one_reading : (bytes : List ℕ) (ds es : List Entry) (x y : Ending) → MadeOf bytes ds x → MadeOf bytes es y → (ds ≡ es) × (x ≡ y)
one_reading bytes ds es x y m n = one_by bytes ds es x y m n m.ends n.ends
