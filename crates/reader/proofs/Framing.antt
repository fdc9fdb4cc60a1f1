-- A step of the reader hands out the next record of the file, or it is how reading ends.
use Rattle.std.proofs.Common.{◌≡◌, ℕ, ◌+◌, ◌<◌, ◌≤◌, Bool, true, false, cond, eqb, ltb, leb, List, [], ◌∷◌, ◌++◌, length, take, drop, Some, None, Option, unwrap_or, sym, refl, ap, ◌∙◌, subst, ⊎_elim, append_assoc, append-nil, arith, take-add, Ok, Err}
use Rattle.std.proofs.ByRecursion.{All-push}
use Rattle.std.proofs.lemmas.List.{length-take-le, length-drop, take-append-drop, map_push}
use Rattle.std.proofs.lemmas.Bool.{ltb-true, ltb-false, leb-true, leb-false, eqb-true, and_from, cases_lt}
use Rattle.std.specs.List.{flat_map}
use Rattle.reader.specs.Entries.{Entry, entry, encoded}
use Rattle.reader.specs.Files.{kinds, Whole, Stops, at_end, past_end, missing, unknown, short, misplaced, too_long, stops, MadeOf, ReadTo, Continues}
use Rattle.std.specs.Prelude.{ok_or}
use Rattle.reader.specs.Kinds.{byte_of, body_length, all_kinds, kind_among, kind_of, kind_from}
use Rattle.reader.specs.Order.{has, in_order}
use Rattle.reader.specs.Stages.{stage_of, next_stage, Follows}
use Rattle.reader.specs.Steps as steps
use Rattle.reader.specs.Steps.{Step, hands, ends, refuses, ended, placed, bodied, known, due, step_at, step_in, max_length}
use Rattle.reader.specs.declared.fault.FileFault.TheVariants.{TooLong}
use Rattle.reader.specs.declared.kind.Kind.{Kind}
use Rattle.reader.specs.declared.kind.UnknownByte.{UnknownByte}
use Rattle.reader.specs.declared.kind.Kind.TheVariants.{Head, Accepting, Limit, Edge, Guard, SheetEnd, Book, Node, Bound, FileEnd}
use Rattle.reader.specs.Endings.{Ending}
use Rattle.reader.specs.declared.stage.Stage.{Stage}
use Rattle.reader.proofs.Orders.{in_order_push, follows}

-- the byte of a kind, and the kind of a byte

pub kind_of_byte : (k : Kind) → kind_of (byte_of k) ≡ Some k
kind_of_byte Head = refl
kind_of_byte Accepting = refl
kind_of_byte Limit = refl
kind_of_byte Edge = refl
kind_of_byte Guard = refl
kind_of_byte SheetEnd = refl
kind_of_byte Book = refl
kind_of_byte Node = refl
kind_of_byte Bound = refl
kind_of_byte FileEnd = refl

byte_among : (b : ℕ) (ks : List Kind) (k : Kind) → kind_among b ks ≡ Some k → b ≡ byte_of k
byte_among b [] k p = cc
byte_among b (j ∷ js) k p = go (eqb b (byte_of j)) refl p (byte_among b js k)
  where
    go : (t : Bool) → eqb b (byte_of j) ≡ t → cond t (Some j) (kind_among b js) ≡ Some k → (kind_among b js ≡ Some k → b ≡ byte_of k) → b ≡ byte_of k
    go true e q ih = let same : j ≡ k = cc in eqb-true b (byte_of j) e ∙ ap byte_of same
    go false e q ih = ih q

pub byte_of_kind : (b : ℕ) (k : Kind) → kind_of b ≡ Some k → b ≡ byte_of k
byte_of_kind b k p = byte_among b all_kinds k p

pub kind_read : (b : ℕ) (k : Kind) → kind_from b ≡ Ok k → kind_of b ≡ Some k
kind_read b k p = go (kind_of b) p
  where
    go : (o : Option Kind) → ok_or {E = UnknownByte} o (record { 0 = b }) ≡ Ok k → o ≡ Some k
    go None q = cc
    go (Some j) q = cc

pub no_kind : (b : ℕ) → kind_of b ≡ None → (k : Kind) → byte_of k ≡ b → ⊥
no_kind b p k e =
    let q : None ≡ Some k = sym p ∙ ap kind_of (sym e) ∙ kind_of_byte k in
    let z : ◌≡◌ {A = ℕ} 0 1 = cc in omega arith

-- records joined

pub joined_push : (es : List Entry) (e : Entry) → flat_map encoded (es ++ e ∷ []) ≡ flat_map encoded es ++ encoded e
joined_push [] e = append-nil (encoded e)
joined_push (d ∷ es) e = ap (λ bs. encoded d ++ bs) (joined_push es e) ∙ sym (append_assoc (encoded d) (flat_map encoded es) (encoded e))

none_joined : (es : List Entry) → flat_map encoded es ≡ [] → es ≡ []
none_joined [] p = refl
none_joined (e ∷ es) p = cc

pub kinds_push : (es : List Entry) (e : Entry) → kinds (es ++ e ∷ []) ≡ kinds es ++ e.kind ∷ []
kinds_push es e = map_push (λ (x : Entry). x.kind) es e

-- the stage tells whether the file has ended
pub ended_has : (ks : List Kind) → ended (stage_of ks) ≡ has FileEnd ks
ended_has ks = grind arith

module _ (bytes : List ℕ) (es : List Entry) (at : ℕ) (s : Stage) (before : ReadTo bytes es at s) where
  pub read_length : length (flat_map encoded es) ≡ at
  read_length = ap length before.joins ∙ length-take-le at bytes before.within

  ended_is : ended s ≡ has FileEnd (kinds es)
  ended_is = ap ended (sym before.leaves) ∙ ended_has (kinds es)

  stopped : length bytes ≤ max_length → (rest : List ℕ) → drop at bytes ≡ rest → (ending : Ending) → Stops (kinds es) at rest ending → MadeOf bytes es ending
  stopped fits rest left ending stop = record {
    rest = rest;
    joins = ap (λ bs. bs ++ rest) before.joins ∙ ap (λ bs. take at bytes ++ bs) (sym left) ∙ take-append-drop at bytes;
    bodies = before.bodies;
    ordered = before.ordered;
    ends = stops fits (subst (λ (n : ℕ). Stops (kinds es) n rest ending) (sym read_length) stop);
  }

  handed : length bytes ≤ max_length → (k : Kind) (rest : List ℕ) → drop at bytes ≡ byte_of k ∷ rest → body_length k ≤ length rest → (t : Stage) → next_stage s k ≡ Some t → ReadTo bytes (es ++ entry k (take (body_length k) rest) ∷ []) (at + length (encoded (entry k (take (body_length k) rest)))) t
  handed fits k rest left enough t next =
      let e = entry k (take (body_length k) rest) in
      let long : length e.body ≡ body_length k = length-take-le (body_length k) rest enough in
      let may : Follows (kinds es) k (Some t) = rw next at (follows (kinds es) s k before.ordered before.leaves) in
      let left_long = ap length left ∙ refl in
      record {
        within = omega (arith, ap length left, length-drop at bytes, long);
        fits = λ _. fits;
        joins =
            joined_push es e
            ∙ ap (λ bs. bs ++ encoded e) before.joins
            ∙ ap (λ bs. take at bytes ++ bs) (ap (λ n. byte_of k ∷ take n rest) (sym long) ∙ ap (take (length (encoded e))) (sym left))
            ∙ sym (take-add at (length (encoded e)) bytes);
        bodies = All-push Whole es e before.bodies long;
        ordered = ap (in_order []) (kinds_push es e) ∙ in_order_push [] (kinds es) k ∙ and_from _ _ before.ordered may.0;
        leaves = ap stage_of (kinds_push es e) ∙ may.1;
      }

  module _ (fits : length bytes ≤ max_length) where
    at_place : (k : Kind) (rest : List ℕ) → drop at bytes ≡ byte_of k ∷ rest → body_length k ≤ length rest → ended s ≡ false → (o : Option Stage) → next_stage s k ≡ o → Continues bytes es at s (placed at (entry k (take (body_length k) rest)) o)
    at_place k rest left enough going None next =
        stopped fits (byte_of k ∷ rest) left _ (misplaced k rest (sym ended_is ∙ going) refl enough (rw next at (follows (kinds es) s k before.ordered before.leaves)))
    at_place k rest left enough going (Some t) next =
        subst (ReadTo bytes (es ++ entry k (take (body_length k) rest) ∷ []) (at + length (encoded (entry k (take (body_length k) rest)))))
        (sym (ap (λ o. unwrap_or o s) next)) (handed fits k rest left enough t next)

    at_body : (k : Kind) (rest : List ℕ) → drop at bytes ≡ byte_of k ∷ rest → ended s ≡ false → (t : Bool) → leb (body_length k) (length rest) ≡ t → Continues bytes es at s (bodied s at k (cond t (Some (entry k (take (body_length k) rest))) None))
    at_body k rest left going true e = at_place k rest left (leb-true _ _ e) going (next_stage s k) refl
    at_body k rest left going false e = stopped fits (byte_of k ∷ rest) left _ (short k rest (sym ended_is ∙ going) refl (leb-false _ _ e))

    at_kind : (b : ℕ) (rest : List ℕ) → drop at bytes ≡ b ∷ rest → ended s ≡ false → (o : Option Kind) → kind_of b ≡ o → Continues bytes es at s (known s at o rest)
    at_kind b rest left going None e = stopped fits (b ∷ rest) left _ (unknown b rest (sym ended_is ∙ going) refl (no_kind b e))
    at_kind b rest left going (Some k) e = at_body k rest (left ∙ ap (λ x. x ∷ rest) (byte_of_kind b k e)) going (leb (body_length k) (length rest)) refl

    at_stage : (t : Bool) → ended s ≡ t → (rest : List ℕ) → drop at bytes ≡ rest → Continues bytes es at s (cond t (steps.at_end at rest) (due s at rest))
    at_stage true e [] left = stopped fits [] left _ (at_end (sym ended_is ∙ e) refl)
    at_stage true e (b ∷ rest) left = stopped fits (b ∷ rest) left _ (past_end (sym ended_is ∙ e) (omega arith))
    at_stage false e [] left = stopped fits [] left _ (missing (sym ended_is ∙ e) refl)
    at_stage false e (b ∷ rest) left = at_kind b rest left e (kind_of b) refl

  unread : max_length < length bytes → MadeOf bytes es (Err TooLong)
  unread long =
      let start : at ≡ 0 = ⊎_elim (λ (p : 0 < at). absurd (omega (arith, before.fits p))) (λ (q : at ≤ 0). omega arith) (cases_lt 0 at) in
      let none : es ≡ [] = none_joined es (before.joins ∙ ap (λ n. take n bytes) start) in
      record {
        rest = bytes;
        joins = ap (λ (ds : List Entry). flat_map encoded ds ++ bytes) none;
        bodies = before.bodies;
        ordered = before.ordered;
        ends = too_long long none;
      }

  continues_by : (t : Bool) → ltb max_length (length bytes) ≡ t → Continues bytes es at s (cond t (refuses TooLong) (step_at s at (drop at bytes)))
  continues_by true e = unread (ltb-true _ _ e)
  continues_by false e = at_stage (ltb-false _ _ e) (ended s) refl (drop at bytes) refl

  -- where es were read so far, a step goes on with the file or is how its reading ends
  pub continues : Continues bytes es at s (step_in bytes s at)
  continues = continues_by (ltb max_length (length bytes)) refl
