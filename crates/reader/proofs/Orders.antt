-- What records in order have come, and that the stage decides which may come next.
use Rattle.std.proofs.Common.{◌≡◌, Bool, true, false, cond, not, ◌&&◌, ◌||◌, eqb, List, [], ◌∷◌, ◌++◌, Some, None, sym, refl, ap, ◌∙◌, append_assoc, append-nil, arith}
use Rattle.std.proofs.Math.Bool.{or-false}
use Rattle.std.proofs.lemmas.Bool.{and_parts}
use Rattle.reader.specs.Kinds.{byte_of}
use Rattle.reader.specs.Order.{has, allowed, in_order}
use Rattle.reader.specs.Stages.{stage_of, next_stage, Follows}
use Rattle.reader.specs.declared.kind.Kind.{Kind}
use Rattle.reader.specs.declared.kind.Kind.TheVariants.{Head, Accepting, Limit, Edge, Guard, SheetEnd, Book, Node, Bound, FileEnd}
use Rattle.reader.specs.declared.stage.Stage.{Stage}
use Rattle.reader.specs.declared.stage.Stage.TheVariants as stage

or_assoc : (a b c : Bool) → ((a || b) || c) ≡ (a || (b || c))
or_assoc true b c = refl
or_assoc false b c = refl

has_push : (j : Kind) (ks : List Kind) (k : Kind) → has j (ks ++ k ∷ []) ≡ (has j ks || eqb (byte_of j) (byte_of k))
has_push j [] k = or-false (eqb (byte_of j) (byte_of k))
has_push j (i ∷ ks) k = ap (λ b. eqb (byte_of j) (byte_of i) || b) (has_push j ks k) ∙ sym (or_assoc (eqb (byte_of j) (byte_of i)) (has j ks) (eqb (byte_of j) (byte_of k)))

-- what has come, as far as it decides what may come
pub record Seen : Type 0 where
  pub head : Bool
  pub edge : Bool
  pub sheet_end : Bool
  pub book : Bool
  pub node : Bool
  pub file_end : Bool

abbrev seen : List Kind → Seen
seen ks = record { head = has Head ks; edge = has Edge ks; sheet_end = has SheetEnd ks; book = has Book ks; node = has Node ks; file_end = has FileEnd ks }

abbrev with_kind : Seen → Kind → Seen
with_kind s k = record {
  head = s.head || eqb (byte_of Head) (byte_of k);
  edge = s.edge || eqb (byte_of Edge) (byte_of k);
  sheet_end = s.sheet_end || eqb (byte_of SheetEnd) (byte_of k);
  book = s.book || eqb (byte_of Book) (byte_of k);
  node = s.node || eqb (byte_of Node) (byte_of k);
  file_end = s.file_end || eqb (byte_of FileEnd) (byte_of k);
}

seen_push : (ks : List Kind) (k : Kind) → seen (ks ++ k ∷ []) ≡ with_kind (seen ks) k
seen_push ks k = λ i. record {
  head = has_push Head ks k i;
  edge = has_push Edge ks k i;
  sheet_end = has_push SheetEnd ks k i;
  book = has_push Book ks k i;
  node = has_push Node ks k i;
  file_end = has_push FileEnd ks k i;
}

-- each has come only after what it needs
pub record Consistent (s : Seen) : Type 0 where
  pub edge_head : s.edge ≡ true → s.head ≡ true
  pub end_head : s.sheet_end ≡ true → s.head ≡ true
  pub book_end : s.book ≡ true → s.sheet_end ≡ true
  pub node_book : s.node ≡ true → s.book ≡ true
  pub file_book : s.file_end ≡ true → s.book ≡ true

abbrev allowed_by : Seen → Kind → Bool
allowed_by s Head = not s.head
allowed_by s Accepting = s.head && not s.sheet_end
allowed_by s Limit = s.head && not s.sheet_end
allowed_by s Edge = s.head && not s.sheet_end
allowed_by s Guard = s.edge && not s.sheet_end
allowed_by s SheetEnd = s.head && not s.sheet_end
allowed_by s Book = s.sheet_end && not s.book
allowed_by s Node = s.book && not s.file_end
allowed_by s Bound = s.node && not s.file_end
allowed_by s FileEnd = s.book && not s.file_end

abbrev stage_by : Seen → Stage
stage_by s =
    cond s.file_end stage.Ended
    (cond s.node stage.Nodes
    (cond s.book stage.Book
    (cond s.sheet_end stage.Sealed
    (cond s.edge stage.Edges
    (cond s.head stage.Sheet stage.Start)))))

push_consistent : (s : Seen) (k : Kind) → Consistent s → allowed_by s k ≡ true → Consistent (with_kind s k)
push_consistent s Head c h = grind arith
push_consistent s Accepting c h = grind arith
push_consistent s Limit c h = grind arith
push_consistent s Edge c h = grind arith
push_consistent s Guard c h = grind arith
push_consistent s SheetEnd c h = grind arith
push_consistent s Book c h = grind arith
push_consistent s Node c h = grind arith
push_consistent s Bound c h = grind arith
push_consistent s FileEnd c h = grind arith

moved_right : (s : Seen) (k : Kind) → Consistent s → next_stage (stage_by s) k ≡ cond (allowed_by s k) (Some (stage_by (with_kind s k))) None
moved_right s Head c = grind arith
moved_right s Accepting c = grind arith
moved_right s Limit c = grind arith
moved_right s Edge c = grind arith
moved_right s Guard c = grind arith
moved_right s SheetEnd c = grind arith
moved_right s Book c = grind arith
moved_right s Node c = grind arith
moved_right s Bound c = grind arith
moved_right s FileEnd c = grind arith

allowed_seen : (ks : List Kind) (k : Kind) → allowed ks k ≡ allowed_by (seen ks) k
allowed_seen ks Head = refl
allowed_seen ks Accepting = refl
allowed_seen ks Limit = refl
allowed_seen ks Edge = refl
allowed_seen ks Guard = refl
allowed_seen ks SheetEnd = refl
allowed_seen ks Book = refl
allowed_seen ks Node = refl
allowed_seen ks Bound = refl
allowed_seen ks FileEnd = refl

-- one more record that may come keeps the order
pub in_order_push : (before ks : List Kind) (k : Kind) → in_order before (ks ++ k ∷ []) ≡ (in_order before ks && allowed (before ++ ks) k)
in_order_push before [] k = rw append-nil (grind arith)
in_order_push before (j ∷ ks) k =
    rw (in_order_push (before ++ j ∷ []) ks k, append_assoc before (j ∷ []) ks) (grind arith)

consistent_on : (before ks : List Kind) → Consistent (seen before) → in_order before ks ≡ true → Consistent (seen (before ++ ks))
consistent_on before [] c h = rw append-nil c
consistent_on before (k ∷ ks) c h =
    let p = and_parts (allowed before k) (in_order (before ++ k ∷ []) ks) h in
    let grown : Consistent (seen (before ++ k ∷ [])) = rw seen_push (push_consistent (seen before) k c (sym (allowed_seen before k) ∙ p.0)) in
    rw append_assoc at (consistent_on (before ++ k ∷ []) ks grown p.1)

pub consistent : (ks : List Kind) → in_order [] ks ≡ true → Consistent (seen ks)
consistent ks h = consistent_on [] ks (record { edge_head = λ e. grind arith; end_head = λ e. grind arith; book_end = λ e. grind arith; node_book = λ e. grind arith; file_book = λ e. grind arith }) h

follows_by : (t : Bool) (s : Stage) (before : List Kind) (k : Kind) → allowed before k ≡ t → stage_of (before ++ k ∷ []) ≡ s → Follows before k (cond t (Some s) None)
follows_by true s before k a e = (a, e)
follows_by false s before k a e = a

-- the stage decides which records may come next, and gives the stage after each
pub follows : (before : List Kind) (s : Stage) (k : Kind) → in_order [] before ≡ true → stage_of before ≡ s → Follows before k (next_stage s k)
follows before s k h e =
    rw (← e, moved_right (seen before) k (consistent before h))
    (follows_by (allowed_by (seen before) k) _ before k (allowed_seen before k) (ap stage_by (seen_push before k)))
