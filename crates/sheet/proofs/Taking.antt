-- A draft that has taken some records, and one more.
use Rattle.std.proofs.Common.{◌≡◌, ℕ, Bool, true, false, ◌&&◌, List, [], ◌∷◌, ◌++◌, map, length, is_some, Some, None, Ok, Err, Option, Result, sym, refl, ◌∙◌, subst, inl, inr, arith, MatchOption}
use mathlib.Core.Logic.{∥∥₁_map}
use Rattle.std.proofs.lemmas.Grind.{common_steps}
use Rattle.std.proofs.lemmas.List.{map_push}
use Rattle.std.proofs.lemmas.Bool.{and_parts, not-true}
use Rattle.std.proofs.lemmas.Option.{MatchOption-at_some}
use Rattle.std.proofs.lemmas.List.FromFn.{length-range_with_len}
use Rattle.std.proofs.lemmas.Simd.{splat_is_map}
use Rattle.std.specs.List.{range_with_len}
use Rattle.reader.proofs.Orders.{in_order_push, follows}
use Rattle.reader.specs.Entries.{Entry, entry}
use Rattle.reader.specs.Files.{kinds}
use Rattle.reader.specs.Order.{has, allowed, in_order}
use Rattle.reader.specs.Stages.{stage_of, next_stage, Follows}
use Rattle.reader.specs.declared.kind.Kind.{Kind}
use Rattle.reader.specs.declared.kind.Kind.TheVariants as kind
use Rattle.reader.specs.declared.stage.Stage.{Stage}
use Rattle.reader.specs.declared.stage.Stage.TheVariants.{Sheet, Edges}
use Rattle.sheet.specs.Automata.{Location, Edge, Automaton}
use Rattle.sheet.specs.Described.{count, head_of, described_location, guard_before_edge, described_edges, described_by, described}
use Rattle.sheet.specs.Drafts.{Takes}
use Rattle.sheet.specs.Fields.{is, field, atom_at}
use Rattle.sheet.specs.Judged.{drafted, fits, room, refusal_by, refusal}
use Rattle.sheet.specs.Parts.{refusal_in, head_at, part_by, accepted, limited, with_location, guarded, added, Adds}
use Rattle.sheet.specs.Sheets.{plain}
use Rattle.sheet.specs.Taken.{Contents, Took}
use Rattle.sheet.specs.declared.fault.SheetFault.{SheetFault}
use Rattle.sheet.specs.declared.part.Part.{Part}
use Rattle.sheet.specs.declared.part.Part.TheVariants as part
use Rattle.sheet.proofs.Describing.{count_push, head_of_push, location_push, relocated, edges_push, edges_guarded, length_edges, no_head}

-- only a head may come first

pub none_before_head : (es : List Entry) → in_order [] (kinds es) ≡ true → has kind.Head (kinds es) ≡ false → es ≡ []
none_before_head [] p q = refl
none_before_head (e ∷ es) p q = grind arith

edge_count : (es : List Entry) (o : Option Entry) → head_of es ≡ o → in_order [] (kinds es) ≡ true → length (described_by o es).edges ≡ count kind.Edge es
edge_count es o p h = grind (arith, none_before_head, no_head, length_edges)

follows_test : (before : List Kind) (k : Kind) (o : Option Stage) → Follows before k o → is_some o ≡ allowed before k
follows_test before k o f = grind arith

-- the stage after one more record, where it may come
follows_stage : (before : List Kind) (k : Kind) (s : Stage) (o : Option Stage) → Follows before k o → allowed before k ≡ true → ((t : Stage) → o ≡ Some t → t ≡ s) → stage_of (before ++ k ∷ []) ≡ s
follows_stage before k s o f h same = grind arith

stage_head : (s t : Stage) → next_stage s kind.Head ≡ Some t → t ≡ Sheet
stage_head s t p = grind arith

stage_accepting : (s t : Stage) → next_stage s kind.Accepting ≡ Some t → t ≡ s
stage_accepting s t p = grind arith

stage_limit : (s t : Stage) → next_stage s kind.Limit ≡ Some t → t ≡ s
stage_limit s t p = grind arith

stage_edge : (s t : Stage) → next_stage s kind.Edge ≡ Some t → t ≡ Edges
stage_edge s t p = grind arith

stage_guard : (s t : Stage) → next_stage s kind.Guard ≡ Some t → t ≡ s
stage_guard s t p = grind arith

-- the automaton with one more record, by the head

accepting_more : (es : List Entry) (body : List ℕ) (m : ℕ) → with_location accepted (map (described_location es) (range_with_len 0 m)) (field (entry kind.Accepting body) 0) ≡ map (described_location (es ++ entry kind.Accepting body ∷ [])) (range_with_len 0 m)
accepting_more es body m =
    let e = entry kind.Accepting body in
    relocated (described_location es) (described_location (es ++ e ∷ [])) accepted m (field e 0)
    (grind (arith, common_steps, location_push))
    (λ k ne. grind (arith, common_steps, location_push))

limit_more : (es : List Entry) (body : List ℕ) (m : ℕ) → with_location (limited (atom_at 1 (entry kind.Limit body))) (map (described_location es) (range_with_len 0 m)) (field (entry kind.Limit body) 0) ≡ map (described_location (es ++ entry kind.Limit body ∷ [])) (range_with_len 0 m)
limit_more es body m =
    let e = entry kind.Limit body in
    relocated (described_location es) (described_location (es ++ e ∷ [])) (limited (atom_at 1 e)) m (field e 0)
    (grind (arith, common_steps, location_push))
    (λ k ne. grind (arith, common_steps, location_push))

-- the locations stay
locations_stay : (es : List Entry) (e : Entry) (m : ℕ) → ((l : ℕ) → described_location (es ++ e ∷ []) l ≡ described_location es l) → map (described_location es) (range_with_len 0 m) ≡ map (described_location (es ++ e ∷ [])) (range_with_len 0 m)
locations_stay es e m same = grind (arith, common_steps)

plain_push : (es : List Entry) (e : Entry) → is kind.Accepting e ≡ false → is kind.Limit e ≡ false → (l : ℕ) → described_location (es ++ e ∷ []) l ≡ described_location es l
plain_push es e p q l = grind (arith, common_steps, location_push)

-- an automaton with other locations and edges
abbrev with_parts : Automaton → List Location → List Edge → Automaton
with_parts a ls es = record { clocks = a.clocks; start = a.start; locations = ls; edges = es }

accepting_by : (o : Option Entry) (es : List Entry) (body : List ℕ) → with_parts (described_by o es) (with_location accepted (described_by o es).locations (field (entry kind.Accepting body) 0)) (described_by o es).edges ≡ described_by o (es ++ entry kind.Accepting body ∷ [])
accepting_by o es body = grind (arith, common_steps, accepting_more, edges_push (entry kind.Accepting body) refl)

limit_by : (o : Option Entry) (es : List Entry) (body : List ℕ) → with_parts (described_by o es) (with_location (limited (atom_at 1 (entry kind.Limit body))) (described_by o es).locations (field (entry kind.Limit body) 0)) (described_by o es).edges ≡ described_by o (es ++ entry kind.Limit body ∷ [])
limit_by o es body = grind (arith, common_steps, limit_more, edges_push (entry kind.Limit body) refl)

guard_by : (o : Option Entry) (es : List Entry) (body : List ℕ) → with_parts (described_by o es) (described_by o es).locations (guarded (atom_at 0 (entry kind.Guard body)) (described_by o es).edges) ≡ described_by o (es ++ entry kind.Guard body ∷ [])
guard_by o es body = grind (arith, common_steps, locations_stay, plain_push es (entry kind.Guard body) refl refl, edges_guarded)

edge_by : (o : Option Entry) (es : List Entry) (body : List ℕ) → head_of es ≡ o → has kind.Head (kinds es) ≡ true → with_parts (described_by o es) (described_by o es).locations ((described_by o es).edges ++ described_edges (entry kind.Edge body ∷ [])) ≡ described_by o (es ++ entry kind.Edge body ∷ [])
edge_by o es body p h = grind (arith, common_steps, locations_stay, plain_push es (entry kind.Edge body) refl refl, edges_push (entry kind.Edge body) refl, no_head)

head_first : (c : Contents) (body : List ℕ) → Took [] c → Took (entry kind.Head body ∷ []) (added c (part.Head (head_at (entry kind.Head body))))
head_first c body took =
    let e = entry kind.Head body in
    record {
      ordered = refl;
      stage = refl;
      automaton = λ i. record { clocks = field e 0; start = field e 2; locations = splat_is_map (range_with_len 0 (field e 1)) (field e 1) plain (length-range_with_len 0 (field e 1)) i; edges = (took.automaton i).edges };
      limit_atoms = took.limit_atoms;
      guard_atoms = took.guard_atoms;
    }

refusal_placed : (placed in_range roomy : Bool) → refusal_by placed in_range roomy ≡ None → placed ≡ true
refusal_placed placed in_range roomy p = grind arith

module _ (es : List Entry) (c : Contents) (took : Took es c) where
  follow : (k : Kind) → Follows (kinds es) k (next_stage c.stage k)
  follow k = follows (kinds es) c.stage k took.ordered took.stage

  -- the refusal that the draft's contents give is the one that the records give
  pub same_refusal : (e : Entry) → refusal_in c e ≡ refusal es e
  same_refusal e =
      grind (arith, took.automaton, took.limit_atoms, took.guard_atoms, follows_test (kinds es) e.kind (next_stage c.stage e.kind) (follow e.kind), edge_count es (head_of es) refl took.ordered)

  ordered_more : (e : Entry) → allowed (kinds es) e.kind ≡ true → in_order [] (kinds (es ++ e ∷ [])) ≡ true
  ordered_more e h = grind (arith, took.ordered, map_push (λ (x : Entry). x.kind) es e, in_order_push [] (kinds es) e.kind)

  stage_more : (e : Entry) (s : Stage) → allowed (kinds es) e.kind ≡ true → ((t : Stage) → next_stage c.stage e.kind ≡ Some t → t ≡ s) → stage_of (kinds (es ++ e ∷ [])) ≡ s
  stage_more e s h same = grind (arith, map_push (λ (x : Entry). x.kind) es e, follows_stage (kinds es) e.kind s (next_stage c.stage e.kind) (follow e.kind) h same)

  -- an automaton made of the draft's is made of the one described
  remade : (e : Entry) (f : Automaton → Automaton) → is kind.Head e ≡ false → f (described es) ≡ described_by (head_of es) (es ++ e ∷ []) → f c.automaton ≡ described (es ++ e ∷ [])
  remade e f h p = grind (arith, took.automaton, head_of_push es e h, p)

  grown_by : (k : Kind) (body : List ℕ) → allowed (kinds es) k ≡ true → MatchOption (part_by k (entry k body)) (Unit {0}) (λ p. Took (es ++ entry k body ∷ []) (added c p))
  grown_by kind.Head body h =
      let e = entry kind.Head body in
      let first = none_before_head es took.ordered (not-true _ h) in
      subst (λ (ds : List Entry). Took (ds ++ e ∷ []) (added c (part.Head (head_at e)))) (sym first)
      (head_first c body (subst (λ (ds : List Entry). Took ds c) first took))
  grown_by kind.Accepting body h =
      let e = entry kind.Accepting body in
      record {
        ordered = ordered_more e h;
        stage = stage_more e c.stage h (stage_accepting c.stage);
        automaton = remade e (λ a. with_parts a (with_location accepted a.locations (field e 0)) a.edges) refl (accepting_by (head_of es) es body);
        limit_atoms = omega (arith, took.limit_atoms, count_push kind.Limit es e);
        guard_atoms = omega (arith, took.guard_atoms, count_push kind.Guard es e);
      }
  grown_by kind.Limit body h =
      let e = entry kind.Limit body in
      record {
        ordered = ordered_more e h;
        stage = stage_more e c.stage h (stage_limit c.stage);
        automaton = remade e (λ a. with_parts a (with_location (limited (atom_at 1 e)) a.locations (field e 0)) a.edges) refl (limit_by (head_of es) es body);
        limit_atoms = omega (arith, took.limit_atoms, count_push kind.Limit es e);
        guard_atoms = omega (arith, took.guard_atoms, count_push kind.Guard es e);
      }
  grown_by kind.Edge body h =
      let e = entry kind.Edge body in
      record {
        ordered = ordered_more e h;
        stage = stage_more e Edges h (stage_edge c.stage);
        automaton = remade e (λ a. with_parts a a.locations (a.edges ++ described_edges (e ∷ []))) refl (edge_by (head_of es) es body refl (and_parts _ _ h).0);
        limit_atoms = omega (arith, took.limit_atoms, count_push kind.Limit es e);
        guard_atoms = omega (arith, took.guard_atoms, count_push kind.Guard es e);
      }
  grown_by kind.Guard body h =
      let e = entry kind.Guard body in
      record {
        ordered = ordered_more e h;
        stage = stage_more e c.stage h (stage_guard c.stage);
        automaton = remade e (λ a. with_parts a a.locations (guarded (atom_at 0 e) a.edges)) refl (guard_by (head_of es) es body);
        limit_atoms = omega (arith, took.limit_atoms, count_push kind.Limit es e);
        guard_atoms = omega (arith, took.guard_atoms, count_push kind.Guard es e);
      }
  grown_by kind.SheetEnd body h = tt
  grown_by kind.Book body h = tt
  grown_by kind.Node body h = tt
  grown_by kind.Bound body h = tt
  grown_by kind.FileEnd body h = tt

  -- a record that meets no refusal is taken by adding its part
  pub grown : (e : Entry) (p : Part) → refusal_in c e ≡ None → part_by e.kind e ≡ Some p → Took (es ++ e ∷ []) (added c p)
  grown e p h q =
      let placed = refusal_placed (drafted e.kind && allowed (kinds es) e.kind) (fits (described es).clocks (length (described es).locations) e.kind e) (room (count kind.Edge es) (count kind.Limit es) (count kind.Guard es) e.kind) (sym (same_refusal e) ∙ h) in
      MatchOption-at_some _ (λ p. Took (es ++ e ∷ []) (added c p)) p q (grown_by e.kind e.body (and_parts (drafted e.kind) (allowed (kinds es) e.kind) placed).1)

  -- what a refused record answers
  pub refuses : (e : Entry) (r : Result (Unit {0}) SheetFault) (f : SheetFault) (after : Contents) → refusal_in c e ≡ Some f → r ≡ Err f → after ≡ c → Takes es e c r after
  refuses e r f after h p same = subst (λ (x : Result (Unit {0}) SheetFault). Takes es e c x after) (sym p) (inl (sym (same_refusal e) ∙ h), same)

  -- what a record that is added answers
  pub takes : (e : Entry) (p : Part) (r : Result (Unit {0}) SheetFault) (after : Contents) → refusal_in c e ≡ None → part_by e.kind e ≡ Some p → Adds c p r after → Takes es e c r after
  takes e p (Ok done) after h q adds = (sym (same_refusal e) ∙ h, subst (Took (es ++ e ∷ [])) (sym adds) (grown e p h q))
  takes e p (Err f) after h q adds = (inr (sym (same_refusal e) ∙ h, adds.0), adds.1)

-- a draft that has taken some records has still taken some
pub still_taken : (c : Contents) (e : Entry) (p : Part) (r : Result (Unit {0}) SheetFault) (after : Contents) → refusal_in c e ≡ None → part_by e.kind e ≡ Some p → Adds c p r after → ∥ ((es : List Entry) × Took es c) ∥₁ → ∥ ((es : List Entry) × Took es after) ∥₁
still_taken c e p (Ok done) after h q adds taken = ∥∥₁_map taken (λ t. (t.0 ++ e ∷ [], subst (Took (t.0 ++ e ∷ [])) (sym adds) (grown t.0 c t.1 e p h q)))
still_taken c e p (Err f) after h q adds taken = ∥∥₁_map taken (λ t. (t.0, subst (Took t.0) (sym adds.1) t.1))

-- a record that is not a draft's changes nothing in what records describe

other_by : (o : Option Entry) (es : List Entry) (e : Entry) → is kind.Accepting e ≡ false → is kind.Limit e ≡ false → guard_before_edge (e ∷ []) ≡ [] → described_edges (e ∷ []) ≡ [] → described_by o (es ++ e ∷ []) ≡ described_by o es
other_by o es e p q r s = grind (arith, common_steps, locations_stay, plain_push es e p q, edges_push e r es)

other_as : (es : List Entry) (e : Entry) → is kind.Head e ≡ false → is kind.Accepting e ≡ false → is kind.Limit e ≡ false → guard_before_edge (e ∷ []) ≡ [] → described_edges (e ∷ []) ≡ [] → described (es ++ e ∷ []) ≡ described es
other_as es e h p q r s = grind (arith, head_of_push es e h, other_by (head_of es) es e p q r s)

pub described_other : (k : Kind) (body : List ℕ) (es : List Entry) → drafted k ≡ false → described (es ++ entry k body ∷ []) ≡ described es
described_other kind.Head body es h = cc
described_other kind.Accepting body es h = cc
described_other kind.Limit body es h = cc
described_other kind.Edge body es h = cc
described_other kind.Guard body es h = cc
described_other kind.SheetEnd body es h = other_as es (entry kind.SheetEnd body) refl refl refl refl refl
described_other kind.Book body es h = other_as es (entry kind.Book body) refl refl refl refl refl
described_other kind.Node body es h = other_as es (entry kind.Node body) refl refl refl refl refl
described_other kind.Bound body es h = other_as es (entry kind.Bound body) refl refl refl refl refl
described_other kind.FileEnd body es h = other_as es (entry kind.FileEnd body) refl refl refl refl refl
