-- What a step of the reader comes to, once its parts are known.
use Rattle.std.proofs.Common.{◌≡◌, ℕ, ◌+◌, ◌≤◌, Bool, true, false, cond, ltb, leb, List, [], ◌∷◌, length, take, drop, Some, None, Option, refl, subst, arith}
use Rattle.std.proofs.lemmas.List.{length-take-le}
use Rattle.std.proofs.lemmas.Bool.{cond-false, le-ltb, leb-true}
use Rattle.reader.specs.Entries.{Entry, entry, cut}
use Rattle.reader.specs.Kinds.{body_length, kind_of}
use Rattle.reader.specs.Stages.{next_stage}
use Rattle.reader.specs.Steps.{hands, refuses, ended, at_end, placed, bodied, known, due, step_at, step_in, max_length}
use Rattle.reader.specs.declared.fault.FileFault.TheVariants.{TooLong}
use Rattle.reader.specs.declared.kind.Kind.{Kind}
use Rattle.reader.specs.declared.stage.Stage.{Stage}
use Rattle.reader.specs.declared.stage.Stage.TheVariants.{Start, Sheet, Edges, Sealed, Book, Nodes, Ended}

-- the file is short enough
pub step_short : (bytes : List ℕ) (s : Stage) (at : ℕ) → length bytes ≤ max_length → step_in bytes s at ≡ step_at s at (drop at bytes)
step_short bytes s at h = cond-false (ltb max_length (length bytes)) (refuses TooLong) (step_at s at (drop at bytes)) (le-ltb max_length (length bytes) h)

not_ended : (s : Stage) → (s ≡ Ended → ⊥) → ended s ≡ false
not_ended Start h = refl
not_ended Sheet h = refl
not_ended Edges h = refl
not_ended Sealed h = refl
not_ended Book h = refl
not_ended Nodes h = refl
not_ended Ended h = absurd (h refl)

-- before the end, a kind byte and what follows it give a record of that kind
pub step_of_kind : (s : Stage) (at b : ℕ) (k : Kind) (rest bytes : List ℕ) → (s ≡ Ended → ⊥) → bytes ≡ b ∷ rest → kind_of b ≡ Some k → step_at s at bytes ≡ bodied s at k (cut k rest)
step_of_kind s at b k rest bytes h is p = rw (is, not_ended s h, p) refl

-- a record that is handed out has a whole body, which lies in the bytes
pub record Reaches (bytes : List ℕ) (e : Entry) : Type 0 where
  pub body : length e.body ≡ body_length e.kind
  pub within : 1 + body_length e.kind ≤ length bytes

reaches_placed : (at b : ℕ) (k : Kind) (rest : List ℕ) (o : Option Stage) (e : Entry) → body_length k ≤ length rest → placed at (entry k (take (body_length k) rest)) o ≡ hands e → Reaches (b ∷ rest) e
reaches_placed at b k rest None e h p = absurd cc
reaches_placed at b k rest (Some s) e h p =
    let same : entry k (take (body_length k) rest) ≡ e = cc in
    subst (Reaches (b ∷ rest)) same (record { body = length-take-le (body_length k) rest h; within = omega arith })

reaches_bodied : (s : Stage) (at b : ℕ) (k : Kind) (rest : List ℕ) (e : Entry) (t : Bool) → leb (body_length k) (length rest) ≡ t → bodied s at k (cond t (Some (entry k (take (body_length k) rest))) None) ≡ hands e → Reaches (b ∷ rest) e
reaches_bodied s at b k rest e true h p = reaches_placed at b k rest (next_stage s k) e (leb-true _ _ h) p
reaches_bodied s at b k rest e false h p = absurd cc

reaches_known : (s : Stage) (at b : ℕ) (rest : List ℕ) (e : Entry) (o : Option Kind) → known s at o rest ≡ hands e → Reaches (b ∷ rest) e
reaches_known s at b rest e None p = absurd cc
reaches_known s at b rest e (Some k) p = reaches_bodied s at b k rest e (leb (body_length k) (length rest)) refl p

reaches_at : (s : Stage) (at : ℕ) (bytes : List ℕ) (e : Entry) (t : Bool) → cond t (at_end at bytes) (due s at bytes) ≡ hands e → Reaches bytes e
reaches_at s at [] e true p = absurd (let z : ◌≡◌ {A = ℕ} 0 1 = cc in omega arith)
reaches_at s at (b ∷ rest) e true p = absurd cc
reaches_at s at [] e false p = absurd cc
reaches_at s at (b ∷ rest) e false p = reaches_known s at b rest e (kind_of b) p

reaches_in : (bytes : List ℕ) (s : Stage) (at : ℕ) (e : Entry) (t : Bool) → cond t (refuses TooLong) (step_at s at (drop at bytes)) ≡ hands e → Reaches (drop at bytes) e
reaches_in bytes s at e true p = absurd cc
reaches_in bytes s at e false p = reaches_at s at (drop at bytes) e (ended s) p

pub reaches : (bytes : List ℕ) (s : Stage) (at : ℕ) (e : Entry) → step_in bytes s at ≡ hands e → Reaches (drop at bytes) e
reaches bytes s at e p = reaches_in bytes s at e (ltb max_length (length bytes)) p
