-- Atoms at the origin, and whether a draft is ready.
use Rattle.std.proofs.Common.{◌≡◌, ℕ, ◌*◌, ◌<◌, Bool, cond, List, None, Ok, Err, Decides, Result, sym, refl, ap, ◌∙◌, subst, arith}
use Rattle.std.proofs.lemmas.Bool.{not-false}
use Rattle.std.proofs.lemmas.Bool.Decides.{nat_tests}
use Rattle.std.proofs.ByRecursion.{Decides-by_and}
use Rattle.std.specs.List.{AllByRecursion}
use Rattle.reader.proofs.Orders.{follows}
use Rattle.reader.specs.Entries.{Entry}
use Rattle.reader.specs.Files.{kinds}
use Rattle.reader.specs.Stages.{next_stage, Follows}
use Rattle.reader.specs.declared.kind.Kind.TheVariants as kind
use Rattle.reader.specs.declared.stage.Stage.{Stage}
use Rattle.reader.specs.declared.stage.Stage.TheVariants.{Start}
use Rattle.sheet.specs.Automata.{Automaton, location}
use Rattle.sheet.specs.Ready.{compares, hold_at_zero, readiness}
use Rattle.sheet.specs.Runs.{Compares, Holds, origin}
use Rattle.sheet.specs.Taken.{Contents, Took}
use Rattle.sheet.specs.declared.atom.Atom.{Atom}
use Rattle.sheet.specs.declared.atom.Relation.{Relation}
use Rattle.sheet.specs.declared.fault.SheetFault.{SheetFault}
use Rattle.sheet.specs.declared.fault.SheetFault.TheVariants.{OutOfPlace, StartOutsideLimit}

-- zero compares with the constant as it does with its multiple
compares_tells : (r : Relation) (k c : ℕ) → 0 < k → Decides (compares r 0 c) (Compares r 0 (k * c))
compares_tells r k c h = grind (arith, nat_tests)

-- the test at zero decides whether atoms hold at the origin
pub zero_tells : (k : ℕ) → 0 < k → (atoms : List Atom) → Decides (hold_at_zero atoms) (AllByRecursion (Holds k origin) atoms)
zero_tells k h atoms =
    Decides-by_and (λ (x : Atom). compares x.relation 0 x.constant) (Holds k origin) hold_at_zero
    (λ x. compares_tells x.relation k x.constant h) refl (λ _ _. refl) atoms

-- past the first stage a head has come

no_second_head : (s : Stage) → (s ≡ Start → ⊥) → next_stage s kind.Head ≡ None
no_second_head s h = grind arith

pub ready_is : (es : List Entry) (c : Contents) → Took es c → (c.stage ≡ Start → ⊥) → (b : Bool) → b ≡ hold_at_zero (location c.automaton c.automaton.start).limit → ◌≡◌ {A = Result (Unit {0}) SheetFault} (cond b (Ok tt) (Err StartOutsideLimit)) (readiness es)
ready_is es c took going b e =
    let headed = not-false _ (subst (Follows (kinds es) kind.Head) (no_second_head c.stage going) (follows (kinds es) c.stage kind.Head took.ordered took.stage)) in
    let tested = e ∙ ap (λ (a : Automaton). hold_at_zero (location a a.start).limit) took.automaton in
    λ i. cond (sym headed i) (cond (tested i) (Ok tt) (Err StartOutsideLimit)) (Err OutOfPlace)
