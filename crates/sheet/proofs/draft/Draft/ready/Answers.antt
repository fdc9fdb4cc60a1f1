use Rattle.std.proofs.Common.{true, false, sym, ap, ◌∙◌, arith}
use Rattle.std.proofs.lemmas.Bool.Decides.{not_from_Decides}
use Rattle.sheet.specs.Ready.{hold_at_zero}
use Rattle.sheet.specs.Taken.{built}
use Rattle.sheet.proofs.Starting.{zero_tells, ready_is}
use Rattle.sheet.proofs.draft.Draft.ready.Goals as goal

pub returns-then-eq-clause-taken : goal.returns-then-eq-clause-taken
returns-then-eq-clause-taken c = rw (← c.self.view_is) c.self.invariant

pub returns-then-hold_at_zero : goal.returns-then-hold_at_zero
returns-then-hold_at_zero c =
    let test = sym c.if-hold_at_zero.true ∙ c.hold_at_zero.ensures ∙ ap hold_at_zero c.limit.ensures in
    rw (← c.self.view_is) (record {
      taken = c.self.invariant;
      value = λ es took. ready_is es (built c.self.inside.builder) took (λ e. grind arith) true test;
      start = λ k h. (zero_tells k h _).0 (sym test);
    })

pub returns-else-hold_at_zero : goal.returns-else-hold_at_zero
returns-else-hold_at_zero c =
    let test = sym c.if-hold_at_zero.false ∙ c.hold_at_zero.ensures ∙ ap hold_at_zero c.limit.ensures in
    rw (← c.self.view_is) (record {
      taken = c.self.invariant;
      value = λ es took. ready_is es (built c.self.inside.builder) took (λ e. grind arith) false test;
      start = λ k h. not_from_Decides _ (zero_tells k h _) (sym test);
    })
