use Rattle.std.proofs.Common.{◌≡◌, ◌+◌, ◌*◌, ◌/◌, ◌%◌, ◌∙◌, sym, ap, subst, length-set, arith, rules}
use Rattle.zone.proofs.Filling.{Written, written_more, written_all}
use Rattle.zone.proofs.difference.bounds.grid.Goals as goal

pub loop-q-init : goal.loop-q-init
loop-q-init g c =
    let k : 7 * c.loop-p.p + 0 ≡ 7 * c.loop-p.p = omega arith in
    (c.loop-p.invariant.0, λ d h. subst (Written d c.loop-p.bounds) (sym k) (c.loop-p.invariant.1 d h))

pub loop-q-preserved : goal.loop-q-preserved
loop-q-preserved g c =
    let p = c.loop-p.p in
    let q = c.loop-q.q in
    let row : (7 * p + q) / 7 ≡ p = omega arith in
    let column : (7 * p + q) % 7 ≡ q = omega arith in
    let next : 7 * p + q + 1 ≡ 7 * p + (q + 1) = omega arith in (
      length-set _ _ _ ∙ c.loop-q.invariant.0,
      λ d h. subst (Written d _) next (written_more d _ (7 * p + q) _ (c.loop-q.invariant.1 d h) (omega arith) (h p q _ (omega arith) (omega arith) (search rules) ∙ sym (ap (λ i. d i ((7 * p + q) % 7)) row ∙ ap (d p) column))),
    )

pub loop-p-preserved : goal.loop-p-preserved
loop-p-preserved g c =
    let k : 7 * c.loop-p.p + c.loop-q.q ≡ 7 * (c.loop-p.p + 1) = omega arith in
    (c.loop-q.invariant.0, λ d h. subst (Written d c.loop-q.bounds) k (c.loop-q.invariant.1 d h))

pub returns : goal.returns
returns g c d h = written_all d _ _ (c.loop-p.invariant.1 d h) (omega arith)
