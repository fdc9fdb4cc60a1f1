use Rattle.std.proofs.Common.{◌≡◌, ◌+◌, ◌*◌, ◌≤◌, true, sym, ap, ◌∙◌, arith}
use Rattle.zone.specs.Bounds.{nil, implies, plus, size, bound_of}
use Rattle.zone.specs.DifferenceRows.{proper, all_narrow}
use Rattle.zone.specs.Grids.{entry, listed, tightened_grid}
use Rattle.zone.specs.InRange.{range_i, range_j, range_size}
use Rattle.zone.specs.Rows.{countable_high, proper_countable, proper_small, proper_with, same_row}
use Rattle.zone.proofs.difference.DifferenceZone.tightened.Goals as goal

pub bounds-self-j : goal.bounds-self-j
bounds-self-j c =
    let six : c.args.self.now.row.clocks ≤ 6 = countable_high _ (proper_countable c.args.self.now.row c.args.self.now.fitting) in
    let i : c.args.constraint.i ≤ c.args.self.now.row.clocks = range_i _ c.args.constraint c.requires in
    let j : c.args.constraint.j ≤ c.args.self.now.row.clocks = range_j _ c.args.constraint c.requires in
    omega arith

pub plus-requires : goal.plus-requires
plus-requires c =
    let s = proper_small c.args.self.now.row c.args.self.now.fitting c.if-self.false (7 * c.from-j.result + c.from-i.result) in
    let b : size c.from-bound.result ≤ 10000 = rw c.from-bound.ensures (range_size _ c.args.constraint c.requires) in
    (omega arith, omega arith)

pub tightened-bounds-requires : goal.tightened-bounds-requires
tightened-bounds-requires c =
    let six : c.args.self.now.row.clocks ≤ 6 = countable_high _ (proper_countable c.args.self.now.row c.args.self.now.fitting) in
    let i : c.args.constraint.i ≤ c.args.self.now.row.clocks = range_i _ c.args.constraint c.requires in
    let j : c.args.constraint.j ≤ c.args.self.now.row.clocks = range_j _ c.args.constraint c.requires in
    record { within = (omega arith, omega arith, range_size _ c.args.constraint c.requires); small = proper_small c.args.self.now.row c.args.self.now.fitting c.if-self.false }

pub of-requires-2 : goal.of-requires-2
unfolding entry
of-requires-2 c =
    let s : implies nil (plus (bound_of c.args.constraint) (entry c.args.self.now.row.bounds c.args.constraint.j c.args.constraint.i)) ≡ true = cc in
    let a : all_narrow (listed (tightened_grid (entry c.args.self.now.row.bounds) c.args.constraint.i c.args.constraint.j (bound_of c.args.constraint))) ≡ true = ap all_narrow (sym c.tightened-bounds.ensures) ∙ sym c.if-not-are_narrow.ensures in
    ap proper (same_row _ c.tightened-bounds.result _ c.tightened-bounds.ensures) ∙ proper_with c.args.self.now.row c.args.self.now.fitting c.if-self.false c.args.constraint.i c.args.constraint.j (bound_of c.args.constraint) (range_i _ c.args.constraint c.requires) (range_j _ c.args.constraint c.requires) s a
