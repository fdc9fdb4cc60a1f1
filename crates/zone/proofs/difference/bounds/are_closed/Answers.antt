use Rattle.std.proofs.Common.{◌≡◌, length, sym, rules}
use Rattle.zone.specs.Closed.{fit_small}
use Rattle.zone.proofs.difference.bounds.are_closed.Goals as goal

pub triangles_hold-requires : goal.triangles_hold-requires
triangles_hold-requires c =
    let n : length c.args.bounds.now ≡ 49 = search rules in
    fit_small _ c.args.bounds.now n (sym c.if-all_fit.ensures)
