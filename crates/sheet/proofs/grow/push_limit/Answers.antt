use Rattle.std.proofs.Common.{is_ok, arith}
use Rattle.sheet.specs.Parts.{limited}
use Rattle.sheet.specs.Sheets.{plain, location_of}
use Rattle.sheet.proofs.Growing.{changed_if}
use Rattle.sheet.proofs.grow.push_limit.Goals as goal

pub returns : goal.returns
returns c =
    let found = c.in-Some.ensures.item.3 in
    let x = c.in-Some.location.now in
    changed_if location_of (limited c.args.atom) _ c.args.number c.from.result plain c.from.ensures (is_ok c.push.result) x _ found.0 (found.1 x)
    (grind (arith, c.push.ensures.items))
