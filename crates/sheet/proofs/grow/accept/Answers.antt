use Rattle.std.proofs.Common.{true, refl}
use Rattle.sheet.specs.Parts.{accepted}
use Rattle.sheet.specs.Sheets.{plain, location_of}
use Rattle.sheet.proofs.Growing.{changed_if}
use Rattle.sheet.proofs.grow.accept.Goals as goal

pub returns-in-Some : goal.returns-in-Some
returns-in-Some c =
    let found = c.in-Some.ensures.item.3 in
    changed_if location_of accepted _ c.args.number c.from.result plain c.from.ensures true c.in-Some.location.now _ found.0 (found.1 c.in-Some.location.now) refl
