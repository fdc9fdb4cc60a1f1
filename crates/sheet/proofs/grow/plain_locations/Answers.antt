use Rattle.std.proofs.Common.{map, sym, ap, ◌∙◌, rules, arith}
use Rattle.std.proofs.lemmas.Iterator.{YieldsList-from_range, YieldsList-from_map_by, items_from_drains}
use Rattle.std.proofs.lemmas.List.FromFn.{length-range_with_len}
use Rattle.std.proofs.lemmas.Simd.{splat_is_map}
use Rattle.std.specs.List.{range_with_len}
use Rattle.std.proofs.lemmas.Result.{IfOk-weaker}
use Rattle.sheet.specs.Sheets.{plain, location_of}
use Rattle.sheet.proofs.grow.plain_locations.Goals as goal

pub returns : goal.returns
returns c =
    IfOk-weaker c.collect.result _ _ (λ v h.
    ap (map location_of) h.2.0
    ∙ items_from_drains h.0 h.1 (YieldsList-from_map_by _ location_of (λ _. plain) (YieldsList-from_range 0 c.args.count c.args.count (cc) (omega arith)) c.map.ensures.closure (λ x r q k. search rules))
    ∙ sym (splat_is_map (range_with_len 0 c.args.count) c.args.count plain (length-range_with_len 0 c.args.count))) c.collect.ensures.ran
