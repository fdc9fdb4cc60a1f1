use Rattle.std.proofs.Common.{refl, rules, tests}
use Rattle.std.proofs.lemmas.Iterator.{YieldsList-from_range, items_from_collect}
use Rattle.std.proofs.lemmas.Iterator.Consumers.{YieldsList-from_filter}
use Rattle.sheet.specs.Fields.{names, clocks_named}
use Rattle.sheet.proofs.grow.named_clocks.Goals as goal

pub returns : goal.returns
unfolding clocks_named
returns c =
    items_from_collect _ c.collect.ensures.ran
    (YieldsList-from_filter _ (names c.args.byte) (YieldsList-from_range 1 9 8 (cc) refl) c.filter.ensures.closure (λ x b q k. search (rules, tests)))
