use Rattle.std.proofs.Common.{List, map, length, IfOk, vec_items, ap, ◌∙◌, subst}
use Rattle.std.proofs.lemmas.Result.{IfOk-weaker}
use Rattle.reader.specs.Readings.{sited_of}
use Rattle.reader.specs.declared.listing.Placed.{Placed}
use Rattle.judgement.specs.Described.{Bounds, BoundsIn}
use Rattle.judgement.specs.Judged.{judged, Tells}
use Rattle.judgement.proofs.Splitting.{judged_listing, bounds_listing}
use Rattle.judgement.proofs.judge.judge.Goals as goal

pub returns-clause-value : goal.returns-clause-value
returns-clause-value c =
    let bytes = c.args.input.now in
    let ps = vec_items c.in_ok-listing.listing.records in
    let ending = c.in_ok-listing.listing.ending in
    subst (λ s. Tells s c.judge_records.result) (ap (λ (qs : List Placed). judged ending (length bytes) (map sited_of qs)) c.as_slice.ensures.value ∙ judged_listing bytes ps ending c.in_ok-listing.ensures) c.judge_records.ensures.value

pub returns-clause-bounds : goal.returns-clause-bounds
returns-clause-bounds c =
    let bytes = c.args.input.now in
    let ps = vec_items c.in_ok-listing.listing.records in
    let ending = c.in_ok-listing.listing.ending in
    IfOk-weaker c.judge_records.result (BoundsIn (map sited_of ps) ending) (Bounds bytes) (λ n b. bounds_listing bytes ps ending n c.in_ok-listing.ensures b)
    (subst (λ (qs : List Placed). IfOk c.judge_records.result (BoundsIn (map sited_of qs) ending)) c.as_slice.ensures.value c.judge_records.ensures.bounds)
