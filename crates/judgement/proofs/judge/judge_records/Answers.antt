use Rattle.std.proofs.Common.{map}
use Rattle.reader.specs.Readings.{sited_of}
use Rattle.judgement.proofs.Splitting.{bounds_judged, front_split, back_split}
use Rattle.judgement.proofs.judge.judge_records.Goals as goal

pub returns-clause-bounds : goal.returns-clause-bounds
returns-clause-bounds c =
    let ps = c.args.all.now.records.now in
    let drafts = c.in_ok-draft.ensures in
    let front = front_split ps c.sheet_length.result c.sheet_length.ensures.value c.split_at.result.0.now c.split_at.ensures.front in
    let back = back_split ps c.sheet_length.result c.sheet_length.ensures.value c.split_at.result.1.now c.split_at.ensures.back in
    bounds_judged c.args.all.now.ending c.args.all.now.len (map sited_of ps) _ _ c.from_sheet.result drafts.0 front back drafts.1 (c.from_sheet.ensures.bounds drafts.0 drafts.2)
