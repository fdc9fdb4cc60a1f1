use Rattle.std.proofs.Common.{Ok, vec_items, sym, ap, ◌∙◌, subst, arith}
use Rattle.reader.specs.Listings.{entries, Adjacent, Lists}
use Rattle.reader.specs.Steps.{step_of}
use Rattle.reader.proofs.Adjoining.{adjacent_push, listed_more, listed_all}
use Rattle.reader.proofs.Framing.{read_length}
use Rattle.reader.proofs.listing.Listing.of.Goals as goal
use Rattle.reader.proofs.listing.Listing.of.Goals.{in-Err, in-Ok-None}

pub loop-record-preserved : goal.loop-record-preserved
loop-record-preserved c =
    let reader = c.loop-record.reader in
    let bytes = c.args.input.now in
    let items = vec_items c.loop-record.records in
    let inv = c.loop-record.invariant in
    let next = c.next.ensures in
    let pushed = c.in_ok-push-in-Ok-Some.ensures.items in
    let is = ap step_of (c.in-Ok-Some.is ∙ ap Ok c.in-Ok-Some.field-0-is) in (
      next.input ∙ inv.0,
      listed_more bytes reader.input.now items _ _ reader.offset _ reader.stage _ _ is inv.0 pushed next.offset next.stage inv.1 (next.reads (entries items)),
      subst (Adjacent 0) (sym pushed) (adjacent_push 0 items _ (omega (arith, c.offset-offset.ensures, read_length bytes (entries items) reader.offset reader.stage inv.1)) inv.2),
    )

pub returns : goal.returns
returns c =
    let reader = c.loop-record.reader in
    let items = vec_items c.loop-record.records in
    let inv = c.loop-record.invariant in
    let ended = listed_all c.args.input.now reader.input.now items reader.offset reader.stage in
    elim c.match-next.branch [
      | in-Err w ↦ subst (Lists c.args.input.now items) (sym w.ending-is) (ended _ _ (ap step_of w.in-Err.is) inv.0 inv.1 (c.next.ensures.reads (entries items)) inv.2)
      | in-Ok-None w ↦ subst (Lists c.args.input.now items) (sym w.ending-is) (ended _ _ (ap step_of (w.in-Ok-None.is ∙ ap Ok w.in-Ok-None.field-0-is)) inv.0 inv.1 (c.next.ensures.reads (entries items)) inv.2)
    ]
