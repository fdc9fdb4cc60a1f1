use Rattle.std.proofs.lemmas.List.{take_rest}
use Rattle.reader.proofs.Stepping.{step_short}
use Rattle.reader.proofs.reader.Reader.due.Goals as goal

pub returns : goal.returns
returns c =
    let reader = c.args.self.now in
    let step = rw (take_rest reader.input.now reader.offset) at c.due_in.ensures in
    rw (step_short reader.input.now reader.stage reader.offset c.if-self-gt-MAX_LEN.false) step
