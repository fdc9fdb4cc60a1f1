use Rattle.std.proofs.Common.{rules}
use Rattle.judgement.proofs.Finding.{node_found}
use Rattle.judgement.proofs.certify.node_offset.Goals as goal

pub returns : goal.returns
returns c = rw (node_found c.args.place c.args.records.now, ← c.node_of.ensures) (search rules)
