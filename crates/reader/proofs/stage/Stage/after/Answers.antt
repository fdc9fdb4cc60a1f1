use Rattle.reader.proofs.Orders.{follows}
use Rattle.reader.proofs.stage.Stage.after.Goals as goal

pub returns-clause-order : goal.returns-clause-order
returns-clause-order c = λ before h e. rw c.moved.ensures (follows before c.args.self c.args.kind h e)
