use Rattle.booklist.proofs.line.RecordLineDisplay.fmt.Goals as goal

pub returns-in-Head-clause-writes : goal.returns-in-Head-clause-writes
returns-in-Head-clause-writes g c plain ok = rw c.in-Head.is (c.write.ensures.writes plain ok)

pub returns-in-Limit-clause-writes : goal.returns-in-Limit-clause-writes
returns-in-Limit-clause-writes g c plain ok = rw c.in-Limit.is (c.write-in-Limit.ensures.writes plain ok)

pub returns-in-Guard-clause-writes : goal.returns-in-Guard-clause-writes
returns-in-Guard-clause-writes g c plain ok = rw c.in-Guard.is (c.write-in-Guard.ensures.writes plain ok)

pub returns-in-Book-clause-writes : goal.returns-in-Book-clause-writes
returns-in-Book-clause-writes g c plain ok = rw c.in-Book.is (c.write-in-Book.ensures.writes plain ok)
