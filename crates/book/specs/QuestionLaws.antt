-- The two questions keep the laws of a question.
use Rattle.std.proofs.Common.{rules}
use Rattle.book.specs.Questions.{Keeps, unreachability, emptiness}

pub unreachability_keeps : Keeps unreachability
unreachability_keeps = record { admits_left = search rules; passes_left = search rules }

pub emptiness_keeps : Keeps emptiness
emptiness_keeps = record { admits_left = search rules; passes_left = search rules }
