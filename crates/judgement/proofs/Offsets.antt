-- An answer with an offset added to its fault.
use Rattle.std.proofs.Common.{◌≡◌, ℕ, Ok, Err, Result, ap}
use Rattle.book.specs.Calls.{told}
use Rattle.book.specs.declared.fault.BookFault.{BookFault}
use Rattle.judgement.specs.Faults.{located}
use Rattle.judgement.specs.Nodes.{in_book}
use Rattle.judgement.specs.declared.fault.CheckFault.TheVariants as fault
use Rattle.judgement.specs.declared.fault.Located.{Located}

-- a call on a book that is refused
pub in_book_err : {X : Type 0} (at : ℕ) (r : Result X BookFault) (l : Located BookFault) → located at (told r) ≡ Err l → in_book at r ≡ Err (fault.Book l.fault l.offset)
in_book_err at (Ok x) l p = cc
in_book_err at (Err f) l p = let same : record { fault = f; offset = at } ≡ l = cc in ap (λ (m : Located BookFault). Err (fault.Book m.fault m.offset)) same
