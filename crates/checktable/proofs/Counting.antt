-- A count is the number that its digits write, if that is in range.
use Rattle.std.proofs.Common.{◌≡◌, ℕ, true, ◌&&◌, cond, List, [], ◌∷◌, Some, None, Ok, Err, Result, nat_le, arith, rules}
use Rattle.std.proofs.lemmas.Bool.Decides.{nat_tests}
use Rattle.std.proofs.lemmas.Str.Parse.{IsNumeralModel, numerals_by_value, parse_digits}
use Rattle.std.specs.Char.{is_ascii_digit}
use Rattle.std.specs.List.{list_all}
use Rattle.std.specs.Result.{result_ok}
use Rattle.std.specs.Str.Parse.{ParsesUnsigned, digits_value}
use Rattle.checktable.specs.Cases.{count_of}

own : IsNumeralModel (λ ds. list_all is_ascii_digit ds ≡ true) (digits_value 10)
own = numerals_by_value _ (search rules)

pub count_read : {E : Type 0} (text : List ℕ) (r : Result ℕ E) (n : ℕ) → ParsesUnsigned 64 10 text r → list_all is_ascii_digit text ≡ true → Some n ≡ result_ok r → count_of text ≡ cond (nat_le 1 n && nat_le n 65536) (Some n) None
count_read {E} text (Ok x) n h digits ok = let e = parse_digits own {E = E} 64 text (Ok x) h digits in grind (arith, nat_tests)
count_read text (Err d) n h digits ok = cc

pub count_unread : {E : Type 0} (text : List ℕ) (r : Result ℕ E) → ParsesUnsigned 64 10 text r → list_all is_ascii_digit text ≡ true → None ≡ result_ok r → count_of text ≡ None
count_unread text (Ok x) h digits err = cc
count_unread [] (Err d) h digits err = grind (arith, nat_tests)
count_unread {E} (b ∷ bs) (Err d) h digits err = let e = parse_digits own {E = E} 64 (b ∷ bs) (Err d) h digits in grind (arith, nat_tests)
