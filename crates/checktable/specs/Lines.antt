-- The line for a case of the table.
use Rattle.std.specs.Prelude.{ℕ, ◌==◌, Bool, cond, List, [], ◌++◌, length, Some, None, Option, codes, nat_lt}
use Rattle.std.specs.List.{position_or_len, before_first, after_first}
use Rattle.judgement.specs.Judged.{verdict_on}
use Rattle.judgement.specs.Lines.{verdict_text}
use Rattle.judgement.specs.declared.verdict.Verdict.{Verdict}
use Rattle.checktable.specs.Cases.{file_bytes}

abbrev pub is_colon : ℕ → Bool
is_colon b = b == 58

-- the text of the verdict on a file; every file has a verdict
abbrev pub text_of : Option Verdict → List ℕ
text_of None = []
text_of (Some verdict) = verdict_text verdict

-- what a case comes to
abbrev pub answer : Option (List ℕ) → List ℕ
answer None = codes "MALFORMED"
answer (Some file) = text_of (verdict_on file)

-- the name of a case, and what it comes to; without ':' a case is malformed
abbrev pub case_line : List ℕ → List ℕ
case_line case =
    cond (nat_lt (position_or_len is_colon case) (length case))
    (before_first is_colon case ++ (codes ": " ++ answer (file_bytes (after_first is_colon case))))
    (case ++ (codes ": " ++ answer None))
