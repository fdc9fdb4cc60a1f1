-- The text of a verdict, and its line.
use Rattle.std.specs.Prelude.{ℕ, List, [], ◌∷◌, ◌++◌, Some, None, codes, decimal, Option}
use Rattle.std.proofs.Math.Utf8.{encode}
use Rattle.reader.specs.Grounds.{number_of, letter_of}
use Rattle.judgement.specs.declared.verdict.Verdict.{Verdict}
use Rattle.judgement.specs.declared.verdict.Verdict.TheVariants.{Stands, Refused}

-- a number in decimal, or - where there is none
abbrev pub naming : Option ℕ → List ℕ
naming None = codes "-"
naming (Some n) = decimal n

-- the same of anything that has a text
abbrev pub naming_by : {N : Type 0} → (N → Option (List ℕ)) → Option N → Option (List ℕ)
naming_by shown None = Some (codes "-")
naming_by shown (Some x) = shown x

-- STANDS and the number, or REFUSED and ground, layer, offset, node and edge
abbrev pub verdict_text : Verdict → List ℕ
verdict_text (Stands n) = codes "STANDS " ++ decimal n
verdict_text (Refused r) =
    codes "REFUSED " ++ (decimal (number_of r.reason) ++ (codes " " ++ (encode (letter_of r.layer) ++ (codes " " ++ (decimal r.offset ++ (codes " " ++ (naming r.place ++ (codes " " ++ naming r.edge))))))))

-- a text and the end of its line
abbrev pub ended_line : List ℕ → List ℕ
ended_line text = text ++ 0x0a ∷ []

abbrev pub line : Verdict → List ℕ
line v = ended_line (verdict_text v)
