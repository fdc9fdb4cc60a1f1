-- Digits decoded into as many bytes as there are pairs.
use Rattle.std.proofs.Common.{◌≡◌, ℕ, ◌/◌, Bool, true, false, cond, get_or, is_ok, List, ◌++◌, length, take, drop, Option, Some, None, Ok, Err, Result, MatchResult, refl, ap, ◌∙◌, arith}
use Rattle.std.proofs.lemmas.Bool.{false≢true}
use Rattle.std.proofs.lemmas.Bool.Decides.{nat_tests}
use Rattle.std.proofs.lemmas.Grind.{common_steps}
use Rattle.std.proofs.lemmas.List.Sums.{list_all-from_AllPass}
use Rattle.std.specs.Char.{is_ascii_hexdigit, is_ascii_uppercase}
use Rattle.std.specs.List.{list_any, list_all}
use Rattle.std.specs.Result.{result_ok}
use Rattle.hex.proofs.HexLemmas.{decode_of-ok}
use Rattle.hex.specs.Hex.{is_hex_digit, decode_of, decode_sized}
use Rattle.hex.specs.declared.error.FromHexError.{FromHexError}
use Rattle.checktable.specs.Cases.{hex_bytes}

decodes : (text : List ℕ) (n : ℕ) → n ≡ length text / 2 → decode_sized text n ≡ decode_of text
decodes text n e = grind (arith, nat_tests)

ok_only : (d : Result (List ℕ) FromHexError) (r : Result (Unit {0}) FromHexError) (out : List ℕ) → MatchResult d (λ bytes. (r ≡ Ok tt) × (out ≡ bytes)) (λ e. r ≡ Err e) → true ≡ is_ok r → d ≡ Ok out
ok_only d r out told ok = grind arith

written : (out items : List ℕ) (len : ℕ) → length out ≡ len → length items ≡ len → take len (out ++ drop (length out) items) ≡ out
written out items len a b = grind (arith, common_steps)

pub hex_bytes_written : (text out items : List ℕ) (n len : ℕ) (r : Result (Unit {0}) FromHexError) → false ≡ list_any is_ascii_uppercase text → MatchResult (decode_sized text n) (λ bytes. (r ≡ Ok tt) × (out ≡ bytes)) (λ e. r ≡ Err e) → true ≡ is_ok r → n ≡ length text / 2 → length out ≡ len → length items ≡ len → hex_bytes text ≡ Some (take len (out ++ drop (length out) items))
hex_bytes_written text out items n len r lower told ok half long room =
    let d = ok_only (decode_sized text n) r out told ok in
    let e = decodes text n half in
    let w = written out items len long room in
    grind arith

digit : (c : ℕ) → is_hex_digit c ≡ true → is_ascii_hexdigit c ≡ true
digit c h = grind (arith, nat_tests)

nothing : (b : Bool) → ◌≡◌ {A = Option (List ℕ)} (cond b None None) None
nothing true = refl
nothing false = refl

-- a text that has something else than digits has no bytes
pub no_hex : (text : List ℕ) → false ≡ list_all is_ascii_hexdigit text → hex_bytes text ≡ None
no_hex text h = go (decode_of text) refl
  where
    go : (d : Result (List ℕ) FromHexError) → decode_of text ≡ d → hex_bytes text ≡ None
    go (Ok bytes) e =
        let digits = (decode_of-ok text bytes e).1 in
        let all : list_all is_ascii_hexdigit text ≡ true = list_all-from_AllPass is_ascii_hexdigit text (λ k d l. digit (get_or text k d) (digits k d l)) in
        absurd (false≢true (h ∙ all))
    go (Err f) e = ap (λ d. cond (list_any is_ascii_uppercase text) None (result_ok d)) e ∙ nothing (list_any is_ascii_uppercase text)
