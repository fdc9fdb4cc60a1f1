-- What a case of the table writes: the bytes of its file.
use Rattle.std.specs.Prelude.{ℕ, ◌==◌, Bool, ◌&&◌, cond, List, [], ◌∷◌, ◌++◌, length, Some, None, Option, option_map, option_and_then, nat_le, nat_lt}
use Rattle.std.specs.Char.{is_ascii_digit, is_ascii_uppercase}
use Rattle.std.specs.List.{list_any, list_all, repeat, position_or_len, before_first, after_first, slice_split}
use Rattle.std.specs.Result.{result_ok}
use Rattle.std.specs.Str.Parse.{digits_value}
use Rattle.hex.specs.Hex.{decode_of}

-- the bytes of pairs of hexadecimal digits, with lower case letters
abbrev pub hex_bytes : List ℕ → Option (List ℕ)
hex_bytes text = cond (list_any is_ascii_uppercase text) None (result_ok (decode_of text))

-- how often a token's bytes stand: 1 to 65,536 times, in decimal digits
abbrev pub count_of : List ℕ → Option ℕ
count_of text = cond (list_all is_ascii_digit text && nat_le 1 (digits_value 10 text) && nat_le (digits_value 10 text) 65536) (Some (digits_value 10 text)) None

-- at least one pair of digits
abbrev pub pairs : List ℕ → Option (List ℕ)
pairs text = cond (length text == 0) None (hex_bytes text)

abbrev pub is_star : ℕ → Bool
is_star b = b == 42

-- pairs of digits, or such and a count with '*' between them
abbrev pub token_bytes : List ℕ → Option (List ℕ)
token_bytes token =
    cond (nat_lt (position_or_len is_star token) (length token))
    (option_and_then (λ n. option_map (repeat n) (pairs (before_first is_star token))) (count_of (after_first is_star token)))
    (pairs token)

abbrev pub is_space : ℕ → Bool
is_space b = b == 32

-- these bytes and those that follow, if there are any
abbrev pub after : List ℕ → Option (List ℕ) → Option (List ℕ)
after bytes = option_map (λ rest. bytes ++ rest)

-- the bytes of tokens, one after the other
abbrev pub tokens_bytes : List (List ℕ) → Option (List ℕ)
tokens_bytes [] = Some []
tokens_bytes (token ∷ tokens) = option_and_then (λ bytes. after bytes (tokens_bytes tokens)) (token_bytes token)

-- nothing, or tokens with a space before each
abbrev pub file_bytes : List ℕ → Option (List ℕ)
file_bytes [] = Some []
file_bytes (b ∷ bs) = cond (is_space b) (tokens_bytes (slice_split is_space bs)) None
