use Rattle.std.proofs.Common.{◌≡◌, length, drop, vec_items}
use Rattle.std.specs.List.{slice_split}
use Rattle.checktable.specs.Cases.{is_space, tokens_bytes, after}
use Rattle.checktable.proofs.token.tokens.Given as goal

-- the bytes of the tokens so far, and the tokens that are left
abbrev pub invariant-loop-part : goal.invariant-loop-part
invariant-loop-part l = after (vec_items l.file) (tokens_bytes (drop (length l.yielded) (slice_split is_space l.text))) ≡ tokens_bytes (slice_split is_space l.text)
