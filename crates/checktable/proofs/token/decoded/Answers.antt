use Rattle.std.proofs.Common.{sym, ◌∙◌}
use Rattle.checktable.proofs.Decoding.{hex_bytes_written, no_hex}
use Rattle.checktable.proofs.token.decoded.Goals as goal

pub returns-then-not-is_hex : goal.returns-then-not-is_hex
returns-then-not-is_hex c = no_hex c.args.text.now (c.if-not-is_hex.ensures)

pub returns : goal.returns
returns c =
    let bytes = c.in_ok-bytes.bytes in
    hex_bytes_written c.args.text.now c.decode_to_slice.new.out bytes.items _ bytes.len c.decode_to_slice.result
    (sym c.if-has_capitals.false ∙ c.has_capitals.ensures)
    c.decode_to_slice.ensures.value
    c.in_ok-map_err.ensures.variant
    (c.as_mut_slice.ensures.len ∙ c.in_ok-bytes.ensures.len)
    (c.decode_to_slice.auto.out ∙ c.as_mut_slice.ensures.len)
    (sym bytes.ok.0)
