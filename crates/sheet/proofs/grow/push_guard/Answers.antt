use Rattle.std.proofs.Common.{◌≡◌, ◌-◌, ◌<◌, cond, List, map, length, is_ok, sym, ap, ◌∙◌, arith}
use Rattle.std.proofs.lemmas.List.{length-map}
use Rattle.sheet.specs.Automata.{Edge}
use Rattle.sheet.specs.Sheets.{edge_of}
use Rattle.sheet.proofs.Growing.{changed_if, with_atom, guarded_is}
use Rattle.sheet.proofs.grow.push_guard.Goals as goal

pub returns : goal.returns
returns c =
    let v = c.args.edges.now in
    let found = c.in-Some.ensures.item.3 in
    let x = c.in-Some.edge.now in
    let last : v.len - 1 ≡ length (map edge_of v.items) - 1 = ap (λ n. n - 1) (v.ok.0 ∙ sym (length-map v.items edge_of)) in
    let within : v.len - 1 < length v.items = omega (arith, v.ok.0, found.0) in
    changed_if edge_of (with_atom c.args.atom) v.items (length (map edge_of v.items) - 1) (v.len - 1) (edge_of x) last (is_ok c.push.result) x _ within (found.1 x)
    (grind (arith, c.push.ensures.items))
    ∙ ap (λ (es : List Edge). cond (is_ok c.push.result) es (map edge_of v.items)) (sym (guarded_is c.args.atom (map edge_of v.items) (edge_of x)))
