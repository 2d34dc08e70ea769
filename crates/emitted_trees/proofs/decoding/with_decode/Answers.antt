use Rattle.std.proofs.Common.{◌≡◌, ◌∙◌, ◌+◌, ◌++◌, ◌∷◌, [], suc, ap, map, codes, length, arith}
use Rattle.std.proofs.lemmas.List.{append_assoc}
use Rattle.v_syntax.specs.Source.{item_of}
use Rattle.emitted_modules.specs.Rtl.{wire_item}
use Rattle.emitted_modules.specs.Nodes.{operand}
use Rattle.emitted_modules.specs.Module.{none_name, one_name, none_wire, one_wire}
use Rattle.emitted_trees.proofs.Decodes.{none_item, one_item}
use Rattle.emitted_names.proofs.Turns.{ap2, ap3}
use Rattle.emitted_trees.proofs.decoding.with_decode.Goals as goal

pub name_at-none-requires : goal.name_at-none-requires
name_at-none-requires c = omega (arith, c.requires.none)

pub name_at-one-requires : goal.name_at-one-requires
name_at-one-requires c = omega (arith, c.requires.one)

pub name_at-name-requires : goal.name_at-name-requires
name_at-name-requires c = omega (arith, c.requires.none)

pub name_at-name-requires-2 : goal.name_at-name-requires-2
name_at-name-requires-2 c = omega (arith, c.requires.one)

pub returns : goal.returns
returns c =
    let front = map item_of c.args.items.items in
    let g = c.args.wires.terms.now in
    let k = c.args.after in
    let next : k + 1 ≡ suc k = omega arith in
    let d = c.requires.decoding in
    let none = c.name_at-none.ensures (codes "wb_none_") (length c.args.names.nones.now) d.all_nones (omega (arith, c.requires.none)) in
    let one = c.name_at-one.ensures (codes "wb_one_") (length c.args.names.ones.now) d.all_ones (omega (arith, c.requires.one)) in
    let nones = c.name_at-name.ensures (codes "wb_none_") (length c.args.names.nones.now) d.all_nones (omega (arith, c.requires.none)) ∙ ap none_name next in
    let ones = c.name_at-name-2.ensures (codes "wb_one_") (length c.args.names.ones.now) d.all_ones (omega (arith, c.requires.one)) ∙ ap one_name next in
    c.in_ok-items-2.ensures
    ∙ ap2 (λ xs x. xs ++ x ∷ []) (c.in_ok-items.ensures ∙ ap (λ x. front ++ x ∷ []) (ap3 none_item nones c.operand.ensures none))
    (ap2 (λ n f. f n) ones (ap3 one_item c.operand-2.ensures none one))
    ∙ append_assoc front (wire_item (none_wire (operand g c.args.decode.0) k) ∷ []) (wire_item (one_wire (operand g c.args.decode.0) k) ∷ [])
