use Rattle.std.proofs.Common.{◌∙◌, ◌++◌, ap, map}
use Rattle.std.proofs.lemmas.List.{append_assoc}
use Rattle.v_syntax.specs.Source.{item_of}
use Rattle.emitted_modules.specs.Rtl.{wire_item}
use Rattle.emitted_modules.specs.Module.{decode_wires, decodes_of, all_ways, memories_from}
use Rattle.emitted_trees.proofs.module.with_instructions.Goals as goal

pub returns : goal.returns
returns c =
    let g = c.args.wires.terms.now in
    let is = c.args.instructions.now in
    c.in_ok-items-2.ensures
    ∙ ap (λ xs. xs ++ map wire_item (all_ways g (memories_from g 0 is))) c.in_ok-items.ensures
    ∙ append_assoc (map item_of c.args.items.items) (map wire_item (decode_wires (decodes_of g is))) (map wire_item (all_ways g (memories_from g 0 is)))
