use Rattle.std.proofs.Common.{◌∙◌, ◌++◌, ap, map, subst, sym, length, List, arith}
use Rattle.std.proofs.lemmas.List.{length-map}
use Rattle.verilog_trees.specs.Syntax.{Expression}
use Rattle.wb_terms.specs.declared.nodes.TermId.{TermId}
use Rattle.ila_model.specs.declared.parts.Instruction.{Instruction}
use Rattle.v_syntax.specs.Source.{item_of}
use Rattle.wanted_terms.specs.Wanted.{AreBelow}
use Rattle.emitted_modules.specs.Rtl.{wire_item}
use Rattle.emitted_modules.specs.Module.{decode_wires}
use Rattle.emitted_trees.specs.Items.{operands_in}
use Rattle.emitted_trees.proofs.Decodes.{decodes_below}
use Rattle.emitted_trees.proofs.Decodes.{by_instructions}
use Rattle.emitted_trees.proofs.module.with_decode_wires.Goals as goal

pub with_decodes-requires : goal.with_decodes-requires
with_decodes-requires c =
    let e = c.as_slice.ensures.value ∙ c.in_ok-decodes.ensures in
    let many = ap length e ∙ length-map c.args.instructions.now (λ (i : Instruction). i.decode) in
    record {
      below = subst (λ (xs : List TermId). AreBelow (length c.args.wires.terms.now.nodes) xs) (sym e) (decodes_below c.args.wires.terms.now c.args.instructions.now c.requires.within);
      named = c.requires.named;
      none = omega (arith, c.requires.none, many);
      one = omega (arith, c.requires.one, many);
      decoding = c.requires.decoding;
    }

pub returns : goal.returns
returns c =
    let g = c.args.wires.terms.now in
    c.in_ok-items.ensures
    ∙ ap (λ (xs : List TermId). map item_of c.args.items.items ++ map wire_item (decode_wires (operands_in g xs))) (c.as_slice.ensures.value ∙ c.in_ok-decodes.ensures)
    ∙ ap (λ (es : List Expression). map item_of c.args.items.items ++ map wire_item (decode_wires es)) (by_instructions g c.args.instructions.now)
