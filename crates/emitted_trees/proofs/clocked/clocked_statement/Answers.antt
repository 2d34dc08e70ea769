use Rattle.std.proofs.Common.{◌∙◌, List, ap, length, subst, sym}
use Rattle.verilog_trees.specs.Syntax.{if_then, if_else}
use Rattle.verilog_meaning.specs.Settled.{whole_name}
use Rattle.wb_terms.specs.Graph.{Graph}
use Rattle.ila_model.specs.declared.parts.Instruction.{Instruction}
use Rattle.emitted_designs.specs.Names.{reset_name, start_name}
use Rattle.emitted_modules.specs.Rtl.{in_block, all_guarded}
use Rattle.emitted_modules.specs.Module.{guarded_from}
use Rattle.emitted_names.specs.Within.{AreWithin}
use Rattle.emitted_names.specs.Parts.{AreWaysTo}
use Rattle.emitted_names.proofs.Bounds.{bounds}
use Rattle.emitted_names.proofs.Turns.{ap2}
use Rattle.emitted_trees.proofs.clocked.clocked_statement.Goals as goal

pub instruction_statements-requires : goal.instruction_statements-requires
instruction_statements-requires c =
    let p = c.args.model.now.parts in
    let e = c.as_slice-instructions.ensures.value in
    record {
      within = subst (AreWithin c.args.wires.terms.now) (sym e) (subst (λ (g : Graph). AreWithin g p.instructions.items) (sym c.requires.terms) (bounds p c.args.model.now.well_sorted).instructed);
      named = c.requires.named;
      ways = subst (λ (is : List Instruction). AreWaysTo c.args.wires.terms.now is (length is) c.args.ways.now) (sym e)
          (subst (λ (g : Graph). AreWaysTo g p.instructions.items (length p.instructions.items) c.args.ways.now) (sym c.requires.terms) c.requires.ways);
    }

pub returns : goal.returns
returns c =
    c.in_ok-made.ensures
    ∙ ap2 (λ a b. if_else (whole_name reset_name) a (if_then (whole_name start_name) b)) (c.in_block.ensures ∙ ap in_block c.in_ok-reset.ensures)
    (c.in_block-2.ensures ∙ ap in_block (c.in_ok-start.ensures ∙ ap2 (λ g is. all_guarded (guarded_from g 0 is)) c.requires.terms c.as_slice-instructions.ensures.value))
