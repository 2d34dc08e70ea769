use Rattle.std.proofs.Common.{◌∙◌, sym, map}
use Rattle.verilog_trees.specs.Syntax.{if_then}
use Rattle.v_syntax.specs.Tree.{statement_of}
use Rattle.emitted_modules.specs.Rtl.{takes}
use Rattle.emitted_modules.specs.Nodes.{operand}
use Rattle.emitted_names.proofs.Turns.{ap2}
use Rattle.emitted_trees.proofs.Written.{no_take, one_take}
use Rattle.emitted_trees.proofs.updates.with_update.Goals as goal

pub returns-then-is_of_memory : goal.returns-then-is_of_memory
returns-then-is_of_memory c =
    let g = c.args.wires.terms.now in
    no_take g (operand g c.args.decode.0) c.args.update (map statement_of c.args.statements.items) (sym c.is_of_memory.ensures ∙ c.if-is_of_memory.true)

pub returns : goal.returns
returns c =
    let g = c.args.wires.terms.now in
    one_take g (operand g c.args.decode.0) c.args.update (map statement_of c.args.statements.items) _ _ (sym c.is_of_memory.ensures ∙ c.if-is_of_memory.false) c.in_ok-all.ensures
    (c.in_ok-made.ensures ∙ ap2 if_then c.operand-2.ensures (c.in_ok-take.ensures ∙ ap2 (λ n e. takes (n, e)) c.name-name.ensures c.operand.ensures))
