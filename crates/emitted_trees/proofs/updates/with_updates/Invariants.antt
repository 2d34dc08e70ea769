use Rattle.std.proofs.Common.{◌≡◌, ◌++◌, map, drop}
use Rattle.v_syntax.specs.Tree.{statement_of}
use Rattle.emitted_modules.specs.Nodes.{operand}
use Rattle.emitted_modules.specs.Module.{updates_for}
use Rattle.emitted_trees.specs.Items.{take_statements}
use Rattle.emitted_trees.proofs.updates.with_updates.Given as goal

abbrev pub invariant-loop-place : goal.invariant-loop-place
invariant-loop-place l =
    map statement_of l.all.items ++ take_statements (operand l.wires.terms.now l.decode.0) (updates_for l.wires.terms.now (drop l.place l.updates))
    ≡ map statement_of l.fn.statements.items ++ take_statements (operand l.wires.terms.now l.decode.0) (updates_for l.wires.terms.now l.updates)
