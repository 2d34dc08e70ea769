use Rattle.std.proofs.Common.{◌≡◌, ◌++◌, map, drop}
use Rattle.v_syntax.specs.Tree.{statement_of}
use Rattle.emitted_trees.proofs.Loops.{statements_from}
use Rattle.emitted_trees.proofs.updates.instruction_statements.Given as goal

abbrev pub invariant-loop-number : goal.invariant-loop-number
invariant-loop-number l =
    map statement_of l.all.items ++ statements_from l.wires.terms.now l.number (drop l.number l.instructions) ≡ statements_from l.wires.terms.now 0 l.instructions
