use Rattle.std.proofs.Common.{◌≡◌, drop}
use Rattle.verilog_designs.specs.Reads.{or_in, reads_in_all}
use Rattle.v_syntax.specs.Tree.{expressions_of}
use Rattle.v_value.specs.Scope.{scope_at}
use Rattle.v_value.specs.Narrow.{AreNarrow}
use Rattle.v_flow.specs.Spans.{bits_in}
use Rattle.v_depend.proofs.run.add_all_reads.Given as goal

abbrev pub invariant-loop-expression : goal.invariant-loop-expression
invariant-loop-expression l = record {
  same : or_in (bits_in l.initial.found.items) (reads_in_all (scope_at l.scope) (expressions_of l.expressions))
      ≡ or_in (bits_in l.found.items) (reads_in_all (scope_at l.scope) (expressions_of (drop l.expression-index l.expressions)));
  narrow : AreNarrow (scope_at l.scope) (expressions_of (drop l.expression-index l.expressions));
}
