use Rattle.std.proofs.Common.{◌≡◌, drop}
use Rattle.verilog_designs.specs.Reads.{or_in}
use Rattle.v_value.specs.Scope.{scope_at}
use Rattle.v_statement.specs.Statements.{target_list}
use Rattle.v_flow.specs.Spans.{bits_in}
use Rattle.v_flow.specs.Narrow.{HaveNarrowParts}
use Rattle.v_flow.specs.Flow.{targets_read_at}
use Rattle.v_flow.proofs.reached.+indexing.Given as goal

abbrev pub invariant-add_all_indexes-loop-target : goal.invariant-add_all_indexes-loop-target
invariant-add_all_indexes-loop-target l = record {
  same : or_in (bits_in l.initial.found.items) (targets_read_at (scope_at l.scope) (target_list l.targets))
      ≡ or_in (bits_in l.found.items) (targets_read_at (scope_at l.scope) (target_list (drop l.target-index l.targets)));
  narrow : HaveNarrowParts (scope_at l.scope) (target_list (drop l.target-index l.targets));
}
