use Rattle.std.proofs.Common.{◌≡◌, drop}
use Rattle.verilog_designs.specs.Reads.{or_in}
use Rattle.v_value.specs.Scope.{scope_at}
use Rattle.v_statement.specs.Statements.{target_list}
use Rattle.v_flow.specs.Spans.{bits_in}
use Rattle.v_flow.specs.Narrow.{HaveNarrowParts}
use Rattle.v_flow.specs.Flow.{one_reached}
use Rattle.v_flow.proofs.reached.+reaching.Given as goal

abbrev pub invariant-add_all-loop-target : goal.invariant-add_all-loop-target
invariant-add_all-loop-target l = record {
  same : or_in (bits_in l.initial.found.items) (one_reached (scope_at l.scope) l.surely (target_list l.targets))
      ≡ or_in (bits_in l.found.items) (one_reached (scope_at l.scope) l.surely (target_list (drop l.target-index l.targets)));
  narrow : HaveNarrowParts (scope_at l.scope) (target_list (drop l.target-index l.targets));
}
