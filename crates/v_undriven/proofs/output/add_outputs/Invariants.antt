use Rattle.std.proofs.Common.{◌≡◌, drop}
use Rattle.verilog_designs.specs.Reads.{or_in}
use Rattle.v_value.specs.Scope.{scope_at}
use Rattle.v_flow.specs.Spans.{bits_in}
use Rattle.v_scopes.specs.Rows.{rows_of}
use Rattle.v_undriven.specs.Reads.{outputs_read}
use Rattle.v_undriven.proofs.output.add_outputs.Given as goal

abbrev pub invariant-loop-each : goal.invariant-loop-each
invariant-loop-each l =
    or_in (bits_in l.initial.found.items) (outputs_read (scope_at l.scope) l.names (rows_of l.declared))
    ≡ or_in (bits_in l.found.items) (outputs_read (scope_at l.scope) l.names (rows_of (drop l.each-index l.declared)))
