use Rattle.std.proofs.Common.{◌≡◌, drop}
use Rattle.verilog_designs.specs.Reads.{or_in}
use Rattle.v_value.specs.Scope.{scope_at}
use Rattle.v_flow.specs.Spans.{bits_in}
use Rattle.v_drivers.specs.Lists.{links_of}
use Rattle.v_undriven.specs.Reads.{links_read}
use Rattle.v_undriven.specs.Premises.{AreNarrowValues}
use Rattle.v_undriven.proofs.read.add_assignments.Given as goal

abbrev pub invariant-loop-assignment : goal.invariant-loop-assignment
invariant-loop-assignment l = record {
  same : or_in (bits_in l.initial.found.items) (links_read (scope_at l.scope) (links_of l.assignments))
      ≡ or_in (bits_in l.found.items) (links_read (scope_at l.scope) (links_of (drop l.assignment-index l.assignments)));
  narrow : AreNarrowValues (scope_at l.scope) (links_of (drop l.assignment-index l.assignments));
}
