use Rattle.std.proofs.Common.{◌≡◌, drop}
use Rattle.verilog_meaning.specs.Statement.{with_updates}
use Rattle.v_value.specs.Scope.{scope_at, valuation_at}
use Rattle.v_statement.specs.Places.{updates_of}
use Rattle.v_statement.specs.Statements.{IsReadyFor}
use Rattle.v_statement.specs.Registers.{AreNarrowUpdates}
use Rattle.v_statement.proofs.register.apply.Given as goal

abbrev pub invariant-loop-update : goal.invariant-loop-update
invariant-loop-update l = record {
  same : with_updates (scope_at l.scope) (valuation_at l.initial.values.entries.items) (updates_of l.updates)
      ≡ with_updates (scope_at l.scope) (valuation_at l.values.entries.items) (updates_of (drop l.update-index l.updates));
  ready : IsReadyFor (scope_at l.scope) (valuation_at l.values.entries.items);
  narrow : AreNarrowUpdates (updates_of (drop l.update-index l.updates));
}
