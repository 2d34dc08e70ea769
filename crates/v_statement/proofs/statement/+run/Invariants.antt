use Rattle.std.proofs.Common.{◌≡◌, drop}
use Rattle.verilog_meaning.specs.Statement.{after_updates, run_all}
use Rattle.v_value.specs.Scope.{scope_at, valuation_at}
use Rattle.v_statement.specs.Places.{updates_of}
use Rattle.v_statement.specs.Statements.{IsReadyFor, AreNarrowStatements, statement_list}
use Rattle.v_statement.specs.Effects.{first_true, AreNarrowArms}
use Rattle.v_statement.proofs.statement.+run.Given as goal

abbrev pub invariant-run_all-loop-statement : goal.invariant-run_all-loop-statement
invariant-run_all-loop-statement l = record {
  same : after_updates (updates_of l.initial.updates.items) (run_all (scope_at l.scope) (statement_list l.statements) (valuation_at l.initial.values.entries.items))
      ≡ after_updates (updates_of l.updates.items) (run_all (scope_at l.scope) (statement_list (drop l.statement-index l.statements)) (valuation_at l.values.entries.items));
  ready : IsReadyFor (scope_at l.scope) (valuation_at l.values.entries.items);
  narrow : AreNarrowStatements (scope_at l.scope) (statement_list (drop l.statement-index l.statements));
}

abbrev pub invariant-run_arms-loop-arm : goal.invariant-run_arms-loop-arm
invariant-run_arms-loop-arm l = record {
  values : l.values ≡ l.initial.values;
  updates : l.updates ≡ l.initial.updates;
  same : first_true (scope_at l.scope) (valuation_at l.initial.values.entries.items) l.arms
      ≡ first_true (scope_at l.scope) (valuation_at l.initial.values.entries.items) (drop l.arm-index l.arms);
  narrow : AreNarrowArms (scope_at l.scope) (drop l.arm-index l.arms);
}
