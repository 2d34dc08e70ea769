use Rattle.std.proofs.Common.{◌≡◌, drop}
use Rattle.v_value.specs.Scope.{scope_at, valuation_at}
use Rattle.v_narrow.specs.Fitting.{entries_test}
use Rattle.v_narrow.proofs.object.are_entries_fitting.Given as goal

abbrev pub invariant-loop-entry : goal.invariant-loop-entry
invariant-loop-entry l =
    entries_test (scope_at l.scope) (valuation_at l.values) l.entries
    ≡ entries_test (scope_at l.scope) (valuation_at l.values) (drop l.entry-index l.entries)
