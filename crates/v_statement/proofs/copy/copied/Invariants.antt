use Rattle.std.proofs.Common.{◌≡◌, ◌++◌, drop}
use Rattle.v_value.specs.Scope.{values_of}
use Rattle.v_statement.proofs.copy.copied.Given as goal

abbrev pub invariant-loop-entry : goal.invariant-loop-entry
invariant-loop-entry l = values_of l.values ≡ values_of l.entries.items ++ values_of (drop l.entry-index l.values)
