use Rattle.std.proofs.Common.{◌≡◌, drop}
use Rattle.wb_values.specs.Value.{entry_of}
use Rattle.v_value.specs.Scope.{values_of}
use Rattle.v_value.proofs.lookup.number_at.Given as goal

abbrev pub invariant-loop-entry : goal.invariant-loop-entry
invariant-loop-entry l =
    entry_of (values_of l.entries) l.name ≡ entry_of (values_of (drop l.entry-index l.entries)) l.name
