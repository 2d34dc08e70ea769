use Rattle.std.proofs.Common.{◌≡◌, drop}
use Rattle.wb_values.specs.Value.{entry_of}
use Rattle.v_value.specs.Scope.{values_of}
use Rattle.v_narrow.proofs.object.named_fits.Given as goal

abbrev pub invariant-loop-entry : goal.invariant-loop-entry
invariant-loop-entry l = entry_of (values_of l.values) l.name ≡ entry_of (values_of (drop l.entry-index l.values)) l.name
