use Rattle.std.proofs.Common.{◌≡◌, ◌++◌, drop}
use Rattle.verilog_renamed.specs.Renamed.{renamed_assignments}
use Rattle.v_renamed.specs.NewNames.{new_name}
use Rattle.v_flat.specs.Views.{assignments_of}
use Rattle.v_flat.proofs.item.assignments.Given as goal

abbrev pub invariant-loop-each : goal.invariant-loop-each
invariant-loop-each l =
    renamed_assignments (new_name l.names) (assignments_of l.assigned)
    ≡ assignments_of l.list.items ++ renamed_assignments (new_name l.names) (assignments_of (drop l.each-index l.assigned))
