use Rattle.std.proofs.Common.{◌≡◌, ◌++◌, map, drop}
use Rattle.verilog_meaning.specs.Settled.{wire_assignments}
use Rattle.verilog_renamed.specs.Renamed.{renamed_assignments}
use Rattle.v_syntax.specs.Source.{boxed_tree_of}
use Rattle.v_renamed.specs.NewNames.{new_name}
use Rattle.v_flat.specs.Views.{assignments_of}
use Rattle.v_flat.proofs.item.wires.Given as goal

abbrev pub invariant-loop-net : goal.invariant-loop-net
invariant-loop-net l =
    renamed_assignments (new_name l.names) (wire_assignments (map (λ w. (w.name.now, boxed_tree_of w.value)) l.nets))
    ≡ assignments_of l.list.items ++ renamed_assignments (new_name l.names) (wire_assignments (map (λ w. (w.name.now, boxed_tree_of w.value)) (drop l.net-index l.nets)))
