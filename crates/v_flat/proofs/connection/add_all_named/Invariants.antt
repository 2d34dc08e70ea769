use Rattle.std.proofs.Common.{◌≡◌, ◌++◌, map, drop}
use Rattle.wb_values.specs.Value.{Name}
use Rattle.verilog_trees.specs.Syntax.{Module}
use Rattle.verilog_meaning.specs.Settled.{named_connections}
use Rattle.v_syntax.specs.Source.{direction_of, optional_tree_of}
use Rattle.v_renamed.specs.NewNames.{new_name}
use Rattle.v_instances.specs.Interface.{IsInterfaceOf}
use Rattle.v_flat.specs.Links.{connection_links}
use Rattle.v_flat.specs.Views.{assignments_of}
use Rattle.v_flat.proofs.connection.add_all_named.Given as goal

abbrev pub invariant-loop-connection : goal.invariant-loop-connection
invariant-loop-connection l =
    (m : Module) (u : Name) → IsInterfaceOf l.interface m
    → assignments_of l.initial.list.items
    ++ connection_links (direction_of l.way) (new_name l.names) (new_name l.below) m (named_connections u (map (λ z. (z.name.now, optional_tree_of z.value)) l.connections))
    ≡ assignments_of l.list.items
    ++ connection_links (direction_of l.way) (new_name l.names) (new_name l.below) m
    (named_connections u (map (λ z. (z.name.now, optional_tree_of z.value)) (drop l.connection-index l.connections)))
