use Rattle.std.proofs.Common.{◌≡◌, ◌++◌, map, drop}
use Rattle.wb_values.specs.Value.{Name}
use Rattle.verilog_trees.specs.Syntax.{Module}
use Rattle.verilog_meaning.specs.Settled.{named_connections}
use Rattle.v_syntax.specs.Source.{optional_tree_of}
use Rattle.v_hier.specs.Tables.{has_name}
use Rattle.v_instances.specs.Interface.{IsInterfaceOf}
use Rattle.v_clocks.specs.Uses.{uses_of}
use Rattle.v_clocks.specs.Views.{uses_in}
use Rattle.v_clocks.proofs.connected.add_all_named.Given as goal

abbrev pub invariant-loop-connection : goal.invariant-loop-connection
invariant-loop-connection l =
    (m : Module) (u : Name) → IsInterfaceOf l.interface m
    → uses_in l.initial.list.items ++ uses_of (has_name l.clocks) m (named_connections u (map (λ z. (z.name.now, optional_tree_of z.value)) l.connections))
    ≡ uses_in l.list.items ++ uses_of (has_name l.clocks) m (named_connections u (map (λ z. (z.name.now, optional_tree_of z.value)) (drop l.connection-index l.connections)))
