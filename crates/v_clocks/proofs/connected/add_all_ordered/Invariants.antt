use Rattle.std.proofs.Common.{◌≡◌, ◌++◌, map, drop}
use Rattle.wb_values.specs.Value.{Name}
use Rattle.verilog_trees.specs.Syntax.{Module}
use Rattle.verilog_meaning.specs.Settled.{ordered_connections}
use Rattle.v_syntax.specs.Source.{optional_tree_of}
use Rattle.v_hier.specs.Tables.{has_name}
use Rattle.v_instances.specs.Interface.{IsInterfaceOf}
use Rattle.v_clocks.specs.Uses.{uses_of}
use Rattle.v_clocks.specs.Views.{uses_in}
use Rattle.v_clocks.proofs.connected.add_all_ordered.Given as goal

abbrev pub invariant-loop-place : goal.invariant-loop-place
invariant-loop-place l =
    (m : Module) (u : Name) → IsInterfaceOf l.interface m
    → uses_in l.initial.list.items ++ uses_of (has_name l.clocks) m (ordered_connections u 0 (map optional_tree_of l.entries))
    ≡ uses_in l.list.items ++ uses_of (has_name l.clocks) m (ordered_connections u l.place (map optional_tree_of (drop l.place l.entries)))
