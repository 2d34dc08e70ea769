use Rattle.std.proofs.Common.{◌≡◌, ◌++◌, map, drop}
use Rattle.verilog_trees.specs.Syntax as pure
use Rattle.v_instances.specs.Texts.{texts}
use Rattle.v_instances.specs.Interface.{IsInterfaceOf}
use Rattle.v_flat.specs.Views.{entry_in}
use Rattle.map_uses.specs.Table.{inputs_of}
use Rattle.map_uses.proofs.inputs.inputs_among.Given as goal

abbrev pub invariant-loop-each : goal.invariant-loop-each
invariant-loop-each l =
    (m : pure.Module) → IsInterfaceOf l.interface m
    → inputs_of m (map entry_in l.names) ≡ texts l.found.items ++ inputs_of m (map entry_in (drop l.each-index l.names))
