use Rattle.std.proofs.Common.{◌≡◌, drop, map}
use Rattle.verilog_designs.specs.Ports.{connected_names}
use Rattle.v_syntax.specs.declared.module.Wire.{Wire}
use Rattle.v_syntax.specs.Source.{boxed_tree_of}
use Rattle.verilog_designs.specs.Names.{is_among}
use Rattle.v_named.proofs.wide.is_wire.Given as goal

abbrev pub invariant-loop-wire : goal.invariant-loop-wire
invariant-loop-wire l =
    is_among (connected_names (map (λ (w : Wire). (w.name.now, boxed_tree_of w.value)) l.wires)) l.name
    ≡ is_among (connected_names (map (λ (w : Wire). (w.name.now, boxed_tree_of w.value)) (drop l.wire-index l.wires))) l.name
