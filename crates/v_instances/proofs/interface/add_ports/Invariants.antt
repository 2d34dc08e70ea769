use Rattle.std.proofs.Common.{◌≡◌, ℕ, List, drop, map}
use Rattle.wb_values.specs.Value.{entry_of}
use Rattle.wb_values.specs.Choice.{first_of}
use Rattle.verilog_meaning.specs.Settled.{declared_ports}
use Rattle.v_syntax.specs.Source.{port_of}
use Rattle.v_instances.specs.Interface.{direction_in}
use Rattle.v_instances.proofs.interface.add_ports.Given as goal

abbrev pub invariant-loop-port : goal.invariant-loop-port
invariant-loop-port l = (q : List ℕ) → first_of (direction_in l.directions q) (entry_of (declared_ports (map port_of (drop l.port-index l.ports))) q) ≡ first_of (direction_in l.initial.directions q) (entry_of (declared_ports (map port_of l.ports)) q)
