use Rattle.std.proofs.Common.{◌≡◌, ℕ, List, drop}
use Rattle.wb_values.specs.Value.{entry_of}
use Rattle.wb_values.specs.Choice.{first_of}
use Rattle.verilog_meaning.specs.Settled.{named_ports}
use Rattle.v_syntax.specs.Source.{direction_of}
use Rattle.v_instances.specs.Texts.{texts}
use Rattle.v_instances.specs.Interface.{direction_in}
use Rattle.v_instances.proofs.interface.add_named.Given as goal

abbrev pub invariant-loop-name : goal.invariant-loop-name
invariant-loop-name l = (q : List ℕ) → first_of (direction_in l.directions q) (entry_of (named_ports (direction_of l.direction) (texts (drop l.name-index l.names))) q) ≡ first_of (direction_in l.initial.directions q) (entry_of (named_ports (direction_of l.direction) (texts l.names)) q)
