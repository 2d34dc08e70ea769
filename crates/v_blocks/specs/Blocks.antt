-- Items whose assignments are of the wrong kind.
use Rattle.std.specs.Prelude.{Bool, false, not, ◌&&◌}
use Rattle.verilog_trees.specs.Syntax as pure
use Rattle.verilog_trees.specs.Syntax.{Item, port, parameter, wires, variables, assign, always, instances}
use Rattle.verilog_meaning.specs.Register.{is_clocked}
use Rattle.verilog_designs.specs.Paths.{has_blocking, has_nonblocking}
use Rattle.v_syntax.specs.declared.module.Event.{Event}
use Rattle.v_syntax.specs.Source.{edge_of}

abbrev pub event_of : Event → pure.Event
event_of e = record { edge = edge_of e.edge; signal = e.signal.now }

-- a clocked block in which a blocking assignment stands
abbrev pub is_blocking_in_clocked : Item → Bool
is_blocking_in_clocked (port d) = false
is_blocking_in_clocked (parameter d) = false
is_blocking_in_clocked (wires signed r ws) = false
is_blocking_in_clocked (variables signed r vs) = false
is_blocking_in_clocked (assign ts) = false
is_blocking_in_clocked (always es x) = is_clocked es && has_blocking x
is_blocking_in_clocked (instances m given is) = false

-- a combinational block in which a nonblocking assignment stands
abbrev pub is_nonblocking_in_combinational : Item → Bool
is_nonblocking_in_combinational (port d) = false
is_nonblocking_in_combinational (parameter d) = false
is_nonblocking_in_combinational (wires signed r ws) = false
is_nonblocking_in_combinational (variables signed r vs) = false
is_nonblocking_in_combinational (assign ts) = false
is_nonblocking_in_combinational (always es x) = not (is_clocked es) && has_nonblocking x
is_nonblocking_in_combinational (instances m given is) = false
