-- Connections of ports as assignments, where the names around an instance and those of its own module are replaced: each name n of the
-- module around it by f n, each of its own by g n.
use Rattle.std.specs.Prelude.{List, [], ◌∷◌, ◌++◌, Option, Some, None}
use Rattle.wb_values.specs.Value.{Name, entry_of}
use Rattle.verilog_trees.specs.Syntax.{Expression, Target, Direction, input, output, Module}
use Rattle.verilog_meaning.specs.Settled.{as_target, whole_of, whole_name, Connection, PortPlace, port_meant, port_directions}
use Rattle.verilog_renamed.specs.Renamed.{renamed_expression, renamed_target}

abbrev pub from_port : (f g : Name → Name) → Name → Option Target → List (Target × Expression)
from_port f g n None = []
from_port f g n (Some t) = (renamed_target f t, whole_name (g n)) ∷ []

-- what is connected to port n, which has a direction, if this is the one that is asked for
abbrev pub port_link : Direction → (f g : Name → Name) → Name → Expression → Option Direction → List (Target × Expression)
port_link way f g n e None = []
port_link input f g n e (Some input) = (whole_of (g n), renamed_expression f e) ∷ []
port_link input f g n e (Some output) = []
port_link output f g n e (Some input) = []
port_link output f g n e (Some output) = from_port f g n (as_target e)

abbrev pub meant_link : Direction → (f g : Name → Name) → Module → Expression → Option Name → List (Target × Expression)
meant_link way f g m e None = []
meant_link way f g m e (Some n) = port_link way f g n e (entry_of (port_directions m) n)

-- the connections of an instance of module m to ports of one direction
abbrev pub connection_link : Direction → (f g : Name → Name) → Module → Connection → List (Target × Expression)
connection_link way f g m c = meant_link way f g m c.expression (port_meant m c.to_port)

abbrev pub connection_links : Direction → (f g : Name → Name) → Module → List Connection → List (Target × Expression)
connection_links way f g m [] = []
connection_links way f g m (c ∷ cs) = connection_link way f g m c ++ connection_links way f g m cs

-- what is connected to one port, if anything is
abbrev pub entry_link : Direction → (f g : Name → Name) → Module → PortPlace → Option Expression → List (Target × Expression)
entry_link way f g m q None = []
entry_link way f g m q (Some e) = meant_link way f g m e (port_meant m q)
