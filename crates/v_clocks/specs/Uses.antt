-- How clock nets stand in what is connected to an instance: the whole of one at an input port, or one in another way.
use Rattle.std.specs.Prelude.{Bool, true, false, cond, not, List, [], ◌∷◌, Option, Some, None}
use Rattle.std.specs.List.{list_any}
use Rattle.wb_values.specs.Value.{Name, entry_of}
use Rattle.verilog_trees.specs.Syntax.{Expression, number, name, concatenation, replication, as_signed, as_unsigned, unary, reduction, binary, shift, power, comparison, logical, conditional, Selects, whole, one, two, Module}
use Rattle.verilog_meaning.specs.Settled.{Connection, PortPlace, port_meant, port_directions, instance_connections}
use Rattle.verilog_designs.specs.Names.{names_in}
use Rattle.verilog_designs.specs.Ports.{is_input}
use Rattle.v_places.specs.Below.{Spot}

-- What a connection does with the clock nets of the module around its instance. It has none; or the whole of one, at this input port; or
-- one stands in it otherwise.
pub data Use : Type 0 where
  no_clock as_data : Use
  as_clock : (port : Name) → Use

abbrev pub are_whole : Selects → Bool
are_whole whole = true
are_whole (one x) = false
are_whole (two x y) = false

-- the whole of a name
abbrev pub is_whole : Expression → Bool
is_whole (number k) = false
is_whole (name n x) = are_whole x
is_whole (concatenation es) = false
is_whole (replication k es) = false
is_whole (as_signed x) = false
is_whole (as_unsigned x) = false
is_whole (unary op x) = false
is_whole (reduction op x) = false
is_whole (binary op x y) = false
is_whole (shift op x n) = false
is_whole (power x n) = false
is_whole (comparison op x y) = false
is_whole (logical op x y) = false
is_whole (conditional c x y) = false

-- none of these names
abbrev pub none_of : (Name → Bool) → Name → Bool
none_of clocks n = not (clocks n)

-- One of these names stands in the expression. The name does not unfold by itself.
unfoldable pub mentions : (Name → Bool) → Expression → Bool
mentions clocks e = list_any clocks (names_in e)

-- Under names that do not unfold by themselves: the expression is the whole of a name; the module has an input of this name.
unfoldable pub is_whole_name : Expression → Bool
is_whole_name e = is_whole e

unfoldable pub has_input : Module → Name → Bool
has_input m n = is_input (entry_of (port_directions m) n)

-- an expression with a clock net in it, at a port of the module below
abbrev pub at_port : Module → Expression → Name → Use
at_port m e n = cond (has_input m n) (cond (is_whole_name e) (as_clock n) as_data) as_data

abbrev pub at_port_if_any : Module → Expression → Option Name → Use
at_port_if_any m e None = as_data
at_port_if_any m e (Some n) = at_port m e n

abbrev pub use_at : (clocks : Name → Bool) → Module → PortPlace → Expression → Use
use_at clocks m q e = cond (mentions clocks e) (at_port_if_any m e (port_meant m q)) no_clock

abbrev pub uses_of : (clocks : Name → Bool) → Module → List Connection → List Use
uses_of clocks m [] = []
uses_of clocks m (c ∷ cs) = use_at clocks m c.to_port c.expression ∷ uses_of clocks m cs

abbrev pub use_if_any : (clocks : Name → Bool) → Module → PortPlace → Option Expression → List Use
use_if_any clocks m q None = []
use_if_any clocks m q (Some e) = use_at clocks m q e ∷ []

-- in what is connected to the instance of a place, where these are the clock nets around it
abbrev pub spot_uses : (clocks : Name → Bool) → Spot → List Use
spot_uses clocks x = uses_of clocks x.of_module (instance_connections x.instance x.connections)
