-- What the code's values stand for, and what reading a source gives.
use Rattle.std.specs.Prelude.{◌≡◌, List, Option, Some, None, Result, Ok, Err}
use Rattle.wb_values.specs.Value.{Name}
use Rattle.verilog_trees.specs.Syntax as pure
use Rattle.verilog_text.specs.Token.{Token}
use Rattle.verilog_text.specs.Grammar.{IsSource}
use Rattle.v_syntax.specs.declared.module.Event.{Event}
use Rattle.v_syntax.specs.declared.module.ParameterValue.{ParameterValue}
use Rattle.v_syntax.specs.declared.module.NamedConnection.{NamedConnection}
use Rattle.v_syntax.specs.declared.module.Wire.{Wire}
use Rattle.v_syntax.specs.declared.module.Variable.{Variable}
use Rattle.v_syntax.specs.declared.module.Assignment.{Assignment}
use Rattle.v_syntax.specs.declared.module.Instance.{Instance}
use Rattle.v_syntax.specs.declared.module.Tree.{Tree}
use Rattle.v_syntax.specs.Tree.{tree_of, target_of}
use Rattle.v_syntax.specs.Source.{edge_of, optional_tree_of, boxed_tree_of, optional_range_of, connections_of, source_of}
use Rattle.v_parse.specs.declared.stop.ParseStop.{ParseStop}
use Rattle.v_parse.specs.declared.stop.ParseStop.TheVariants.{NoMemory, Refused}

abbrev pub event_of : Event → pure.Event
event_of e = record { edge = edge_of e.edge; signal = e.signal.now }

abbrev pub setting_of : ParameterValue → Name × pure.Expression
setting_of v = (v.name.now, tree_of v.value)

abbrev pub named_entry_of : NamedConnection → Name × Option pure.Expression
named_entry_of c = (c.name.now, optional_tree_of c.value)

abbrev pub wire_of : Wire → Name × Option pure.Expression
wire_of w = (w.name.now, boxed_tree_of w.value)

abbrev pub variable_of : Variable → Name × Option pure.Range
variable_of v = (v.name.now, optional_range_of v.addresses)

abbrev pub assignment_of : Assignment → pure.Target × pure.Expression
assignment_of a = (target_of a.target, tree_of a.value)

abbrev pub instance_of : Instance → Name × pure.Connections
instance_of i = (i.name.now, connections_of i.connections)

-- Nothing is read, unless memory ran out.
abbrev pub Stops : ParseStop → Option pure.Source → Type 0
Stops NoMemory read = Unit {0}
Stops (Refused left) read = read ≡ None

-- The tree is what the tokens are read as.
abbrev pub Parses : Result Tree ParseStop → Option pure.Source → Type 0
Parses (Ok t) read = read ≡ Some (source_of t)
Parses (Err e) read = Stops e read

-- No source is spelled by the tokens, unless memory ran out.
abbrev pub IsNone : ParseStop → List Token → Type 0
IsNone NoMemory text = Unit {0}
IsNone (Refused left) text = (ms : pure.Source) → IsSource ms text → ⊥

-- The tokens, all of them, are spelled by the tree.
abbrev pub IsParsed : Result Tree ParseStop → List Token → Type 0
IsParsed (Ok t) text = IsSource (source_of t) text
IsParsed (Err e) text = IsNone e text
