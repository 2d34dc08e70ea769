-- The parts of the code's lists, as the pure trees have them.
use Rattle.std.specs.Prelude.{ℕ, Bool, true, false, List, [], ◌∷◌, Option, codes}
use Rattle.std.specs.Borrow.{Bor}
use Rattle.wb_values.specs.Value.{Name}
use Rattle.verilog_trees.specs.Syntax as pure
use Rattle.verilog_trees.specs.Syntax.{no_targets, target}
use Rattle.v_syntax.specs.declared.tree.Target.{Target}
use Rattle.v_syntax.specs.declared.module.NetKind.{NetKind}
use Rattle.v_syntax.specs.declared.module.NetKind.TheVariants.{Wire as WireKind, Reg}
use Rattle.v_syntax.specs.declared.module.Event.{Event}
use Rattle.v_syntax.specs.declared.module.ParameterValue.{ParameterValue}
use Rattle.v_syntax.specs.declared.module.NamedConnection.{NamedConnection}
use Rattle.v_syntax.specs.declared.module.Wire.{Wire}
use Rattle.v_syntax.specs.declared.module.Variable.{Variable}
use Rattle.v_syntax.specs.declared.module.Assignment.{Assignment}
use Rattle.v_syntax.specs.declared.module.Instance.{Instance}
use Rattle.v_syntax.specs.Tree.{tree_of, target_of}
use Rattle.v_syntax.specs.Source.{edge_of, optional_range_of, optional_tree_of, boxed_tree_of, connections_of}

abbrev pub is_nil : {A : Type 0} → List A → Bool
is_nil [] = true
is_nil (x ∷ xs) = false

abbrev pub target_list : List Target → pure.Targets
target_list [] = no_targets
target_list (t ∷ ts) = target (target_of t) (target_list ts)

abbrev pub net_word : NetKind → Name
net_word WireKind = codes "wire"
net_word Reg = codes "reg"

abbrev pub name_of : Bor (List ℕ) → Name
name_of n = n.now

abbrev pub setting_of : ParameterValue → Name × pure.Expression
setting_of v = (v.name.now, tree_of v.value)

abbrev pub wire_of : Wire → Name × Option pure.Expression
wire_of w = (w.name.now, boxed_tree_of w.value)

abbrev pub variable_of : Variable → Name × Option pure.Range
variable_of v = (v.name.now, optional_range_of v.addresses)

abbrev pub named_of : NamedConnection → Name × Option pure.Expression
named_of c = (c.name.now, optional_tree_of c.value)

abbrev pub instance_of : Instance → Name × pure.Connections
instance_of i = (i.name.now, connections_of i.connections)

abbrev pub event_of : Event → pure.Event
event_of e = record { edge = edge_of e.edge; signal = e.signal.now }

abbrev pub continuous_of : Assignment → pure.Target × pure.Expression
continuous_of a = (target_of a.target, tree_of a.value)

-- no parameter is set
abbrev pub are_left_out : pure.Connections → Bool
are_left_out (pure.by_order []) = true
are_left_out (pure.by_order (e ∷ es)) = false
are_left_out (pure.by_name es) = false
