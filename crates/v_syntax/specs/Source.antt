-- The pure trees that the code's declarations, items, modules and sources stand for.
use Rattle.std.specs.Prelude.{Option, Some, None, map}
use Rattle.std.specs.declared.boxed.Box.{Box}
use Rattle.std.specs.declared.alloc.Global.{Global}
use Rattle.verilog_trees.specs.Syntax as pure
use Rattle.v_syntax.specs.declared.tree.Expression.{Expression}
use Rattle.v_syntax.specs.declared.module.EdgeKind.{EdgeKind}
use Rattle.v_syntax.specs.declared.module.EdgeKind.TheVariants.{Posedge, Negedge, AnyEdge}
use Rattle.v_syntax.specs.declared.module.Events.{Events}
use Rattle.v_syntax.specs.declared.module.Events.TheVariants.{AnyChange, OnEvents}
use Rattle.v_syntax.specs.declared.module.Range.{Range}
use Rattle.v_syntax.specs.declared.module.Direction.{Direction}
use Rattle.v_syntax.specs.declared.module.Direction.TheVariants.{Input, Output}
use Rattle.v_syntax.specs.declared.module.NetKind.{NetKind}
use Rattle.v_syntax.specs.declared.module.NetKind.TheVariants.{Wire as WireKind, Reg}
use Rattle.v_syntax.specs.declared.module.PortDeclaration.{PortDeclaration}
use Rattle.v_syntax.specs.declared.module.ParameterDeclaration.{ParameterDeclaration}
use Rattle.v_syntax.specs.declared.module.Connections.{Connections}
use Rattle.v_syntax.specs.declared.module.Connections.TheVariants.{ByName, ByOrder}
use Rattle.v_syntax.specs.declared.module.Item.{Item}
use Rattle.v_syntax.specs.declared.module.Item.TheVariants.{Port, Parameter, Wires, Variables, Assign, Always, Instances}
use Rattle.v_syntax.specs.declared.module.Ports.{Ports}
use Rattle.v_syntax.specs.declared.module.Ports.TheVariants.{NoPorts, Listed, Declared}
use Rattle.v_syntax.specs.declared.module.Module.{Module}
use Rattle.v_syntax.specs.declared.module.Tree.{Tree}
use Rattle.v_syntax.specs.Tree.{tree_of, target_of, statement_of}

abbrev pub edge_of : EdgeKind → pure.EdgeKind
edge_of Posedge = pure.posedge
edge_of Negedge = pure.negedge
edge_of AnyEdge = pure.any_edge

abbrev pub events_of : Events → pure.Events
events_of AnyChange = pure.any_change
events_of (OnEvents es) = pure.on_events (map (λ e. record { edge = edge_of e.edge; signal = e.signal.now }) es.items)

abbrev pub range_of : Range → pure.Range
range_of r = record { left = tree_of r.left; right = tree_of r.right }

abbrev pub optional_range_of : Option (Box Range Global) → Option pure.Range
optional_range_of None = None
optional_range_of (Some b) = Some (range_of b.value)

abbrev pub optional_tree_of : Option Expression → Option pure.Expression
optional_tree_of None = None
optional_tree_of (Some e) = Some (tree_of e)

abbrev pub boxed_tree_of : Option (Box Expression Global) → Option pure.Expression
boxed_tree_of None = None
boxed_tree_of (Some b) = Some (tree_of b.value)

abbrev pub direction_of : Direction → pure.Direction
direction_of Input = pure.input
direction_of Output = pure.output

abbrev pub kind_of : Option NetKind → Option pure.NetKind
kind_of None = None
kind_of (Some WireKind) = Some pure.wire
kind_of (Some Reg) = Some pure.reg

abbrev pub port_of : PortDeclaration → pure.PortDeclaration
port_of p =
    record { direction = direction_of p.direction; kind = kind_of p.kind; signed = p.signed; range = optional_range_of p.range; names = map (λ n. n.now) p.names.items }

abbrev pub parameter_of : ParameterDeclaration → pure.ParameterDeclaration
parameter_of p =
    record { is_local = p.is_local; signed = p.signed; range = optional_range_of p.range; values = map (λ v. (v.name.now, tree_of v.value)) p.values.items }

abbrev pub connections_of : Connections → pure.Connections
connections_of (ByName cs) = pure.by_name (map (λ c. (c.name.now, optional_tree_of c.value)) cs.items)
connections_of (ByOrder cs) = pure.by_order (map optional_tree_of cs.items)

abbrev pub item_of : Item → pure.Item
item_of (Port p) = pure.port (port_of p)
item_of (Parameter p) = pure.parameter (parameter_of p)
item_of (Wires s r ws) = pure.wires s (optional_range_of r) (map (λ w. (w.name.now, boxed_tree_of w.value)) ws.items)
item_of (Variables s r vs) = pure.variables s (optional_range_of r) (map (λ v. (v.name.now, optional_range_of v.addresses)) vs.items)
item_of (Assign xs) = pure.assign (map (λ a. (target_of a.target, tree_of a.value)) xs.items)
item_of (Always es b) = pure.always (events_of es) (statement_of b.value)
item_of (Instances m ps is) = pure.instances m.now (connections_of ps) (map (λ i. (i.name.now, connections_of i.connections)) is.items)

abbrev pub ports_of : Ports → pure.Ports
ports_of NoPorts = pure.no_ports
ports_of (Listed ns) = pure.listed (map (λ n. n.now) ns.items)
ports_of (Declared ps) = pure.declared (map port_of ps.items)

abbrev pub module_of : Module → pure.Module
module_of m =
    record { module_name = m.name.now; parameters = map parameter_of m.parameters.items; ports = ports_of m.ports; items = map item_of m.items.items }

abbrev pub source_of : Tree → pure.Source
source_of t = map module_of t.modules.items
