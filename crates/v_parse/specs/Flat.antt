-- Flat sources: each expression, target and statement in them is flat.
use Rattle.std.specs.Prelude.{Option, Some, None}
use Rattle.std.specs.declared.boxed.Box.{Box}
use Rattle.std.specs.declared.alloc.Global.{Global}
use Rattle.v_syntax.specs.declared.tree.Expression.{Expression}
use Rattle.v_syntax.specs.declared.module.Range.{Range}
use Rattle.v_syntax.specs.declared.module.PortDeclaration.{PortDeclaration}
use Rattle.v_syntax.specs.declared.module.ParameterValue.{ParameterValue}
use Rattle.v_syntax.specs.declared.module.ParameterDeclaration.{ParameterDeclaration}
use Rattle.v_syntax.specs.declared.module.NamedConnection.{NamedConnection}
use Rattle.v_syntax.specs.declared.module.Connections.{Connections}
use Rattle.v_syntax.specs.declared.module.Connections.TheVariants.{ByName, ByOrder}
use Rattle.v_syntax.specs.declared.module.Wire.{Wire}
use Rattle.v_syntax.specs.declared.module.Variable.{Variable}
use Rattle.v_syntax.specs.declared.module.Assignment.{Assignment}
use Rattle.v_syntax.specs.declared.module.Instance.{Instance}
use Rattle.v_syntax.specs.declared.module.Item.{Item}
use Rattle.v_syntax.specs.declared.module.Item.TheVariants.{Port, Parameter, Wires, Variables, Assign, Always, Instances}
use Rattle.v_syntax.specs.declared.module.Ports.{Ports}
use Rattle.v_syntax.specs.declared.module.Ports.TheVariants.{NoPorts, Listed, Declared}
use Rattle.v_syntax.specs.declared.module.Module.{Module}
use Rattle.v_syntax.specs.declared.module.Tree.{Tree}
use Rattle.v_expr.specs.Flat.{IsFlat, Each}
use Rattle.v_body.specs.Flat.{IsFlatTarget, IsFlatStatement}

abbrev pub IsFlatRange : Range → Type 0
IsFlatRange r = IsFlat r.left × IsFlat r.right

abbrev pub IsFlatOptionalRange : Option (Box Range Global) → Type 0
IsFlatOptionalRange None = Unit {0}
IsFlatOptionalRange (Some b) = IsFlatRange b.value

abbrev pub IsFlatOptional : Option Expression → Type 0
IsFlatOptional None = Unit {0}
IsFlatOptional (Some e) = IsFlat e

abbrev pub IsFlatBoxed : Option (Box Expression Global) → Type 0
IsFlatBoxed None = Unit {0}
IsFlatBoxed (Some b) = IsFlat b.value

abbrev pub IsFlatPort : PortDeclaration → Type 0
IsFlatPort p = IsFlatOptionalRange p.range

abbrev pub IsFlatSetting : ParameterValue → Type 0
IsFlatSetting v = IsFlat v.value

abbrev pub IsFlatParameter : ParameterDeclaration → Type 0
IsFlatParameter p = IsFlatOptionalRange p.range × Each IsFlatSetting p.values.items

abbrev pub IsFlatNamed : NamedConnection → Type 0
IsFlatNamed c = IsFlatOptional c.value

abbrev pub IsFlatConnections : Connections → Type 0
IsFlatConnections (ByName cs) = Each IsFlatNamed cs.items
IsFlatConnections (ByOrder es) = Each IsFlatOptional es.items

abbrev pub IsFlatWire : Wire → Type 0
IsFlatWire w = IsFlatBoxed w.value

abbrev pub IsFlatVariable : Variable → Type 0
IsFlatVariable v = IsFlatOptionalRange v.addresses

abbrev pub IsFlatAssignment : Assignment → Type 0
IsFlatAssignment a = IsFlatTarget a.target × IsFlat a.value

abbrev pub IsFlatInstance : Instance → Type 0
IsFlatInstance i = IsFlatConnections i.connections

abbrev pub IsFlatItem : Item → Type 0
IsFlatItem (Port p) = IsFlatPort p
IsFlatItem (Parameter p) = IsFlatParameter p
IsFlatItem (Wires _ r ws) = IsFlatOptionalRange r × Each IsFlatWire ws.items
IsFlatItem (Variables _ r vs) = IsFlatOptionalRange r × Each IsFlatVariable vs.items
IsFlatItem (Assign xs) = Each IsFlatAssignment xs.items
IsFlatItem (Always _ b) = IsFlatStatement b.value
IsFlatItem (Instances _ ps is) = IsFlatConnections ps × Each IsFlatInstance is.items

abbrev pub IsFlatPorts : Ports → Type 0
IsFlatPorts NoPorts = Unit {0}
IsFlatPorts (Listed _) = Unit {0}
IsFlatPorts (Declared ps) = Each IsFlatPort ps.items

abbrev pub IsFlatModule : Module → Type 0
IsFlatModule m = Each IsFlatParameter m.parameters.items × IsFlatPorts m.ports × Each IsFlatItem m.items.items

abbrev pub IsFlatTree : Tree → Type 0
IsFlatTree t = Each IsFlatModule t.modules.items
