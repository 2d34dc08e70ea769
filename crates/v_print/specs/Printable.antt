-- Which trees can be printed: names as texts have them, no empty list, numbers that fit, each else with the nearest if.
use Rattle.std.specs.Prelude.{◌≡◌, ℕ, ◌+◌, ◌^◌, ◌<◌, ◌≤◌, true, false, List, [], ◌∷◌, Option, Some, None}
use Rattle.wb_values.specs.Value.{Name}
use Rattle.wb_values.specs.ReservedWords.{is_reserved}
use Rattle.verilog_text.specs.Token.{word}
use Rattle.verilog_text.specs.Spelling.{kept_width, greatest_size}
use Rattle.verilog_trees.specs.Syntax as tree
use Rattle.verilog_text.specs.Grammar.{has_open_if, count_defaults}
use Rattle.verilog_trees.specs.Syntax.{Number, Expression, Expressions, no_expressions, expression, Select, Selects, whole, one, two, Target, Targets, no_targets, target, Statement, Statements, no_statements, statement, CaseItems, no_items, arm, default_arm, Event, Events, any_change, on_events, Range, PortDeclaration, ParameterDeclaration, Connections, by_name, by_order, Item, Ports, no_ports, listed, declared, Module, Source}
use Rattle.v_print.specs.Reads.{is_printed}
use Rattle.v_print.specs.Spelled.{bit_of}

-- Its width fits its size; each digit kind has its bits where it is said to stand, and no bit is of two kinds.
pub record IsPrintableNumber (n : Number) : Type 0 where
  pub some_bits : n.sized ≡ true → 1 ≤ n.width
  pub width_fits : n.width ≤ greatest_size
  pub plain_width : n.sized ≡ false → n.width ≡ 32
  pub value_fits : n.value < 2 ^ kept_width n.width
  pub unknown_fits : n.unknown < 2 ^ kept_width n.width
  pub wild_fits : n.wild < 2 ^ kept_width n.width
  pub no_unknown : n.has_unknown ≡ false → n.unknown ≡ 0
  pub no_wild : n.has_wild ≡ false → n.wild ≡ 0
  pub apart : (k : ℕ) → bit_of n.value k + bit_of n.unknown k + bit_of n.wild k ≤ 1

-- an identifier as it is written
pub record IsPrintableName (n : Name) : Type 0 where
  pub is_written : is_printed (word n) ≡ true
  pub is_free : is_reserved n ≡ false

abbrev pub AreSome : Expressions → Type 0
AreSome no_expressions = ⊥
AreSome (expression e es) = Unit {0}

abbrev mutual
  pub IsPrintable : Expression → Type 0
  IsPrintable (tree.number n) = IsPrintableNumber n
  IsPrintable (tree.name n s) = IsPrintableName n × ArePrintableSelects s
  IsPrintable (tree.concatenation es) = AreSome es × ArePrintable es
  IsPrintable (tree.replication k es) = IsPrintable k × AreSome es × ArePrintable es
  IsPrintable (tree.as_signed x) = IsPrintable x
  IsPrintable (tree.as_unsigned x) = IsPrintable x
  IsPrintable (tree.unary o x) = IsPrintable x
  IsPrintable (tree.reduction o x) = IsPrintable x
  IsPrintable (tree.binary o x y) = IsPrintable x × IsPrintable y
  IsPrintable (tree.shift o x y) = IsPrintable x × IsPrintable y
  IsPrintable (tree.power x y) = IsPrintable x × IsPrintable y
  IsPrintable (tree.comparison o x y) = IsPrintable x × IsPrintable y
  IsPrintable (tree.logical o x y) = IsPrintable x × IsPrintable y
  IsPrintable (tree.conditional c x y) = IsPrintable c × IsPrintable x × IsPrintable y

  pub ArePrintable : Expressions → Type 0
  ArePrintable no_expressions = Unit {0}
  ArePrintable (expression e es) = IsPrintable e × ArePrintable es

  pub IsPrintableSelect : Select → Type 0
  IsPrintableSelect (tree.index e) = IsPrintable e
  IsPrintableSelect (tree.part x y) = IsPrintable x × IsPrintable y
  IsPrintableSelect (tree.part_up x y) = IsPrintable x × IsPrintable y
  IsPrintableSelect (tree.part_down x y) = IsPrintable x × IsPrintable y

  pub ArePrintableSelects : Selects → Type 0
  ArePrintableSelects whole = Unit {0}
  ArePrintableSelects (one s) = IsPrintableSelect s
  ArePrintableSelects (two s t) = IsPrintableSelect s × IsPrintableSelect t

-- ---- targets and statements

abbrev pub AreSomeTargets : Targets → Type 0
AreSomeTargets no_targets = ⊥
AreSomeTargets (target t ts) = Unit {0}

abbrev mutual
  pub IsPrintableTarget : Target → Type 0
  IsPrintableTarget (tree.place n s) = IsPrintableName n × ArePrintableSelects s
  IsPrintableTarget (tree.joined ts) = AreSomeTargets ts × ArePrintableTargets ts

  pub ArePrintableTargets : Targets → Type 0
  ArePrintableTargets no_targets = Unit {0}
  ArePrintableTargets (target t ts) = IsPrintableTarget t × ArePrintableTargets ts

abbrev pub IsPrintableOptional : Option Expression → Type 0
IsPrintableOptional None = Unit {0}
IsPrintableOptional (Some e) = IsPrintable e

abbrev pub IsPrintableBlockName : Option Name → Type 0
IsPrintableBlockName None = Unit {0}
IsPrintableBlockName (Some n) = IsPrintableName n

abbrev pub AreSomeItems : CaseItems → Type 0
AreSomeItems no_items = ⊥
AreSomeItems (arm es s items) = Unit {0}
AreSomeItems (default_arm s items) = Unit {0}

-- An else belongs to the nearest if, and a case has one default at most.
abbrev mutual
  pub IsPrintableStatement : Statement → Type 0
  IsPrintableStatement tree.empty = Unit {0}
  IsPrintableStatement (tree.blocking t e) = IsPrintableTarget t × IsPrintable e
  IsPrintableStatement (tree.nonblocking t e) = IsPrintableTarget t × IsPrintable e
  IsPrintableStatement (tree.if_then e s) = IsPrintable e × IsPrintableStatement s
  IsPrintableStatement (tree.if_else e s t) = IsPrintable e × IsPrintableStatement s × IsPrintableStatement t × (has_open_if s ≡ false)
  IsPrintableStatement (tree.case k e items) = IsPrintable e × AreSomeItems items × ArePrintableItems items × (count_defaults items ≤ 1)
  IsPrintableStatement (tree.block n ss) = IsPrintableBlockName n × ArePrintableStatements ss

  pub ArePrintableStatements : Statements → Type 0
  ArePrintableStatements no_statements = Unit {0}
  ArePrintableStatements (statement s ss) = IsPrintableStatement s × ArePrintableStatements ss

  pub ArePrintableItems : CaseItems → Type 0
  ArePrintableItems no_items = Unit {0}
  ArePrintableItems (arm es s items) = AreSome es × ArePrintable es × IsPrintableStatement s × ArePrintableItems items
  ArePrintableItems (default_arm s items) = IsPrintableStatement s × ArePrintableItems items

-- ---- items and modules

-- each of a list, and there is one at least
abbrev pub Each : {A : Type 0} → (A → Type 0) → List A → Type 0
Each P [] = Unit {0}
Each P (x ∷ xs) = P x × Each P xs

abbrev pub EachOfSome : {A : Type 0} → (A → Type 0) → List A → Type 0
EachOfSome P [] = ⊥
EachOfSome P (x ∷ xs) = P x × Each P xs

abbrev pub IsPrintableRange : Option Range → Type 0
IsPrintableRange None = Unit {0}
IsPrintableRange (Some g) = IsPrintable g.left × IsPrintable g.right

abbrev pub IsPrintablePort : PortDeclaration → Type 0
IsPrintablePort p = IsPrintableRange p.range × EachOfSome IsPrintableName p.names

abbrev pub IsPrintableSetting : (Name × Expression) → Type 0
IsPrintableSetting v = IsPrintableName v.0 × IsPrintable v.1

abbrev pub IsPrintableParameter : ParameterDeclaration → Type 0
IsPrintableParameter p = IsPrintableRange p.range × EachOfSome IsPrintableSetting p.values

abbrev pub IsPrintableWire : (Name × Option Expression) → Type 0
IsPrintableWire w = IsPrintableName w.0 × IsPrintableOptional w.1

abbrev pub IsPrintableVariable : (Name × Option Range) → Type 0
IsPrintableVariable v = IsPrintableName v.0 × IsPrintableRange v.1

abbrev pub ArePrintableConnections : Connections → Type 0
ArePrintableConnections (by_name es) = EachOfSome IsPrintableWire es
ArePrintableConnections (by_order es) = EachOfSome IsPrintableOptional es

abbrev pub IsPrintableInstance : (Name × Connections) → Type 0
IsPrintableInstance i = IsPrintableName i.0 × ArePrintableConnections i.1

abbrev pub ArePrintableOverrides : Connections → Type 0
ArePrintableOverrides (by_name es) = EachOfSome IsPrintableWire es
ArePrintableOverrides (by_order es) = Each IsPrintableOptional es

abbrev pub IsPrintableEvent : Event → Type 0
IsPrintableEvent e = IsPrintableName e.signal

abbrev pub ArePrintableEvents : Events → Type 0
ArePrintableEvents any_change = Unit {0}
ArePrintableEvents (on_events es) = EachOfSome IsPrintableEvent es

abbrev pub IsPrintableAssignment : (Target × Expression) → Type 0
IsPrintableAssignment a = IsPrintableTarget a.0 × IsPrintable a.1

abbrev pub IsPrintableItem : Item → Type 0
IsPrintableItem (tree.port p) = IsPrintablePort p
IsPrintableItem (tree.parameter p) = IsPrintableParameter p
IsPrintableItem (tree.wires s g ws) = IsPrintableRange g × EachOfSome IsPrintableWire ws
IsPrintableItem (tree.variables s g vs) = IsPrintableRange g × EachOfSome IsPrintableVariable vs
IsPrintableItem (tree.assign xs) = EachOfSome IsPrintableAssignment xs
IsPrintableItem (tree.always es s) = ArePrintableEvents es × IsPrintableStatement s
IsPrintableItem (tree.instances m o is) = IsPrintableName m × ArePrintableOverrides o × EachOfSome IsPrintableInstance is

-- a parameter of a header is no localparam
abbrev pub IsPrintableHeader : ParameterDeclaration → Type 0
IsPrintableHeader p = IsPrintableParameter p × (p.is_local ≡ false)

abbrev pub ArePrintablePorts : Ports → Type 0
ArePrintablePorts no_ports = Unit {0}
ArePrintablePorts (listed ns) = Each IsPrintableName ns
ArePrintablePorts (declared ps) = EachOfSome IsPrintablePort ps

abbrev pub IsPrintableModule : Module → Type 0
IsPrintableModule m = IsPrintableName m.module_name × Each IsPrintableHeader m.parameters × ArePrintablePorts m.ports × Each IsPrintableItem m.items

abbrev pub IsPrintableSource : Source → Type 0
IsPrintableSource ms = Each IsPrintableModule ms
