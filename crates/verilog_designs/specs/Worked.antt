-- The modules, statements and scopes of the worked cases.
use Rattle.std.specs.Prelude.{ℕ, true, false, List, [], ◌∷◌, Option, Some, None, codes}
use Rattle.wb_values.specs.Value.{Name}
use Rattle.verilog_trees.specs.Syntax.{Number, Expression, name, concatenation, Expressions, no_expressions, expression, index, Selects, whole, one, Target, place, joined, no_targets, target, CaseKind, Statement, blocking, if_then, if_else, case, block, Statements, no_statements, statement, CaseItems, no_items, arm, default_arm, Range, input, output, NetKind, reg, Direction, PortDeclaration, ParameterDeclaration, Connections, by_name, by_order, Item, port, parameter, wires, variables, assign, instances, Ports, no_ports, listed, declared, Module}
use Rattle.verilog_trees.specs.Syntax as verilog
use Rattle.verilog_meaning.specs.Expression.{Scope, scope_of, undeclared}
use Rattle.verilog_meaning.specs.Hierarchy.{Placed}
use Rattle.verilog_rules.specs.Worked.{bits, plain}
use Rattle.verilog_designs.specs.Dependence.{Bit}

-- ---- modules

abbrev pub module_of : Ports → List Item → Module
module_of ps items = record { module_name = codes "t"; parameters = []; ports = ps; items = items }

abbrev pub placed : Module → Placed
placed m = record { path = []; of_module = m; constants = [] }

abbrev pub whole_name : Name → Expression
whole_name n = name n whole

abbrev pub range : ℕ → ℕ → Option Range
range l r = Some (record { left = plain l; right = plain r })

abbrev pub port_as : Direction → Option NetKind → Option Range → Name → PortDeclaration
port_as d k r n = record { direction = d; kind = k; signed = false; range = r; names = n ∷ [] }

abbrev pub a : Name
a = codes "a"

abbrev pub b : Name
b = codes "b"

abbrev pub q : Name
q = codes "q"

abbrev pub P : Name
P = codes "P"

-- parameter P = value
abbrev pub parameter_P : Expression → Item
parameter_P e = parameter (record { is_local = false; signed = false; range = None; values = (P, e) ∷ [] })

-- wire name = value, and reg name
abbrev pub wire_of : Name → Option Expression → Item
wire_of n e = wires false None ((n, e) ∷ [])

abbrev pub wire_of_range : Expression → Expression → Name → Item
wire_of_range l r n = wires false (Some (record { left = l; right = r })) ((n, None) ∷ [])

-- a module of which the parameter P has the value 1
abbrev pub with_P : Module → Placed
with_P m = record { path = []; of_module = m; constants = (P, record (bits 31 0) { signed = true; constant = Some 1 }) ∷ [] }

abbrev pub reg_of : Option Range → Name → Item
reg_of r n = variables false r ((n, None) ∷ [])

-- an instance u of module t with these connections
abbrev pub instance_of : Connections → Item
instance_of cs = instances (codes "t") (by_order []) ((codes "u", cs) ∷ [])

-- module t(input [3:0] a, output q)
abbrev pub child : Module
child = module_of (declared (port_as input None (range 3 0) a ∷ port_as output None None q ∷ [])) []

-- ---- statements over the nets a [7:0] and i [2:0], and the variables q [7:0] and r [7:0]

abbrev pub r : Name
r = codes "r"

abbrev pub i : Name
i = codes "i"

abbrev pub nets : Scope
nets = scope_of ((a, bits 7 0) ∷ (i, bits 2 0) ∷ (q, bits 7 0) ∷ (r, bits 7 0) ∷ (codes "s", record undeclared { is_declared = true; signed = true; has_range = true; left = 3; right = 0 }) ∷ [])

abbrev pub set : Name → Expression → Statement
set n e = blocking (place n whole) e

abbrev pub set_bit : Name → Expression → Expression → Statement
set_bit n j e = blocking (place n (one (index j))) e

abbrev pub both : Statement → Statement → Statement
both x y = block None (statement x (statement y no_statements))

abbrev pub bit_of : Name → Expression → Expression
bit_of n j = name n (one (index j))

abbrev pub choice : CaseKind → Expression → CaseItems → Statement
choice k e items = case k e items

abbrev pub item : Expression → Statement → CaseItems → CaseItems
item e x items = arm (expression e no_expressions) x items

abbrev pub pair : Expression → Expression → Expression
pair x y = concatenation (expression x (expression y no_expressions))

-- 1'b0 and 1'b1
abbrev pub one_bit : ℕ → Expression
one_bit x = verilog.number (record { width = 1; sized = true; signed = false; value = x; unknown = 0; wild = 0; has_unknown = false; has_wild = false })

abbrev pub bit : Name → ℕ → Bit
bit n k = record { of_name = n; word = 0; place = k }

abbrev pub at : Name → Expression → Target
at n j = place n (one (index j))
