-- Modules below the top: parameters' values, declared names, and the module at a path, 1364-2005, 12.2 to 12.5.
use Rattle.std.specs.Prelude.{ℕ, suc, ◌-◌, ◌^◌, ◌%◌, max, decimal, ℤ, pos, negsuc, Bool, true, false, cond, ◌||◌, List, [], ◌∷◌, ◌++◌, Option, Some, None, is_some, unwrap_or, option_map, option_and_then}
use Rattle.wb_values.specs.Value.{Name, same_name, Entries, entry_of}
use Rattle.wb_values.specs.Choice.{first_of}
use Rattle.verilog_trees.specs.Syntax.{Expression, Range, Direction, NetKind, wire, reg, PortDeclaration, ParameterDeclaration, Connections, by_name, by_order, Item, port, parameter, wires, variables, assign, always, instances, Ports, no_ports, listed, declared, Module, Source}
use Rattle.verilog_meaning.specs.Expression.{Object, Scope, undeclared, object_or_undeclared, scope_of, object_width, no_values, natural_of, integer_of, widened, width_of, sign_of, self_value, assigned_value}

-- a bound of a range: a constant, read where no net or variable has a value
abbrev pub bound_of : Scope → Expression → ℕ
bound_of s e = natural_of (integer_of s no_values e)

-- a net, a variable or a parameter with this sign and range; without a range it has one bit
abbrev pub ranged_object : Scope → Bool → Option Range → Object
ranged_object s signed None = record undeclared { is_declared = true; signed = signed }
ranged_object s signed (Some r) =
    record undeclared { is_declared = true; signed = signed; has_range = true; left = bound_of s r.left; right = bound_of s r.right }

-- A number of w bits as a parameter without a range. It has the range of its value, and so it may be selected from (4.10.1).
abbrev pub constant_object : Bool → ℕ → ℕ → Object
constant_object signed w x =
    record undeclared { is_declared = true; signed = signed; has_range = true; left = w - 1; right = 0; constant = Some x }

-- An expression as a parameter's value (12.2.1): with a range it is assigned to that range; without one it keeps its
-- own width, and its own sign unless `signed` is declared.
abbrev pub parameter_object : Scope → Bool → Option Range → Expression → Object
parameter_object s signed None e = constant_object (signed || sign_of s e) (width_of s e) (self_value s no_values e)
parameter_object s signed (Some r) e =
    let o : Object = ranged_object s signed (Some r) in record o { constant = Some (assigned_value s no_values (object_width o) e) }

-- An overriding value, which has a width and sign of its own already, as a parameter's value (12.2.1).
abbrev pub overridden_object : Scope → Bool → Option Range → Object → Object
overridden_object s signed None given = record given { signed = signed || given.signed }
overridden_object s signed (Some r) given =
    let o : Object = ranged_object s signed (Some r) in
    record o {
      constant = Some (widened given.signed (object_width given) (max (object_width given) (object_width o)) (unwrap_or given.constant 0) % 2 ^ object_width o);
    }

-- the overriding values by the parameters' names
abbrev pub Overrides : Type 0
Overrides = Name → Option Object

abbrev pub one_parameter : Scope → Bool → Option Range → Expression → Option Object → Object
one_parameter s signed r e None = parameter_object s signed r e
one_parameter s signed r e (Some given) = overridden_object s signed r given

abbrev pub override_of : ParameterDeclaration → Overrides → Name → Option Object
override_of d given n = cond d.is_local None (given n)

-- The parameters of a declaration, after those that are known already. Each sees those before it.
abbrev pub with_values : ParameterDeclaration → Overrides → List (Name × Expression) → Entries Object → Entries Object
with_values d given [] known = known
with_values d given (v ∷ vs) known =
    with_values d given vs
    (known ++ (v.0, one_parameter (scope_of known) d.signed d.range v.1 (override_of d given v.0)) ∷ [])

abbrev pub with_parameters : List ParameterDeclaration → Overrides → Entries Object → Entries Object
with_parameters [] given known = known
with_parameters (d ∷ ds) given known = with_parameters ds given (with_values d given d.values known)

abbrev pub body_parameters : List Item → List ParameterDeclaration
body_parameters [] = []
body_parameters (port d ∷ items) = body_parameters items
body_parameters (parameter d ∷ items) = d ∷ body_parameters items
body_parameters (wires signed r ws ∷ items) = body_parameters items
body_parameters (variables signed r vs ∷ items) = body_parameters items
body_parameters (assign ts ∷ items) = body_parameters items
body_parameters (always es x ∷ items) = body_parameters items
body_parameters (instances m given is ∷ items) = body_parameters items

-- Those of the header and those of the body are one list.
abbrev pub all_parameters : Module → List ParameterDeclaration
all_parameters m = m.parameters ++ body_parameters m.items

-- the parameters' values of an instance of the module with these overrides
abbrev pub constants_of : Module → Overrides → Entries Object
constants_of m given = with_parameters (all_parameters m) given []

-- A name as one declaration gives it: its direction, if it is declared as a port; wire or reg, where one of them is written;
-- its sign, its range, and its addresses as a memory.
pub record Declaration : Type 0 where
  pub of_name : Name
  pub direction : Option Direction
  pub kind : Option NetKind
  pub signed : Bool
  pub range : Option Range
  pub addresses : Option Range

abbrev pub each_port : PortDeclaration → List Name → List Declaration
each_port d [] = []
each_port d (n ∷ ns) =
    record { of_name = n; direction = Some d.direction; kind = d.kind; signed = d.signed; range = d.range; addresses = None }
    ∷ each_port d ns

abbrev pub port_declarations : List PortDeclaration → List Declaration
port_declarations [] = []
port_declarations (d ∷ ds) = each_port d d.names ++ port_declarations ds

abbrev pub wire_declarations : Bool → Option Range → List (Name × Option Expression) → List Declaration
wire_declarations signed r [] = []
wire_declarations signed r (w ∷ ws) =
    record { of_name = w.0; direction = None; kind = Some wire; signed = signed; range = r; addresses = None }
    ∷ wire_declarations signed r ws

abbrev pub variable_declarations : Bool → Option Range → List (Name × Option Range) → List Declaration
variable_declarations signed r [] = []
variable_declarations signed r (v ∷ vs) =
    record { of_name = v.0; direction = None; kind = Some reg; signed = signed; range = r; addresses = v.1 }
    ∷ variable_declarations signed r vs

abbrev pub item_declarations : List Item → List Declaration
item_declarations [] = []
item_declarations (port d ∷ items) = each_port d d.names ++ item_declarations items
item_declarations (parameter d ∷ items) = item_declarations items
item_declarations (wires signed r ws ∷ items) = wire_declarations signed r ws ++ item_declarations items
item_declarations (variables signed r vs ∷ items) = variable_declarations signed r vs ++ item_declarations items
item_declarations (assign ts ∷ items) = item_declarations items
item_declarations (always es x ∷ items) = item_declarations items
item_declarations (instances m given is ∷ items) = item_declarations items

abbrev pub header_ports : Ports → List PortDeclaration
header_ports no_ports = []
header_ports (listed ns) = []
header_ports (declared ds) = ds

-- the declarations of nets and variables, header ports first
abbrev pub declarations : Module → List Declaration
declarations m = port_declarations (header_ports m.ports) ++ item_declarations m.items

abbrev pub both_declarations : Declaration → Declaration → Declaration
both_declarations d e =
    record {
      of_name = d.of_name;
      direction = first_of d.direction e.direction;
      kind = first_of d.kind e.kind;
      signed = d.signed || e.signed;
      range = first_of d.range e.range;
      addresses = first_of d.addresses e.addresses;
    }

-- a declaration, and what later ones say of its name
abbrev pub and_later : Declaration → Option Declaration → Declaration
and_later d None = d
and_later d (Some e) = both_declarations d e

-- All that is declared of a name, if anything is. A port may be declared as a wire or variable besides (12.3.3), and its sign and
-- range may stand in either declaration.
abbrev pub declaration_of : List Declaration → Name → Option Declaration
declaration_of [] n = None
declaration_of (d ∷ ds) n = cond (same_name d.of_name n) (Some (and_later d (declaration_of ds n))) (declaration_of ds n)

abbrev pub bounds_of : Scope → Range → ℕ × ℕ
bounds_of s r = (bound_of s r.left, bound_of s r.right)

abbrev pub declared_object : Scope → Declaration → Object
declared_object s d = record (ranged_object s d.signed d.range) { addresses = option_map (bounds_of s) d.addresses }

-- what a module with these values of its parameters has under a name: a parameter, else a net or variable, else nothing
abbrev pub object_named : Module → Entries Object → Name → Option Object
object_named m known n =
    first_of (entry_of known n) (option_map (declared_object (scope_of known)) (declaration_of (declarations m) n))

-- the scope of a module with these values of its parameters
abbrev pub module_scope : Module → Entries Object → Scope
module_scope m known n = object_or_undeclared (object_named m known n)

-- A step of a path: an instance by its name; or a generated block by its name and, where a loop generates it, the index of one of
-- its copies (12.4, 12.5).
pub record PathStep : Type 0 where
  pub of_name : Name
  pub index : Option ℤ

abbrev pub instance_step : Name → PathStep
instance_step u = record { of_name = u; index = None }

-- a module that stands in the design: at which path, the innermost step first, and with which values of its parameters
pub record Placed : Type 0 where
  pub path : List PathStep
  pub of_module : Module
  pub constants : Entries Object

abbrev pub placed_scope : Placed → Scope
placed_scope p = module_scope p.of_module p.constants

-- the first module of this name
abbrev pub module_named : Source → Name → Option Module
module_named [] n = None
module_named (m ∷ ms) n = cond (same_name m.module_name n) (Some m) (module_named ms n)

-- an instance of a module, with its connections
pub record Instance : Type 0 where
  pub of_module : Name
  pub parameters : Connections
  pub connections : Connections

abbrev pub instance_among : Name → Connections → List (Name × Connections) → Name → Option Instance
instance_among m given [] u = None
instance_among m given (i ∷ is) u =
    cond (same_name i.0 u) (Some (record { of_module = m; parameters = given; connections = i.1 })) (instance_among m given is u)

-- the first instance of this name
abbrev pub instance_named : List Item → Name → Option Instance
instance_named [] u = None
instance_named (port d ∷ items) u = instance_named items u
instance_named (parameter d ∷ items) u = instance_named items u
instance_named (wires signed r ws ∷ items) u = instance_named items u
instance_named (variables signed r vs ∷ items) u = instance_named items u
instance_named (assign ts ∷ items) u = instance_named items u
instance_named (always es x ∷ items) u = instance_named items u
instance_named (instances m given is ∷ items) u = first_of (instance_among m given is u) (instance_named items u)

abbrev pub in_order : List (Option Expression) → List Name → Name → Option Expression
in_order [] ns n = None
in_order (e ∷ es) [] n = None
in_order (e ∷ es) (m ∷ ms) n = cond (same_name m n) e (in_order es ms n)

abbrev pub joined_option : {A : Type 0} → Option (Option A) → Option A
joined_option (Some x) = x
joined_option None = None

-- The expression that is given to a name, where the names stand in this order. An empty entry gives nothing.
abbrev pub connected : Connections → List Name → Name → Option Expression
connected (by_name es) names n = joined_option (entry_of es n)
connected (by_order es) names n = in_order es names n

abbrev pub value_names : List (Name × Expression) → List Name
value_names [] = []
value_names (v ∷ vs) = v.0 ∷ value_names vs

-- the parameters that can be overridden, in their order
abbrev pub overridable : List ParameterDeclaration → List Name
overridable [] = []
overridable (d ∷ ds) = cond d.is_local [] (value_names d.values) ++ overridable ds

-- an instance's overrides, each by itself in the scope around it
abbrev pub overrides_of : Scope → Connections → Module → Overrides
overrides_of around given m n =
    option_map (λ e. parameter_object around false None e) (connected given (overridable (all_parameters m)) n)

-- the module of an instance, at this path and in the scope around it
abbrev pub placed_instance : Source → List PathStep → Scope → Instance → Option Placed
placed_instance source path around i =
    option_map (λ m. record { path = path; of_module = m; constants = constants_of m (overrides_of around i.parameters m) })
    (module_named source i.of_module)

-- The instance that a step leads to. An instance has no index.
abbrev pub instance_reached : List Item → PathStep → Option Instance
instance_reached items u = cond (is_some u.index) None (instance_named items u.of_name)

-- the module that a step leads to from a module
abbrev pub placed_below : Source → PathStep → Placed → Option Placed
placed_below source u p =
    option_and_then (placed_instance source (u ∷ p.path) (placed_scope p)) (instance_reached p.of_module.items u)

abbrev pub no_overrides : Overrides
no_overrides n = None

-- The module at a path from the top, the innermost step first.
abbrev pub placed_at : Source → Name → List PathStep → Option Placed
placed_at source top [] =
    option_map (λ m. record { path = []; of_module = m; constants = constants_of m no_overrides }) (module_named source top)
placed_at source top (u ∷ around) = option_and_then (placed_below source u) (placed_at source top around)

abbrev pub signed_decimal : ℤ → List ℕ
signed_decimal (pos n) = decimal n
signed_decimal (negsuc n) = 45 ∷ decimal (suc n)

abbrev pub index_text : Option ℤ → List ℕ
index_text None = []
index_text (Some i) = 91 ∷ signed_decimal i ++ 93 ∷ []

-- A step as it is written: `u`, or `blk[3]`.
abbrev pub step_text : PathStep → Name
step_text u = u.of_name ++ index_text u.index

-- A name within the module at a path, as it is written from the top: the steps and it, with dots between (12.5).
abbrev pub dotted : List PathStep → Name → Name
dotted [] n = n
dotted (u ∷ around) n = dotted around (step_text u ++ 46 ∷ n)
