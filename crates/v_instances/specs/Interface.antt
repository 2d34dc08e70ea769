-- The interface of a module: what of it an instance meets. And the interfaces of all modules of a source, by name.
use Rattle.std.specs.Prelude.{◌≡◌, ℕ, cond, List, [], Option, Some, None, option_map, ⊤}
use Rattle.std.specs.Borrow.{Bor}
use Rattle.std.specs.BTreeMap.{BTreeMap}
use Rattle.wb_values.specs.Value.{Name, Entries, entry_of}
use Rattle.verilog_trees.specs.Syntax as pure
use Rattle.verilog_trees.specs.Syntax.{ParameterDeclaration, Item, port, parameter, wires, variables, assign, always, instances, Module, Source}
use Rattle.verilog_meaning.specs.Hierarchy.{all_parameters, module_named, overridable, value_names}
use Rattle.verilog_meaning.specs.Settled.{named_ports, port_directions, port_order}
use Rattle.v_syntax.specs.declared.module.Direction.{Direction}
use Rattle.v_syntax.specs.Source.{direction_of}
use Rattle.v_hier.specs.Tables.{under_name}
use Rattle.v_instances.specs.declared.interface.Interface.{Interface}
use Rattle.v_instances.specs.declared.interface.Interfaces.{Interfaces}
use Rattle.v_instances.specs.Texts.{texts}

-- the direction under a name
abbrev pub direction_in : BTreeMap (Bor (List ℕ)) Direction → Name → Option pure.Direction
direction_in t n = option_map direction_of (under_name t n)

-- The ports in the order of the module's list, the direction of each name, and the parameters that can be overridden, in their order.
pub record IsInterfaceOf (i : Interface) (m : Module) : Type 0 where
  pub ports : texts i.ports.order.items ≡ port_order m
  pub directions : (n : Name) → direction_in i.directions n ≡ entry_of (port_directions m) n
  pub parameters : texts i.parameters.order.items ≡ overridable (all_parameters m)

-- the interface of a module, where there is one
abbrev pub IsInterfaceIfAny : Option Interface → Option Module → Type 0
IsInterfaceIfAny None None = ⊤
IsInterfaceIfAny (Some i) (Some m) = IsInterfaceOf i m
IsInterfaceIfAny None (Some m) = ⊥
IsInterfaceIfAny (Some i) None = ⊥

abbrev pub interface_in : Interfaces → Name → Option Interface
interface_in t n = under_name t.modules n

-- Each name has the interface of the first module of this name, if there is one.
abbrev pub AreInterfacesOf : Interfaces → Source → Type 0
AreInterfacesOf t source = (n : Name) → IsInterfaceIfAny (interface_in t n) (module_named source n)

-- ---- while they are made

-- the ports that one item declares
abbrev pub own_ports : Item → Entries pure.Direction
own_ports (port d) = named_ports d.direction d.names
own_ports (parameter d) = []
own_ports (wires signed r ws) = []
own_ports (variables signed r vs) = []
own_ports (assign ts) = []
own_ports (always es x) = []
own_ports (instances m given is) = []

-- the parameters that one declaration lets be overridden
abbrev pub own_parameters : ParameterDeclaration → List Name
own_parameters d = cond d.is_local [] (value_names d.values)

abbrev pub item_parameters : Item → List Name
item_parameters (port d) = []
item_parameters (parameter d) = own_parameters d
item_parameters (wires signed r ws) = []
item_parameters (variables signed r vs) = []
item_parameters (assign ts) = []
item_parameters (always es x) = []
item_parameters (instances m given is) = []

-- A name that has no interface yet is that of the first module of the rest which has it.
abbrev pub IsSoFar : Option Interface → (all rest : Option Module) → Type 0
IsSoFar None all rest = all ≡ rest
IsSoFar (Some i) all rest = IsInterfaceIfAny (Some i) all

abbrev pub AreSoFar : Interfaces → (all rest : List Module) → Type 0
AreSoFar t all rest = (n : Name) → IsSoFar (interface_in t n) (module_named all n) (module_named rest n)
