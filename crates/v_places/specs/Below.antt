-- The modules that stand in a design as a list, breadth first, each with the place of its parent in it: the top, then what stands below
-- each of them.
use Rattle.std.specs.Prelude.{ℕ, suc, List, [], ◌∷◌, ◌++◌, get_or, Option, Some, None}
use Rattle.wb_values.specs.Value.{Name, Entries}
use Rattle.verilog_trees.specs.Syntax.{Connections, by_order, Item, port, parameter, wires, variables, assign, always, instances, no_ports, Module, Source}
use Rattle.verilog_meaning.specs.Expression.{Object}
use Rattle.verilog_meaning.specs.Hierarchy.{Instance, module_named}
use Rattle.verilog_designs.specs.Known.{KnownOverrides, known_constants, known_module_scope, known_overrides}

-- a module with those of its parameters that have values: the number of the module around it, the name of its instance there, and what
-- is connected to that
pub record Spot : Type 0 where
  pub of_module : Module
  pub instance : Name
  pub parent : ℕ
  pub connections : Connections
  pub constants : Entries Object

-- what stands at a number past the end
abbrev pub nowhere : Spot
nowhere = record { of_module = record { module_name = []; parameters = []; ports = no_ports; items = [] }; instance = []; parent = 0; connections = by_order []; constants = [] }

abbrev pub spot_in : List Spot → ℕ → Spot
spot_in spots k = get_or spots k nowhere

abbrev pub top_spot : Module → Spot
top_spot m = record { of_module = m; instance = []; parent = 0; connections = by_order []; constants = known_constants m (λ n. None) }

-- the instances of a module in the order of its text
abbrev pub each_instance : Name → Connections → List (Name × Connections) → Entries Instance
each_instance m given [] = []
each_instance m given (i ∷ is) = (i.0, record { of_module = m; parameters = given; connections = i.1 }) ∷ each_instance m given is

abbrev pub all_instances : List Item → Entries Instance
all_instances [] = []
all_instances (port d ∷ items) = all_instances items
all_instances (parameter d ∷ items) = all_instances items
all_instances (wires signed r ws ∷ items) = all_instances items
all_instances (variables signed r vs ∷ items) = all_instances items
all_instances (assign ts ∷ items) = all_instances items
all_instances (always es x ∷ items) = all_instances items
all_instances (instances m given is ∷ items) = each_instance m given is ++ all_instances items

-- those of one item
abbrev pub item_instances : Item → Entries Instance
item_instances i = all_instances (i ∷ [])

-- the module of an instance below the module with this number
abbrev pub spot_below : ℕ → Spot → Name × Instance → Module → Spot
spot_below k x u m =
    record {
      of_module = m;
      instance = u.0;
      parent = k;
      connections = u.1.connections;
      constants = known_constants m (known_overrides (known_module_scope x.of_module x.constants) u.1.parameters m);
    }

-- instances of one module, which are given the same parameters
abbrev pub each_spot : ℕ → Module → KnownOverrides → List (Name × Connections) → List Spot
each_spot k m given [] = []
each_spot k m given (i ∷ is) =
    record { of_module = m; instance = i.0; parent = k; connections = i.1; constants = known_constants m given } ∷ each_spot k m given is

abbrev pub one_if_any : ℕ → Spot → Name × Instance → Option Module → List Spot
one_if_any k x u None = []
one_if_any k x u (Some m) = spot_below k x u m ∷ []

-- what stands below it by these instances, where the modules have these names; a module that is not there stands nowhere
abbrev pub below_by : (Name → Option Module) → ℕ → Spot → Entries Instance → List Spot
below_by modules k x [] = []
below_by modules k x (u ∷ us) = one_if_any k x u (modules u.1.of_module) ++ below_by modules k x us

abbrev pub spots_below : Source → ℕ → Spot → List Spot
spots_below source k x = below_by (module_named source) k x (all_instances x.of_module.items)

-- what stands below each of these modules, of which the first has this number
abbrev pub all_below : Source → ℕ → List Spot → List Spot
all_below source k [] = []
all_below source k (x ∷ xs) = spots_below source k x ++ all_below source (suc k) xs
