-- The lists of places that the code has, and the modules by their names.
use Rattle.std.specs.Prelude.{◌≡◌, ◌++◌, ℕ, List, [], ◌∷◌, map, Option, Some, None, option_map, slice_get}
use Rattle.std.specs.Borrow.{Bor}
use Rattle.std.specs.Ordering.{nat_cmp}
use Rattle.std.specs.Cmp.Lexicographic.{slice_cmp}
use Rattle.std.specs.BTreeMap.{BTreeMap, get_by}
use Rattle.wb_values.specs.Value.{Name}
use Rattle.verilog_trees.specs.Syntax as pure
use Rattle.verilog_trees.specs.Syntax.{Connections, by_order}
use Rattle.verilog_designs.specs.Known.{KnownOverrides}
use Rattle.v_syntax.specs.declared.module.Instance.{Instance}
use Rattle.v_syntax.specs.declared.module.Module.{Module}
use Rattle.v_syntax.specs.Source.{connections_of, module_of}
use Rattle.v_value.specs.Scope.{objects_of}
use Rattle.v_places.specs.declared.place.Place.{Place}
use Rattle.v_places.specs.Below.{Spot, each_spot}

abbrev pub name_of : Option (Bor Instance) → Name
name_of None = []
name_of (Some i) = i.now.name.now

abbrev pub connected_to : Option (Bor Instance) → Connections
connected_to None = by_order []
connected_to (Some i) = connections_of i.now.connections

abbrev pub spot_of : Place → Spot
spot_of p =
    record {
      of_module = module_of p.within.now;
      instance = name_of p.instance;
      parent = p.parent;
      connections = connected_to p.instance;
      constants = objects_of p.constants.declarations.items;
    }

abbrev pub spots_of : List Place → List Spot
spots_of ps = map spot_of ps

-- the places of instances of a module, if it is there
abbrev pub each_if_any : ℕ → Option pure.Module → KnownOverrides → List (Name × Connections) → List Spot
each_if_any k None given is = []
each_if_any k (Some m) given is = each_spot k m given is

-- what a table of numbers has under a name
abbrev pub number_in : BTreeMap (Bor (List ℕ)) ℕ → Name → Option ℕ
number_in t n = get_by (λ k. slice_cmp nat_cmp n k.now) t

-- the module with a number, if one has it
abbrev pub module_at : List Module → Option ℕ → Option pure.Module
module_at ms None = None
module_at ms (Some k) = option_map module_of (slice_get ms k)

-- the module of a name, where the table has the numbers of the modules
abbrev pub module_in : List Module → BTreeMap (Bor (List ℕ)) ℕ → Name → Option pure.Module
module_in ms t n = module_at ms (number_in t n)
