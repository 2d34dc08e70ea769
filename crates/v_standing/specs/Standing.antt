-- Lists of the modules that stand in a design, and how they grow.
use Rattle.std.specs.Prelude.{◌≡◌, ◌<◌, ◌⊎◌, ℕ, suc, List, [], ◌∷◌, ◌++◌, map, get_or, cond, Contains, Option, Some, None, option_map}
use Rattle.std.specs.Borrow.{Bor}
use Rattle.std.specs.BTreeMap.{BTreeMap}
use Rattle.wb_values.specs.Value.{Name, same_name}
use Rattle.verilog_trees.specs.Syntax.{Item, port, parameter, wires, variables, assign, always, instances, no_ports, Module, Source}
use Rattle.verilog_meaning.specs.Hierarchy.{module_named}
use Rattle.verilog_meaning.specs.Settled.{Design}
use Rattle.verilog_designs.specs.Accepted.{StandsIn}
use Rattle.v_syntax.specs.declared.module.Module.{Module as CodeModule}
use Rattle.v_syntax.specs.Source.{module_of}
use Rattle.v_hier.specs.Tables.{under_name}

-- the modules of the code's list
abbrev pub modules_of : List (Bor CodeModule) → List Module
modules_of ms = map (λ m. module_of m.now) ms

-- the number of the first module of a name, where the first of these has this number
abbrev pub number_named : ℕ → Source → Name → Option ℕ
number_named k [] n = None
number_named k (m ∷ ms) n = cond (same_name m.module_name n) (Some k) (number_named (suc k) ms n)

-- the module with a number, and one without items past the end
abbrev pub module_at : Source → ℕ → Module
module_at source k = get_or source k (record { module_name = []; parameters = []; ports = no_ports; items = [] })

abbrev pub numbered : Source → List ℕ → List Module
numbered source ks = map (module_at source) ks

-- the module of a name by a table of numbers
abbrev pub left_in : Source → BTreeMap (Bor (List ℕ)) ℕ → Name → Option Module
left_in source t n = option_map (module_at source) (under_name t n)

abbrev pub items_of : Option Module → List Item
items_of None = []
items_of (Some m) = m.items

abbrev pub one_if_any : Option Module → List Module
one_if_any None = []
one_if_any (Some m) = m ∷ []

-- all numbers are below n
abbrev pub AreBelow : ℕ → List ℕ → Type 0
AreBelow n [] = Unit {0}
AreBelow n (k ∷ ks) = (k < n) × AreBelow n ks

-- those of a table and of a list
pub record AreWithin (n : ℕ) (t : BTreeMap (Bor (List ℕ)) ℕ) (ks : List ℕ) : Type 0 where
  pub left : (q : Name) (k : ℕ) → under_name t q ≡ Some k → k < n
  pub found : AreBelow n ks

-- The modules of the list are those that stand in the design.
pub record AreStanding (d : Design) (ms : List Module) : Type 0 where
  pub standing : (m : Module) → Contains ms m → StandsIn d m
  pub all : (m : Module) → StandsIn d m → Contains ms m

-- ---- how the list grows

-- The module is one of the list.
abbrev pub IsAmong : List Module → Module → Type 0
IsAmong [] m = ⊥
IsAmong (x ∷ xs) m = (x ≡ m) ⊎ IsAmong xs m

-- The item has instances of the module.
abbrev pub IsBelow : Source → Item → Module → Type 0
IsBelow source (port d) n = ⊥
IsBelow source (parameter d) n = ⊥
IsBelow source (wires signed r ws) n = ⊥
IsBelow source (variables signed r vs) n = ⊥
IsBelow source (assign ts) n = ⊥
IsBelow source (always es x) n = ⊥
IsBelow source (instances k given is) n = module_named source k ≡ Some n

abbrev pub IsBelowOne : Source → List Item → Module → Type 0
IsBelowOne source [] n = ⊥
IsBelowOne source (i ∷ items) n = IsBelow source i n ⊎ IsBelowOne source items n

-- The names that are left have their modules, and the modules of all other names are in the list.
pub record AreLeft (source : Source) (left : Name → Option Module) (ms : List Module) : Type 0 where
  pub left_are : (k : Name) (n : Module) → left k ≡ Some n → module_named source k ≡ Some n
  pub found_are : (k : Name) (n : Module) → left k ≡ None → module_named source k ≡ Some n → IsAmong ms n

-- Of the modules that are so, those that were not in the list stand behind it now.
pub record AreAdded (source : Source) (IsSo : Module → Type 0) (left : Name → Option Module) (ms : List Module) (left2 : Name → Option Module) (ns : List Module) : Type 0 where
  pub added : List Module
  pub behind : ns ≡ ms ++ added
  pub are_so : AreLeft source left ms → (n : Module) → IsAmong added n → IsSo n
  pub keeps : AreLeft source left ms → AreLeft source left2 ns
  pub all : AreLeft source left ms → (n : Module) → IsSo n → IsAmong ns n
