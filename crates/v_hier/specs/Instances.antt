-- Items that are instances of no module of a set; and sources in which each module stands alone.
use Rattle.std.specs.Prelude.{◌≡◌, ℕ, Bool, true, false, not, ◌||◌, List, [], ◌∷◌}
use Rattle.std.specs.List.{list_any}
use Rattle.std.specs.Borrow.{Bor}
use Rattle.std.specs.BTreeSet.{BTreeSet}
use Rattle.wb_values.specs.Value.{Name}
use Rattle.verilog_trees.specs.Syntax.{ParameterDeclaration, Item, port, parameter, wires, variables, assign, always, instances, Module, Source}
use Rattle.verilog_designs.specs.Names.{is_among, module_names}
use Rattle.v_hier.specs.Tables.{has_name}

-- The set has the names of the modules of the source.
abbrev pub AreModulesOf : BTreeSet (Bor (List ℕ)) → Source → Type 0
AreModulesOf s source = (q : Name) → has_name s q ≡ is_among (module_names source) q

abbrev pub instantiates_other : (Name → Bool) → List Item → Bool
instantiates_other known [] = false
instantiates_other known (port d ∷ items) = instantiates_other known items
instantiates_other known (parameter d ∷ items) = instantiates_other known items
instantiates_other known (wires signed r ws ∷ items) = instantiates_other known items
instantiates_other known (variables signed r vs ∷ items) = instantiates_other known items
instantiates_other known (assign ts ∷ items) = instantiates_other known items
instantiates_other known (always es x ∷ items) = instantiates_other known items
instantiates_other known (instances m given is ∷ items) = not (known m) || instantiates_other known items

-- a parameter or an instance
abbrev pub is_part : Item → Bool
is_part (port d) = false
is_part (parameter d) = true
is_part (wires signed r ws) = false
is_part (variables signed r vs) = false
is_part (assign ts) = false
is_part (always es x) = false
is_part (instances m given is) = true

abbrev pub is_any : List ParameterDeclaration → Bool
is_any [] = false
is_any (d ∷ ds) = true

abbrev pub module_has_parts : Module → Bool
module_has_parts m = is_any m.parameters || list_any is_part m.items

-- Some module has a parameter or an instance.
abbrev pub has_parts : Source → Bool
has_parts source = list_any module_has_parts source
