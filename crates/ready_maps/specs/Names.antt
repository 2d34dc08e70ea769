-- The names in a map, and scopes that know them.
use Rattle.std.specs.Prelude.{◌≡◌, ◌++◌, List, [], ◌∷◌, Contains}
use Rattle.wb_values.specs.Value.{Name, Entries}
use Rattle.verilog_trees.specs.Syntax.{Expression}
use Rattle.verilog_meaning.specs.Expression.{Scope}
use Rattle.verilog_meaning.specs.Settled.{Design}
use Rattle.verilog_designs.specs.Names.{names_in}
use Rattle.refinement.specs.Map.{Map, InstructionMap}
use Rattle.map_rules.specs.Expressions.{design_scope}

abbrev pub names_in_list : List Expression → List Name
names_in_list [] = []
names_in_list (e ∷ es) = names_in e ++ names_in_list es

abbrev pub names_in_entries : Entries Expression → List Name
names_in_entries [] = []
names_in_entries (e ∷ es) = names_in e.1 ++ names_in_entries es

abbrev pub names_in_commits : List InstructionMap → List Name
names_in_commits [] = []
names_in_commits (i ∷ is) = names_in i.commit ++ names_in_commits is

-- the names in all expressions of a map, and the paths of memories
abbrev pub names_in_map : Map → List Name
names_in_map p =
    names_in_list p.assume ++ (names_in_list p.invariants ++ (names_in p.start ++ (names_in_entries p.states ++ (names_in_entries p.inputs ++ names_in_commits p.instructions))))

-- Each of these names means in the scope what it means in the design.
abbrev pub Knows : Scope → Design → List Name → Type 0
Knows s d names = (n : Name) → Contains names n → s n ≡ design_scope d n
