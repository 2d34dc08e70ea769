-- The parameters that are declared before a place of a module's text, as a scope.
use Rattle.std.specs.Prelude.{◌≡◌, Bool, false, cond, ◌||◌, List, [], ◌∷◌, Some, None}
use Rattle.wb_values.specs.Value.{Name, Entries, entry_of}
use Rattle.verilog_trees.specs.Syntax.{Item, port, parameter, wires, variables, assign, always, instances}
use Rattle.verilog_meaning.specs.Expression.{Object, Scope, undeclared}
use Rattle.verilog_meaning.specs.Hierarchy.{value_names}
use Rattle.verilog_designs.specs.Names.{is_among}
use Rattle.v_scopes.specs.Ports.{is_wide_item}

-- The list has what this scope has of the names before, and nothing of others.
abbrev pub IsBefore : Entries Object → Scope → (Name → Bool) → Type 0
IsBefore es s before = (n : Name) → entry_of es n ≡ cond (before n) (Some (s n)) None

-- the names before what follows an item
abbrev pub after : Item → (Name → Bool) → Name → Bool
after (port d) before n = before n
after (parameter d) before n = is_among (value_names d.values) n || before n
after (wires signed r ws) before n = before n
after (variables signed r vs) before n = before n
after (assign ts) before n = before n
after (always es x) before n = before n
after (instances m given is) before n = before n

-- of this scope the names before
abbrev pub among : Scope → (Name → Bool) → Scope
among s before n = cond (before n) (s n) undeclared

-- Some item declares the name with a range of another number of bits than one.
abbrev pub wide_in : Scope → (Name → Bool) → Name → List Item → Bool
wide_in s before n [] = false
wide_in s before n (i ∷ items) = is_wide_item (among s before) n i || wide_in s (after i before) n items
