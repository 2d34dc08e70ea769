-- The expressions of a map with what is wanted of them.
use Rattle.std.specs.Prelude.{◌≡◌, ℕ, List, [], ◌∷◌, ◌++◌, map, Option, ⊤}
use Rattle.wb_values.specs.Value.{Name}
use Rattle.verilog_trees.specs.Syntax.{Expression}
use Rattle.verilog_designs.specs.Names.{names_in}
use Rattle.v_syntax.specs.Tree.{tree_of}
use Rattle.v_instances.specs.Texts.{texts}
use Rattle.map_judged.specs.declared.expression.MapExpression.{MapExpression}

-- an expression, and the number of bits that it must have, if that is said
pub record Asked : Type 0 where
  pub tree : Expression
  pub wanted : Option ℕ

-- all names in expressions
abbrev pub names_asked : List Asked → List Name
names_asked [] = []
names_asked (x ∷ xs) = names_in x.tree ++ names_asked xs

-- ---- those of the code

abbrev pub asked_of : MapExpression → Asked
asked_of x = record { tree = tree_of x.tree.now; wanted = x.width }

abbrev pub asked_list : List MapExpression → List Asked
asked_list xs = map asked_of xs

-- each is given with the names in its tree
abbrev pub AreNamed : List MapExpression → Type 0
AreNamed [] = ⊤
AreNamed (x ∷ xs) = (texts x.names.items ≡ names_in (tree_of x.tree.now)) × AreNamed xs

-- the names that are given
abbrev pub code_names : List MapExpression → List Name
code_names [] = []
code_names (x ∷ xs) = texts x.names.items ++ code_names xs
