-- The list of a map's expressions as the code makes it, from the trees with their tokens.
use Rattle.std.specs.Prelude.{◌≡◌, Bool, true, false, cond, List, [], ◌∷◌, ◌++◌, Option, Some, None}
use Rattle.verilog_trees.specs.Syntax.{Expression}
use Rattle.map_files.specs.Written.{Text, WrittenMap}
use Rattle.model_meaning.specs.Model.{Model}
use Rattle.map_rules.specs.Expressions.{ReadsAs}
use Rattle.map_rules.specs.Accepted.{StandsForMap}
use Rattle.v_syntax.specs.declared.tree.Expression as code
use Rattle.v_syntax.specs.Tree.{tree_of}
use Rattle.map_sorts.specs.declared.sorts.ModelSorts.{ModelSorts}
use Rattle.map_sorts.specs.Tables.{sort_of_state_in, sort_of_input_in}
use Rattle.map_trees.specs.declared.tokens.TextTokens.{TextTokens}
use Rattle.map_trees.specs.declared.tokens.StateTokens.{StateTokens}
use Rattle.map_trees.specs.declared.tokens.EntryTokens.{EntryTokens}
use Rattle.map_trees.specs.declared.tokens.InstructionTokens.{InstructionTokens}
use Rattle.map_trees.specs.declared.tokens.MapTokens.{MapTokens}
use Rattle.map_trees.specs.declared.trees.MappedTree.{MappedTree}
use Rattle.map_trees.specs.declared.trees.InstructionTree.{InstructionTree}
use Rattle.map_trees.specs.declared.trees.RefinementMap.{RefinementMap}
use Rattle.map_trees.specs.Tokens.{IsTokens, is_memory_in, AreMapTokens}
use Rattle.map_trees.specs.View.{tree_map_view}
use Rattle.map_judged.specs.declared.expression.MapExpression.{MapExpression}
use Rattle.map_judged.specs.Asked.{Asked, asked_list, AreNamed}
use Rattle.map_judged.specs.Whole.{condition, valued}

-- ---- trees with the tokens that they are read of

-- these tokens are those of a text that is read as this tree
pub record IsTreeOf (x : TextTokens) (e : Expression) : Type 0 where
  pub text : Text
  pub are_tokens : IsTokens x text
  pub is_read : ReadsAs text e

abbrev pub IsConditionOf : TextTokens → code.Expression → Type 0
IsConditionOf x e = IsTreeOf x (tree_of e)

-- a memory has none
abbrev pub IsValueOf : (is_memory : Bool) → Option TextTokens → Expression → Type 0
IsValueOf true None e = Unit {0}
IsValueOf true (Some x) e = ⊥
IsValueOf false None e = ⊥
IsValueOf false (Some x) e = IsTreeOf x e

abbrev pub IsStateOf : ModelSorts → StateTokens → MappedTree → Type 0
IsStateOf s x t = IsValueOf (is_memory_in s t.name.now) x.tokens (tree_of t.tree)

abbrev pub IsInputOf : EntryTokens → MappedTree → Type 0
IsInputOf x t = IsTreeOf x.tokens (tree_of t.tree)

abbrev pub IsCommitOf : InstructionTokens → InstructionTree → Type 0
IsCommitOf x t = IsTreeOf x.tokens (tree_of t.commit)

-- The tokens are those of a written map of the model, and the trees are of the map that it stands for.
pub record AreTreesOf (m : Model) (x : MapTokens) (t : RefinementMap) : Type 0 where
  pub written : WrittenMap
  pub are_tokens : AreMapTokens m written x
  pub stands : StandsForMap m written (tree_map_view t)

-- ---- what is asked of each

abbrev pub condition_asked : code.Expression → List Asked
condition_asked e = condition (tree_of e) ∷ []

abbrev pub state_asked : ModelSorts → MappedTree → List Asked
state_asked s t = cond (is_memory_in s t.name.now) [] (valued (sort_of_state_in s t.name.now) (tree_of t.tree) ∷ [])

abbrev pub input_asked : ModelSorts → MappedTree → List Asked
input_asked s t = valued (sort_of_input_in s t.name.now) (tree_of t.tree) ∷ []

abbrev pub commit_asked : InstructionTree → List Asked
commit_asked t = condition (tree_of t.commit) ∷ []

-- all that is asked of the elements of a list
abbrev pub all_asked : {A : Type 0} → (A → List Asked) → List A → List Asked
all_asked f [] = []
all_asked f (x ∷ xs) = f x ++ all_asked f xs

-- ---- lists that grow

-- The new list has these after those of the old one, and each with its names, where those of the old one have them.
pub record IsMore (old new : List MapExpression) (xs : List Asked) : Type 0 where
  pub is_more : asked_list new ≡ asked_list old ++ xs
  pub named : AreNamed old → AreNamed new
