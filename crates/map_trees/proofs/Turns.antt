-- What loops over tokens know: each tree is that of the tokens at its place, whatever their text is.
use Rattle.std.proofs.Common.{◌≡◌, Bool, List}
use Rattle.wb_values.specs.Value.{Name}
use Rattle.map_files.specs.Written as pure
use Rattle.map_files.specs.Written.{Text}
use Rattle.map_file.specs.View.{mapped_view}
use Rattle.map_rules.specs.Expressions.{ReadsAs}
use Rattle.v_syntax.specs.declared.tree.Expression.{Expression}
use Rattle.v_syntax.specs.Tree.{tree_of}
use Rattle.map_trees.specs.declared.tokens.TextTokens.{TextTokens}
use Rattle.map_trees.specs.declared.tokens.StateTokens.{StateTokens}
use Rattle.map_trees.specs.declared.tokens.EntryTokens.{EntryTokens}
use Rattle.map_trees.specs.declared.tokens.InstructionTokens.{InstructionTokens}
use Rattle.map_trees.specs.declared.trees.MappedTree.{MappedTree}
use Rattle.map_trees.specs.declared.trees.InstructionTree.{InstructionTree}
use Rattle.map_trees.specs.View.{mapped_tree_view}
use Rattle.map_trees.specs.Tokens.{IsTokens, IsStateTokens, IsInputEntry, IsInstructionEntry}
use Rattle.map_trees.specs.Trees.{IsValueTree}
use Rattle.map_trees.proofs.Readings.{IsInputTree, IsInstructionTree}

abbrev pub IsTreeOf : Expression → TextTokens → Type 0
IsTreeOf e x = (t : Text) → IsTokens x t → ReadsAs t (tree_of e)

abbrev pub IsStateTreeOf : MappedTree → StateTokens → Type 0
IsStateTreeOf m x =
    (is_memory : Bool) (e : Name × Text) → mapped_view x.entry.now ≡ e → IsStateTokens is_memory x.tokens e.1 → IsValueTree is_memory e (mapped_tree_view m)

abbrev pub IsInputTreeOf : MappedTree → EntryTokens → Type 0
IsInputTreeOf m x = (e : Name × Text) → IsInputEntry x e → IsInputTree m e

abbrev pub IsInstructionTreeOf : InstructionTree → InstructionTokens → Type 0
IsInstructionTreeOf m x = (e : pure.InstructionEntry) → IsInstructionEntry x e → IsInstructionTree m e
