-- What is answered of a map's texts: their trees, or the rule on expressions where one of them is read as none.
use Rattle.std.specs.Prelude.{◌≡◌, ⊤, Bool, true, false, List, ◌∷◌, ◌++◌, map, Contains, Result, Ok, Err, Vec}
use Rattle.std.specs.Global.{Global}
use Rattle.wb_values.specs.Value.{Name, Entries}
use Rattle.model_meaning.specs.Model.{Model}
use Rattle.verilog_trees.specs.Syntax as tree
use Rattle.verilog_trees.specs.Syntax.{Source, whole}
use Rattle.map_files.specs.Written as pure
use Rattle.map_files.specs.Written.{Text}
use Rattle.map_files.specs.Meaning.{BadExpression}
use Rattle.map_file.specs.Rule.{rule_view}
use Rattle.map_file.specs.declared.stop.MapStop.{MapStop}
use Rattle.map_file.specs.declared.stop.MapStop.TheVariants as file
use Rattle.map_rules.specs.Case.{value_texts}
use Rattle.map_rules.specs.Expressions.{ReadsAs, HasBadExpression}
use Rattle.map_rules.specs.Accepted.{AreRead, AreStatesRead, AreInputsRead, AreInstructionsRead, StandsForMap, case_of}
use Rattle.v_syntax.specs.declared.tree.Expression.{Expression}
use Rattle.v_syntax.specs.Tree.{tree_of}
use Rattle.map_trees.specs.declared.stop.Stop.{Stop}
use Rattle.map_trees.specs.declared.stop.Stop.TheVariants.{Unread, NoMemory}
use Rattle.map_trees.specs.declared.trees.MappedTree.{MappedTree}
use Rattle.map_trees.specs.declared.trees.InstructionTree.{InstructionTree}
use Rattle.map_trees.specs.declared.trees.RefinementMap.{RefinementMap}
use Rattle.map_trees.specs.View.{mapped_tree_view, instruction_tree_view, tree_map_view}

-- the refusal is by the rule on expressions
abbrev pub IsBad : Stop → Type 0
IsBad (Unread r) = rule_view r.rule ≡ BadExpression
IsBad NoMemory = ⊤

-- a text that is read as nothing
abbrev pub IsUnread : Text → Type 0
IsUnread t = (e : tree.Expression) → ¬ ReadsAs t e

-- the refusal is by that rule, and one of these texts is read as nothing
abbrev pub IsUnreadAmong : Stop → List Text → Type 0
IsUnreadAmong (Unread r) ts = (rule_view r.rule ≡ BadExpression) × (t : Text) × Contains ts t × IsUnread t
IsUnreadAmong NoMemory ts = ⊤

-- the texts of the map's expressions
abbrev pub all_texts : Model → pure.WrittenMap → List Text
all_texts m w =
    w.assume ++ (w.invariants ++ w.start ∷ (value_texts m w.states ++ (map (λ e. e.1) w.inputs ++ map (λ i. i.commit) w.instructions)))

abbrev pub IsTree : Result Expression Stop → Text → Type 0
IsTree (Ok e) t = ReadsAs t (tree_of e)
IsTree (Err (Unread r)) t = (rule_view r.rule ≡ BadExpression) × IsUnread t
IsTree (Err NoMemory) t = ⊤

abbrev pub AreTrees : Result (Vec Expression Global) Stop → List Text → Type 0
AreTrees (Ok v) ts = AreRead ts (map tree_of v.items)
AreTrees (Err s) ts = IsUnreadAmong s ts

-- the tree of a state's entry: of a memory the path as a name
abbrev pub IsValueTree : (is_memory : Bool) → Name × Text → Name × tree.Expression → Type 0
IsValueTree true e x = x ≡ (e.0, tree.name e.1 whole)
IsValueTree false e x = (x.0 ≡ e.0) × ReadsAs e.1 x.1

abbrev pub IsStateTree : (is_memory : Bool) → Name × Text → Result MappedTree Stop → Type 0
IsStateTree b e (Ok x) = IsValueTree b e (mapped_tree_view x)
IsStateTree b e (Err (Unread r)) = (rule_view r.rule ≡ BadExpression) × (b ≡ false) × IsUnread e.1
IsStateTree b e (Err NoMemory) = ⊤

abbrev pub AreStateTrees : Model → Entries Text → Result (Vec MappedTree Global) Stop → Type 0
AreStateTrees m es (Ok v) = AreStatesRead m es (map mapped_tree_view v.items)
AreStateTrees m es (Err s) = IsUnreadAmong s (value_texts m es)

abbrev pub AreEntryTrees : Entries Text → Result (Vec MappedTree Global) Stop → Type 0
AreEntryTrees es (Ok v) = AreInputsRead es (map mapped_tree_view v.items)
AreEntryTrees es (Err s) = IsUnreadAmong s (map (λ e. e.1) es)

abbrev pub AreInstructionTrees : List pure.InstructionEntry → Result (Vec InstructionTree Global) Stop → Type 0
AreInstructionTrees es (Ok v) = AreInstructionsRead es (map instruction_tree_view v.items)
AreInstructionTrees es (Err s) = IsUnreadAmong s (map (λ i. i.commit) es)

-- The map that the written one stands for; or one of its expressions is read as none.
abbrev pub AreMapTrees : Model → pure.WrittenMap → Result RefinementMap Stop → Type 0
AreMapTrees m w (Ok r) = StandsForMap m w (tree_map_view r)
AreMapTrees m w (Err s) = IsUnreadAmong s (all_texts m w)

-- The map that the written one stands for; or it breaks the rule on expressions, whatever the design.
abbrev pub IsMapRead : Model → pure.WrittenMap → Result RefinementMap MapStop → Type 0
IsMapRead m w (Ok r) = StandsForMap m w (tree_map_view r)
IsMapRead m w (Err (file.Refused r)) = (rule_view r.rule ≡ BadExpression) × ((s : Source) → HasBadExpression (case_of w m s))
IsMapRead m w (Err file.NoMemory) = ⊤
