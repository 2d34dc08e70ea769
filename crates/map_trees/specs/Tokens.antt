-- The tokens of a map's texts.
use Rattle.std.specs.Prelude.{◌≡◌, Bool, true, false, List, Option, Some, None}
use Rattle.std.specs.List.{AllZip}
use Rattle.wb_values.specs.Value.{Name, Sort, memory, Entries}
use Rattle.model_meaning.specs.Model.{Model}
use Rattle.verilog_trees.specs.Syntax.{Expression}
use Rattle.map_files.specs.Written as pure
use Rattle.map_files.specs.Written.{Text}
use Rattle.map_file.specs.View.{entry_view, map_view, mapped_view}
use Rattle.map_rules.specs.Case.{is_memory_named}
use Rattle.map_rules.specs.Expressions.{ReadsAs}
use Rattle.map_expressions.specs.Reading.{HasTokens}
use Rattle.map_sorts.specs.declared.sorts.ModelSorts.{ModelSorts}
use Rattle.map_sorts.specs.Tables.{sort_of_state_in}
use Rattle.map_trees.specs.declared.tokens.TextTokens.{TextTokens}
use Rattle.map_trees.specs.declared.tokens.TextTokens.TheVariants.{Tokens, Refused}
use Rattle.map_trees.specs.declared.tokens.StateTokens.{StateTokens}
use Rattle.map_trees.specs.declared.tokens.EntryTokens.{EntryTokens}
use Rattle.map_trees.specs.declared.tokens.InstructionTokens.{InstructionTokens}
use Rattle.map_trees.specs.declared.tokens.MapTokens.{MapTokens}

-- the tokens of the text, or it is read as no expression
abbrev pub IsTokens : TextTokens → Text → Type 0
IsTokens (Tokens x) t = HasTokens x t
IsTokens (Refused n) t = (e : Expression) → ¬ ReadsAs t e

-- those of each of these texts
abbrev pub AreTokens : List TextTokens → List Text → Type 0
AreTokens = AllZip IsTokens

-- a sort is that of a memory
abbrev pub is_memory_sort : Option Sort → Bool
is_memory_sort (Some (memory a d)) = true
is_memory_sort _ = false

abbrev pub is_memory_in : ModelSorts → Name → Bool
is_memory_in s n = is_memory_sort (sort_of_state_in s n)

-- a state's tokens, where it is no memory
abbrev pub IsStateTokens : (is_memory : Bool) → Option TextTokens → Text → Type 0
IsStateTokens true None t = Unit {0}
IsStateTokens true (Some x) t = ⊥
IsStateTokens false None t = ⊥
IsStateTokens false (Some x) t = IsTokens x t

abbrev pub IsStateEntry : (is_memory : Name → Bool) → StateTokens → Name × Text → Type 0
IsStateEntry is_memory x e = (mapped_view x.entry.now ≡ e) × IsStateTokens (is_memory e.0) x.tokens e.1

abbrev pub AreStateTokens : (is_memory : Name → Bool) → List StateTokens → Entries Text → Type 0
AreStateTokens is_memory = AllZip (IsStateEntry is_memory)

-- an input's entry with its tokens
abbrev pub IsInputEntry : EntryTokens → Name × Text → Type 0
IsInputEntry x e = (mapped_view x.entry.now ≡ e) × IsTokens x.tokens e.1

abbrev pub AreEntryTokens : List EntryTokens → Entries Text → Type 0
AreEntryTokens = AllZip IsInputEntry

-- an instruction's entry with those of the condition of its commit
abbrev pub IsInstructionEntry : InstructionTokens → pure.InstructionEntry → Type 0
IsInstructionEntry x e = (entry_view x.entry.now ≡ e) × IsTokens x.tokens e.commit

abbrev pub AreInstructionTokens : List InstructionTokens → List pure.InstructionEntry → Type 0
AreInstructionTokens = AllZip IsInstructionEntry

-- a written map with the tokens of all its texts, where the model says which states are memories
pub record AreMapTokens (m : Model) (w : pure.WrittenMap) (x : MapTokens) : Type 0 where
  pub is_map : map_view x.map.now ≡ w
  pub assume : AreTokens x.assume.items w.assume
  pub invariants : AreTokens x.invariants.items w.invariants
  pub start : IsTokens x.start w.start
  pub states : AreStateTokens (is_memory_named m) x.states.items w.states
  pub inputs : AreEntryTokens x.inputs.items w.inputs
  pub instructions : AreInstructionTokens x.instructions.items w.instructions
