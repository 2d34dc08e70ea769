-- Refinement maps: which expressions of a design stand for a model's states, inputs, starts and commits (ILAng's refinement maps).
use Rattle.std.specs.Prelude.{ℕ, Bool, cond, ◌==◌, List, [], ◌∷◌, Option, Some, None}
use Rattle.wb_values.specs.Value.{Name, same_name, Sort, truth, word, memory, Value, truth_value, number, words, as_words, Valuation, Entries, entry_of}
use Rattle.model_meaning.specs.Model.{Model, StateDeclaration, InputDeclaration, states_of, state_named}
use Rattle.verilog_trees.specs.Syntax.{Expression, number as a_number, name, concatenation, replication, as_signed, as_unsigned, unary, reduction, binary, shift, power, comparison, logical, conditional, Source}
use Rattle.verilog_meaning.specs.Expression.{Object, Scope, undeclared, self_value, is_true}
use Rattle.verilog_meaning.specs.Hierarchy.{PathStep, instance_step, Placed, placed_scope}
use Rattle.verilog_meaning.specs.Settled.{Design, at_path}

-- how an instruction of the model ends: the condition of its commit, and the number of cycles within which it comes
pub record InstructionMap : Type 0 where
  pub called : Name
  pub commit : Expression
  pub bound : ℕ

-- A map. Its expressions are read in the top's scope, with dotted names into instances.
pub record Map : Type 0 where
  pub top : Name
  pub clock : Name
  pub reset_signal : Name
  pub reset_active : ℕ
  pub reset_cycles : ℕ
  pub assume : List Expression
  pub invariants : List Expression
  pub start : Expression
  pub states : Entries Expression
  pub inputs : Entries Expression
  pub instructions : List InstructionMap

-- what is claimed: that the source refines the model under the map
pub record Setting : Type 0 where
  pub model : Model
  pub source : Source
  pub map : Map

abbrev pub design_of : Setting → Design
design_of s = record { source = s.source; top = s.map.top; clock = s.map.clock }

-- a character in front of the first part
abbrev pub with_character : ℕ → List Name → List Name
with_character c [] = (c ∷ []) ∷ []
with_character c (part ∷ parts) = (c ∷ part) ∷ parts

-- the parts of a name between its dots
abbrev pub dotted_parts : Name → List Name
dotted_parts [] = [] ∷ []
dotted_parts (c ∷ cs) = cond (c == 46) ([] ∷ dotted_parts cs) (with_character c (dotted_parts cs))

abbrev pub object_in : Option Placed → Name → Object
object_in None n = undeclared
object_in (Some p) n = placed_scope p n

-- what the last part means within the instances that the other parts lead to
abbrev pub object_at : Design → List PathStep → List Name → Object
object_at d path [] = undeclared
object_at d path (n ∷ []) = object_in (at_path d path) n
object_at d path (u ∷ n ∷ parts) = object_at d (instance_step u ∷ path) (n ∷ parts)

-- The scope of the map's expressions: the top's names, and dotted paths into instances.
abbrev pub map_scope : Setting → Scope
map_scope s n = object_at (design_of s) [] (dotted_parts n)

-- a condition of the map holds in a valuation of the design
abbrev pub condition_holds : Setting → Valuation → Expression → Bool
condition_holds s v e = is_true (map_scope s) v e

-- the words of the memory that a path names
abbrev pub mapped_memory : Valuation → Expression → List ℕ
mapped_memory v (a_number k) = []
mapped_memory v (name n x) = as_words (v n)
mapped_memory v (concatenation es) = []
mapped_memory v (replication k es) = []
mapped_memory v (as_signed x) = []
mapped_memory v (as_unsigned x) = []
mapped_memory v (unary op x) = []
mapped_memory v (reduction op x) = []
mapped_memory v (binary op x y) = []
mapped_memory v (shift op x n) = []
mapped_memory v (power x n) = []
mapped_memory v (comparison op x y) = []
mapped_memory v (logical op x y) = []
mapped_memory v (conditional c x y) = []

-- What an expression gives a state or input of a sort. A memory's is the path of a memory.
abbrev pub mapped_value : Setting → Valuation → Sort → Expression → Value
mapped_value s v truth e = truth_value (is_true (map_scope s) v e)
mapped_value s v (word w) e = number (self_value (map_scope s) v e)
mapped_value s v (memory a d) e = words (mapped_memory v e)

abbrev pub mapped_or_zero : Setting → Valuation → Option Sort → Option Expression → Value
mapped_or_zero s v (Some t) (Some e) = mapped_value s v t e
mapped_or_zero s v _ _ = number 0

abbrev pub sort_of_state : Option StateDeclaration → Option Sort
sort_of_state (Some d) = Some d.sort
sort_of_state None = None

abbrev pub sort_of_input : List InputDeclaration → Name → Option Sort
sort_of_input [] n = None
sort_of_input (i ∷ is) n = cond (same_name i.input_name n) (Some i.sort) (sort_of_input is n)

-- The mapped states in a valuation of the design: each state of the model has its expression's value.
abbrev pub mapped_state : Setting → Valuation → Valuation
mapped_state s v n = mapped_or_zero s v (sort_of_state (state_named (states_of s.model.top) n)) (entry_of s.map.states n)

-- The mapped inputs.
abbrev pub mapped_inputs : Setting → Valuation → Valuation
mapped_inputs s v n = mapped_or_zero s v (sort_of_input s.model.inputs n) (entry_of s.map.inputs n)

abbrev pub instruction_map : List InstructionMap → Name → Option InstructionMap
instruction_map [] n = None
instruction_map (i ∷ is) n = cond (same_name i.called n) (Some i) (instruction_map is n)
