-- What a map file is judged by besides itself: a model and a Verilog source.
use Rattle.std.specs.Prelude.{Bool, List, [], ◌++◌, ◌∷◌, map, Option, cond}
use Rattle.wb_values.specs.Value.{Name, Sort, Entries}
use Rattle.model_meaning.specs.Model.{Model, states_of, state_named}
use Rattle.model_meaning.specs.Invariant.{is_memory_state}
use Rattle.verilog_trees.specs.Syntax.{Source}
use Rattle.verilog_meaning.specs.Settled.{Design}
use Rattle.refinement.specs.Map.{sort_of_state, sort_of_input}
use Rattle.map_files.specs.Written.{Text, WrittenMap}

-- a written map, a model, and the source whose top and clock the map names
pub record MapCase : Type 0 where
  pub written : WrittenMap
  pub model : Model
  pub source : Source

abbrev pub case_design : MapCase → Design
case_design c = record { source = c.source; top = c.written.top; clock = c.written.clock }

-- ---- what the model declares

abbrev pub input_names : Model → List Name
input_names m = map (λ i. i.input_name) m.inputs

-- of a state of the model itself: those of children are private
abbrev pub state_sort : Model → Name → Option Sort
state_sort m n = sort_of_state (state_named (states_of m.top) n)

abbrev pub input_sort : Model → Name → Option Sort
input_sort m n = sort_of_input m.inputs n

abbrev pub is_memory_named : Model → Name → Bool
is_memory_named m n = is_memory_state (state_named (states_of m.top) n)

-- ---- what the map names

abbrev pub entry_names : Entries Text → List Name
entry_names es = map (λ e. e.0) es

abbrev pub called_names : WrittenMap → List Name
called_names w = map (λ i. i.called) w.instructions

-- the texts of the states that are no memories
abbrev pub value_texts : Model → Entries Text → List Text
value_texts m [] = []
value_texts m (e ∷ es) = cond (is_memory_named m e.0) (value_texts m es) (e.1 ∷ value_texts m es)

-- All expressions of the map: each text but those of memories, which are paths.
abbrev pub expression_texts : MapCase → List Text
expression_texts c =
    c.written.assume ++ (c.written.invariants ++ c.written.start
    ∷ (value_texts c.model c.written.states ++ (map (λ e. e.1) c.written.inputs ++ map (λ i. i.commit) c.written.instructions)))
