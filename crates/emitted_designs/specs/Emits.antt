-- What it is that two texts are the emitted design of a model and its map.
use Rattle.std.specs.Prelude.{◌≡◌, ℕ, ◌<◌, ◌≤◌, List, [], ◌∷◌, ◌++◌, length, Contains}
use Rattle.wb_values.specs.Value.{Valuation, HasSort}
use Rattle.model_meaning.specs.Model.{Model, StateDeclaration, InputDeclaration, states_of}
use Rattle.model_meaning.specs.Instruction.{IsStarted, Steps}
use Rattle.verilog_trees.specs.Syntax.{Module, Source}
use Rattle.verilog_text.specs.Text.{with_files, tokens_read, most_tokens}
use Rattle.verilog_text.specs.Grammar.{IsSource, IsTreeOf}
use Rattle.verilog_designs.specs.Accepted.{IsAccepted}
use Rattle.refinement.specs.Map.{design_of}
use Rattle.refinement.specs.Run.{Run, IsRun}
use Rattle.map_rules.specs.Accepted.{MapOf}
use Rattle.emitted_designs.specs.Bounds.{greatest_bound, most_cycles, nesting_of}
use Rattle.emitted_designs.specs.Size.{most_bytes}
use Rattle.emitted_designs.specs.Map.{emitted_map, setting_of, written_map, map_text}
use Rattle.emitted_designs.specs.Module.{HasPortsOf, HasRegistersOf}
use Rattle.emitted_designs.specs.Cycles.{FollowsModel}

-- the most bytes of a file that is read
abbrev pub most_file_bytes : ℕ
most_file_bytes = 4194304

-- The text is that of the source: its tokens spell it, and where they are no more than the most tokens that are read, it is read as it.
pub record IsTextOf (text : List ℕ) (ms : Source) : Type 0 where
  pub is_spelled : IsSource ms (tokens_read (with_files (text ∷ []) []))
  pub is_read : length (tokens_read (with_files (text ∷ []) [])) ≤ most_tokens → IsTreeOf (text ∷ []) ms

-- The module is an emitted design of the model: it has the model's ports and registers, and each of its runs follows the model.
pub record IsEmittedModule (m : Model) (x : Module) : Type 0 where
  pub ports : HasPortsOf m x
  pub registers : HasRegistersOf m x
  pub runs : (run : Run) (cycles : ℕ) → IsRun (setting_of m x) run cycles → FollowsModel (setting_of m x) run cycles

-- The texts are an emitted design of the model and its map. The one is of a single module, which is an emitted design of the model and is
-- accepted as a design, so that it has runs; the other is the map, with the bounds of the instructions. Neither is longer than the model's
-- size allows.
pub record Emits (m : Model) (verilog refinement_map : List ℕ) : Type 0 where
  pub of_module : Module
  pub is_text : IsTextOf verilog (of_module ∷ [])
  pub is_emitted : IsEmittedModule m of_module
  pub is_design : IsAccepted (design_of (setting_of m of_module))
  pub is_map : refinement_map ≡ map_text (written_map m)
  pub is_short : length verilog ≤ most_bytes m
  pub map_is_short : length refinement_map ≤ most_bytes m

-- The texts are accepted, as the files of a check of the model: the one has the module as its tree, which is accepted as a design; the other is
-- accepted as a map for the model and the module, and stands for the emitted map. (The file of the map ends in a line feed, which its text does
-- not have.)
pub record AreAccepted (m : Model) (verilog refinement_map : List ℕ) (x : Module) : Type 0 where
  pub is_tree : IsTreeOf (verilog ∷ []) (x ∷ [])
  pub is_design : IsAccepted (design_of (setting_of m x))
  pub is_map_file : MapOf (refinement_map ++ 10 ∷ []) m (x ∷ []) (emitted_map m)

-- ---- what is answered for a model

pub data Emission : Type 0 where
  texts : (verilog refinement_map : List ℕ) → Emission
  -- the greatest bound, where it is more than a map may state
  bound_over : (greatest : ℕ) → Emission
  -- child programs nest deeper than is emitted yet
  not_yet : Emission

-- What is answered where child programs are emitted down to so many levels. Texts no longer than files may be are accepted.
pub data IsEmission (levels : ℕ) (m : Model) : Emission → Type 0 where
  is_emitted : (verilog refinement_map : List ℕ) → nesting_of m.top ≤ levels → greatest_bound m ≤ most_cycles
      → (e : Emits m verilog refinement_map)
      → (length verilog ≤ most_file_bytes → length refinement_map ≤ most_file_bytes → AreAccepted m verilog refinement_map e.of_module)
      → IsEmission levels m (texts verilog refinement_map)
  is_over : nesting_of m.top ≤ levels → most_cycles < greatest_bound m → IsEmission levels m (bound_over (greatest_bound m))
  is_not_yet : levels < nesting_of m.top → IsEmission levels m not_yet

-- ---- total models

-- each state and input has a value of its sort
pub record AreSorted (m : Model) (q w : Valuation) : Type 0 where
  pub states : (d : StateDeclaration) → Contains (states_of m.top) d → HasSort (q d.state_name) d.sort
  pub inputs : (i : InputDeclaration) → Contains m.inputs i → HasSort (w i.input_name) i.sort

-- The model is total: wherever an instruction starts, there is a next state.
abbrev pub IsTotal : Model → Type 0
IsTotal m = (q w : Valuation) (j : ℕ) → AreSorted m q w → IsStarted m q w j → (r : Valuation) × Steps m q w r
