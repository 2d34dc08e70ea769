-- Small models with their maps, their bounds and their sizes, one with an emitted module, and what an emitted module of some others does.
use Rattle.std.specs.Prelude.{◌≡◌, ℕ, true, false, ◌++◌, List, [], ◌∷◌, None, Some, codes, suc, ◌<◌, slice_index}
use Rattle.wb_values.specs.Value.{Name, truth, word, memory, truth_value, as_number, as_words}
use Rattle.model_meaning.specs.Term as term
use Rattle.model_meaning.specs.Model.{Model, StateDeclaration, Machine, machine, Instruction, instruction, no_instructions, and_then, no_child, child}
use Rattle.model_meaning.specs.Worked.{counter, multiplier, always}
use Rattle.verilog_trees.specs.Syntax.{Module, Statement, nonblocking, if_then, if_else, reduction, is_zero, place, whole, input, output, Direction, PortDeclaration, declared, variables, assign, always as always_block, on_events, posedge}
use Rattle.verilog_meaning.specs.Worked.{reading, sized_number}
use Rattle.refinement.specs.Run.{Run, IsRun, IsResetAt}
use Rattle.refinement.specs.Refinement.{state_at, inputs_at, StartsAt}
use Rattle.emitted_designs.specs.Bounds.{greatest_bound}
use Rattle.emitted_designs.specs.Size.{model_size}
use Rattle.emitted_designs.specs.Names.{clock_name, reset_name, go_name, start_name, commit_name}
use Rattle.emitted_designs.specs.Map.{setting_of, written_map, map_text}
use Rattle.emitted_designs.specs.Emits.{IsEmittedModule}
use Rattle.emitted_designs.specs.Cycles.{HasCommitAt, IsAtRest}

-- the text of the counter's map
abbrev pub counter_map_text : List ℕ
counter_map_text =
    codes "{\"assume\":[],\"clock\":\"wb_clk\",\"inputs\":{\"op\":\"op\"},\"instructions\":["
    ++ codes "{\"bound\":1,\"commit\":\"wb_commit\",\"name\":\"INC\"},{\"bound\":1,\"commit\":\"wb_commit\",\"name\":\"CLR\"}"
    ++ codes "],\"invariants\":[],\"reset\":{\"active\":1,\"cycles\":1,\"signal\":\"wb_rst\"},\"start\":\"wb_start\","
    ++ codes "\"states\":{\"cnt\":\"cnt\"},\"top\":\"counter\",\"version\":1}"

abbrev pub CounterHasItsMap : Type 0
CounterHasItsMap = map_text (written_map counter) ≡ counter_map_text

-- the text of the map of a multiplier whose child may take 254 steps
abbrev pub multiplier_map_text : List ℕ
multiplier_map_text =
    codes "{\"assume\":[],\"clock\":\"wb_clk\",\"inputs\":{\"x\":\"x\",\"y\":\"y\"},\"instructions\":["
    ++ codes "{\"bound\":256,\"commit\":\"wb_commit\",\"name\":\"MUL\"}"
    ++ codes "],\"invariants\":[\"wb_busy == 0\"],\"reset\":{\"active\":1,\"cycles\":1,\"signal\":\"wb_rst\"},\"start\":\"wb_start\","
    ++ codes "\"states\":{\"p\":\"p\"},\"top\":\"mul\",\"version\":1}"

abbrev pub MultiplierHasItsMap : Type 0
MultiplierHasItsMap = map_text (written_map (multiplier always 254)) ≡ multiplier_map_text

-- With one step more its bound is more than a map may state.
abbrev pub MultiplierHasItsBound : Type 0
MultiplierHasItsBound = greatest_bound (multiplier always 255) ≡ 257

-- 1 state, 1 input, 2 instructions with an update each, and 1 + 2 * 3 + 3 + 1 nodes
abbrev pub CounterHasItsSize : Type 0
CounterHasItsSize = model_size counter ≡ 17

-- ---- a module

-- A switch: FLIP turns its one state, which is false at first.
abbrev pub position : Name
position = codes "f"

abbrev pub position_state : StateDeclaration
position_state = record { state_name = position; sort = truth; init = Some (truth_value false) }

abbrev pub flip : Instruction
flip = instruction (codes "FLIP") (term.constant_truth true) ((position, term.not (term.name position truth)) ∷ []) no_child

abbrev pub switch : Model
switch = record {
  model_name = codes "switch";
  inputs = [];
  top = machine (position_state ∷ []) (term.constant_truth true) (and_then flip no_instructions);
}

abbrev pub one_bit_ports : Direction → List Name → PortDeclaration
one_bit_ports d ns = record { direction = d; kind = None; signed = false; range = None; names = ns }

-- if (wb_rst) f <= 1'b0; else if (wb_go) f <= !f;
abbrev pub switch_block : Statement
switch_block =
    if_else (reading reset_name) (nonblocking (place position whole) (sized_number 1 0))
    (if_then (reading go_name) (nonblocking (place position whole) (reduction is_zero (reading position))))

-- Its design: wb_start and wb_commit are wb_go.
abbrev pub switch_module : Module
switch_module = record {
  module_name = codes "switch";
  parameters = [];
  ports = declared (one_bit_ports input (clock_name ∷ reset_name ∷ go_name ∷ []) ∷ one_bit_ports output (start_name ∷ commit_name ∷ []) ∷ []);
  items =
      variables false None ((position, None) ∷ [])
      ∷ assign ((place start_name whole, reading go_name) ∷ (place commit_name whole, reading go_name) ∷ [])
      ∷ always_block (on_events (record { edge = posedge; signal = clock_name } ∷ [])) switch_block
      ∷ [];
}

abbrev pub SwitchIsEmitted : Type 0
SwitchIsEmitted = IsEmittedModule switch switch_module

-- ---- a memory

-- A model whose one instruction W stores two words at one address, first 1 and then 2.
abbrev pub memory_name : Name
memory_name = codes "m"

abbrev pub address_name : Name
address_name = codes "a"

abbrev pub write_twice : Instruction
write_twice =
    instruction (codes "W") (term.constant_truth true)
    ((
      memory_name,
      term.store (term.store (term.name memory_name (memory 2 4)) (term.name address_name (word 2)) (term.const 4 1))
          (term.name address_name (word 2)) (term.const 4 2),
    )
    ∷ [])
    no_child

abbrev pub writer : Model
writer = record {
  model_name = codes "writer";
  inputs = record { input_name = address_name; sort = word 2 } ∷ [];
  top = machine (record { state_name = memory_name; sort = memory 2 4; init = None } ∷ []) (term.constant_truth true)
      (and_then write_twice no_instructions);
}

-- In each emitted module of it the last store of the chain stands: after the edge of a start without reset, the word at the address is 2, if
-- that is one of the four addresses.
abbrev pub LastStoreStands : Type 0
LastStoreStands =
    (x : Module) (run : Run) (cycles t : ℕ) → IsEmittedModule writer x → IsRun (setting_of writer x) run cycles → t < cycles
    → ¬ IsResetAt (setting_of writer x) run t → StartsAt (setting_of writer x) run t
    → as_number (inputs_at (setting_of writer x) run t address_name) < 4
    → slice_index (as_words (state_at (setting_of writer x) run (suc t) memory_name))
    (as_number (inputs_at (setting_of writer x) run t address_name))
    ≡ 2

-- ---- a child program

-- TAKE clears f, and its child takes one step, which sets f to the input d. The child's private state k is false at first.
abbrev pub flag : Name
flag = codes "k"

abbrev pub data_name : Name
data_name = codes "d"

abbrev pub step_once : Instruction
step_once =
    instruction (codes "STEP") (term.constant_truth true)
    ((position, term.name data_name truth) ∷ (flag, term.constant_truth true) ∷ []) no_child

abbrev pub once : Machine
once =
    machine (record { state_name = flag; sort = truth; init = Some (truth_value false) } ∷ []) (term.not (term.name flag truth))
    (and_then step_once no_instructions)

abbrev pub take_once : Instruction
take_once =
    instruction (codes "TAKE") (term.constant_truth true) ((position, term.constant_truth false) ∷ [])
    (child 1 once)

abbrev pub taker : Model
taker = record {
  model_name = codes "taker";
  inputs = record { input_name = data_name; sort = truth } ∷ [];
  top = machine (position_state ∷ []) (term.constant_truth true) (and_then take_once no_instructions);
}

-- In each emitted module of it, from a start without reset: the step is taken a cycle later, and the command ends in the cycle after that,
-- not before; till then no other starts; and f is then the input at the start, whatever the input was later, at each command anew.
abbrev pub ChildRuns : Type 0
ChildRuns =
    (x : Module) (run : Run) (cycles t : ℕ) → IsEmittedModule taker x → IsRun (setting_of taker x) run cycles → suc (suc t) < cycles
    → ¬ IsResetAt (setting_of taker x) run t → ¬ IsResetAt (setting_of taker x) run (suc t) → ¬ IsResetAt (setting_of taker x) run (suc (suc t))
    → StartsAt (setting_of taker x) run t
    → ¬ HasCommitAt (setting_of taker x) run t × ¬ HasCommitAt (setting_of taker x) run (suc t)
    × ¬ StartsAt (setting_of taker x) run (suc t) × ¬ StartsAt (setting_of taker x) run (suc (suc t))
    × HasCommitAt (setting_of taker x) run (suc (suc t)) × IsAtRest (setting_of taker x) run (suc (suc (suc t)))
    × (state_at (setting_of taker x) run (suc (suc (suc t))) position ≡ inputs_at (setting_of taker x) run t data_name)

-- With reset in the cycle in which the child would end there is no commit, and the design is at rest after it, with the initial value.
abbrev pub ResetEndsNothing : Type 0
ResetEndsNothing =
    (x : Module) (run : Run) (cycles t : ℕ) → IsEmittedModule taker x → IsRun (setting_of taker x) run cycles → suc (suc t) < cycles
    → ¬ IsResetAt (setting_of taker x) run t → ¬ IsResetAt (setting_of taker x) run (suc t) → IsResetAt (setting_of taker x) run (suc (suc t))
    → StartsAt (setting_of taker x) run t
    → ¬ HasCommitAt (setting_of taker x) run (suc (suc t)) × IsAtRest (setting_of taker x) run (suc (suc (suc t)))
    × (state_at (setting_of taker x) run (suc (suc (suc t))) position ≡ truth_value false)

-- A model with a child in a child: LOOK has a child whose one instruction OUTER sets its private state g, and has a child of its own as above.
abbrev pub outer_flag : Name
outer_flag = codes "g"

abbrev pub outer : Instruction
outer = instruction (codes "OUTER") (term.constant_truth true) ((outer_flag, term.constant_truth true) ∷ []) (child 1 once)

abbrev pub around_once : Machine
around_once =
    machine (record { state_name = outer_flag; sort = truth; init = Some (truth_value false) } ∷ []) (term.not (term.name outer_flag truth))
    (and_then outer no_instructions)

abbrev pub look : Instruction
look = instruction (codes "LOOK") (term.constant_truth true) ((position, term.constant_truth false) ∷ []) (child 1 around_once)

abbrev pub nester : Model
nester = record {
  model_name = codes "nester";
  inputs = record { input_name = data_name; sort = truth } ∷ [];
  top = machine (position_state ∷ []) (term.constant_truth true) (and_then look no_instructions);
}

-- In each emitted module of it, from a start with no reset in sight, the inner child ends in the third cycle after the start, without a commit,
-- and the outer one in the fourth, with one.
abbrev pub InnerChildEndsAlone : Type 0
InnerChildEndsAlone =
    (x : Module) (run : Run) (cycles t : ℕ) → IsEmittedModule nester x → IsRun (setting_of nester x) run cycles → suc (suc (suc (suc t))) < cycles
    → ((u : ℕ) → ¬ IsResetAt (setting_of nester x) run u) → StartsAt (setting_of nester x) run t
    → ¬ HasCommitAt (setting_of nester x) run (suc (suc (suc t))) × HasCommitAt (setting_of nester x) run (suc (suc (suc (suc t))))
    × (state_at (setting_of nester x) run (suc (suc (suc (suc (suc t))))) position ≡ inputs_at (setting_of nester x) run t data_name)
