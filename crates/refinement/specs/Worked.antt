-- Small maps, with the names of the obligations that they have.
use Rattle.std.specs.Prelude.{◌≡◌, ℕ, List, [], ◌∷◌, codes}
use Rattle.wb_values.specs.Value.{Name}
use Rattle.model_meaning.specs.Worked.{counter}
use Rattle.verilog_trees.specs.Syntax.{Expression}
use Rattle.verilog_meaning.specs.Worked.{reading, unsized_number}
use Rattle.refinement.specs.Map.{Map, InstructionMap}
use Rattle.refinement.specs.Obligation.{Obligation, obligations}

abbrev pub instruction_entry : Name → Expression → ℕ → InstructionMap
instruction_entry n e b = record { called = n; commit = e; bound = b }

abbrev pub counter_map : Map
counter_map = record {
  top = codes "counter";
  clock = codes "clk";
  reset_signal = codes "rst";
  reset_active = 1;
  reset_cycles = 1;
  assume = [];
  invariants = [];
  start = reading (codes "go");
  states = (codes "cnt", reading (codes "cnt")) ∷ [];
  inputs = (codes "op", reading (codes "op")) ∷ [];
  instructions = instruction_entry (codes "INC") (unsized_number 1) 1 ∷ instruction_entry (codes "CLR") (unsized_number 1) 1 ∷ [];
}

abbrev pub obligation_names : List Obligation → List Name
obligation_names [] = []
obligation_names (o ∷ os) = o.called ∷ obligation_names os

-- Its seven obligations, by name and in order.
abbrev pub counter_names : List Name
counter_names =
    codes "reset.init.cnt" ∷ codes "idle.state.cnt" ∷ codes "decode" ∷ codes "bound.INC" ∷ codes "commit.INC.0.state.cnt" ∷ codes "bound.CLR"
    ∷ codes "commit.CLR.0.state.cnt" ∷ []

abbrev pub CounterHasItsObligations : Type 0
CounterHasItsObligations = obligation_names (obligations counter counter_map) ≡ counter_names

abbrev pub multiplier_map : ℕ → Map
multiplier_map bound = record {
  top = codes "mul";
  clock = codes "clk";
  reset_signal = codes "rst";
  reset_active = 1;
  reset_cycles = 1;
  assume = [];
  invariants = reading (codes "idle") ∷ [];
  start = reading (codes "begin");
  states = (codes "p", reading (codes "acc")) ∷ [];
  inputs = (codes "x", reading (codes "x")) ∷ (codes "y", reading (codes "y")) ∷ [];
  instructions = instruction_entry (codes "MUL") (reading (codes "done")) bound ∷ [];
}
