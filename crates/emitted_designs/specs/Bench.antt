-- The models of `bench`, and the line that tells what a check of their emitted designs finds.
use Rattle.std.specs.Prelude.{◌≡◌, ℕ, zero, suc, ◌+◌, ◌%◌, List, [], ◌∷◌, ◌++◌, Some, codes, decimal}
use Rattle.wb_values.specs.Value.{Name, word, number}
use Rattle.model_meaning.specs.Term as term
use Rattle.model_meaning.specs.Term.{Term}
use Rattle.model_meaning.specs.Model.{Model, StateDeclaration, machine, Instruction, instruction, Instructions, no_instructions, and_then, no_child}
use Rattle.refinement.specs.Obligation.{Obligation, obligations}
use Rattle.reports.specs.Encoding.{Spent}
use Rattle.reports.specs.Report.{Verdict, AreVerdicts, count_proved, count_failed, count_unknown, Ending, ending_of, spent_in}
use Rattle.emitted_designs.specs.Map.{emitted_map, setting_of}
use Rattle.emitted_designs.specs.Emits.{Emits, AreAccepted}

-- ---- the models

abbrev pub state_name_of : ℕ → Name
state_name_of i = codes "s" ++ decimal i

abbrev pub state_term : ℕ → Term
state_term i = term.name (state_name_of i) (word 8)

abbrev pub op_term : Term
op_term = term.name (codes "op") (word 7)

abbrev pub x_term : Term
x_term = term.name (codes "x") (word 8)

-- state i of 8 bits, which begins with i
abbrev pub bench_state : ℕ → StateDeclaration
bench_state i = record { state_name = state_name_of i; sort = word 8; init = Some (number i) }

-- Instruction i of n decodes where op is i, and adds the next state, exclusive or with x, to state i.
abbrev pub bench_instruction : (n i : ℕ) → Instruction
bench_instruction n i =
    instruction (codes "I" ++ decimal i) (term.eq op_term (term.const 7 i))
    ((state_name_of i, term.add (state_term i) (term.xor (state_term ((i + 1) % n)) x_term)) ∷ [])
    no_child

-- those from number i on, k of them
abbrev pub bench_states : (i k : ℕ) → List StateDeclaration
bench_states i zero = []
bench_states i (suc k) = bench_state i ∷ bench_states (suc i) k

abbrev pub bench_instructions : (n i k : ℕ) → Instructions
bench_instructions n i zero = no_instructions
bench_instructions n i (suc k) = and_then (bench_instruction n i) (bench_instructions n (suc i) k)

-- The model with n states.
abbrev pub bench_model : ℕ → Model
bench_model n = record {
  model_name = codes "bench";
  inputs = record { input_name = codes "op"; sort = word 7 } ∷ record { input_name = codes "x"; sort = word 8 } ∷ [];
  top = machine (bench_states 0 n) (term.ult op_term (term.const 7 n)) (bench_instructions n 0 n);
}

-- ---- the line

abbrev pub bench_line : (n : ℕ) → List Verdict → List ℕ
bench_line n vs =
    codes "bench states " ++ decimal n ++ codes " proved " ++ decimal (count_proved vs) ++ codes " failed " ++ decimal (count_failed vs)
    ++ codes " unknown " ++ decimal (count_unknown vs) ++ 10 ∷ []

abbrev pub bench_obligations : ℕ → List Obligation
bench_obligations n = obligations (bench_model n) (emitted_map (bench_model n))

-- The text tells what a check of an emitted design of the model with n states finds of its obligations, with this budget for each. The design
-- and its map are accepted when they are read again. Beside the text stand how the check ends, and what shows that the budget was spent.
pub record IsBench (n budget : ℕ) (text : List ℕ) (ending : Ending) (spent : List Spent) : Type 0 where
  pub verilog : List ℕ
  pub refinement_map : List ℕ
  pub emits : Emits (bench_model n) verilog refinement_map
  pub is_read_back : AreAccepted (bench_model n) verilog refinement_map emits.of_module
  pub verdicts : List Verdict
  pub are_verdicts : AreVerdicts (setting_of (bench_model n) emits.of_module) budget (bench_obligations n) verdicts
  pub is_text : text ≡ bench_line n verdicts
  pub none_failed : count_failed verdicts ≡ 0
  pub is_ending : ending ≡ ending_of verdicts
  pub are_spent : spent ≡ spent_in verdicts
