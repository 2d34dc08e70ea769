-- Small models with what the definitions give for them.
use Rattle.std.specs.Prelude.{ℕ, true, [], ◌∷◌, Some, codes}
use Rattle.wb_values.specs.Value.{Name, word, number, Valuation, valuation_of}
use Rattle.model_meaning.specs.Term.{Term}
use Rattle.model_meaning.specs.Term as term
use Rattle.model_meaning.specs.Model.{Model, machine, Instruction, instruction, no_instructions, and_then, no_child, child}

-- A counter: INC adds one where op is 1, CLR sets 0 where op is 0.
abbrev pub op : Term
op = term.name (codes "op") (word 1)

abbrev pub cnt : Term
cnt = term.name (codes "cnt") (word 8)

abbrev pub increment : Instruction
increment = instruction (codes "INC") (term.eq op (term.const 1 1)) ((codes "cnt", term.add cnt (term.const 8 1)) ∷ []) no_child

abbrev pub clear : Instruction
clear = instruction (codes "CLR") (term.eq op (term.const 1 0)) ((codes "cnt", term.const 8 0) ∷ []) no_child

abbrev pub counter : Model
counter = record {
  model_name = codes "counter";
  inputs = record { input_name = codes "op"; sort = word 1 } ∷ [];
  top = machine (record { state_name = codes "cnt"; sort = word 8; init = Some (number 0) } ∷ []) (term.constant_truth true)
      (and_then increment (and_then clear no_instructions));
}

-- A multiplier by shifts and additions: MUL clears p, and its child adds x shifted by i where bit i of y is set.
abbrev pub state_p : Term
state_p = term.name (codes "p") (word 8)

abbrev pub counter_i : Term
counter_i = term.name (codes "i") (word 3)

abbrev pub factor : Name → Term
factor n = term.name n (word 4)

abbrev pub step_instruction : Term → Instruction
step_instruction decode =
    instruction (codes "STEP") decode
    ((
      codes "p",
      term.ite (term.eq (term.extract 0 0 (term.lshr (factor (codes "y")) (term.zext 4 counter_i))) (term.const 1 1))
          (term.add state_p (term.shl (term.zext 8 (factor (codes "x"))) (term.zext 8 counter_i)))
          state_p,
    )
    ∷ (codes "i", term.add counter_i (term.const 3 1))
    ∷ [])
    no_child

-- what a step does where the next decodes, with so many steps at most
abbrev pub multiply : Term → ℕ → Instruction
multiply decode steps =
    instruction (codes "MUL") (term.constant_truth true) ((codes "p", term.const 8 0) ∷ [])
    (child steps
    (machine (record { state_name = codes "i"; sort = word 3; init = Some (number 0) } ∷ []) (term.ult counter_i (term.const 3 4))
    (and_then (step_instruction decode) no_instructions)))

abbrev pub multiplier : Term → ℕ → Model
multiplier decode steps = record {
  model_name = codes "mul";
  inputs = record { input_name = codes "x"; sort = word 4 } ∷ record { input_name = codes "y"; sort = word 4 } ∷ [];
  top = machine (record { state_name = codes "p"; sort = word 8; init = Some (number 0) } ∷ []) (term.constant_truth true)
      (and_then (multiply decode steps) no_instructions);
}

-- the condition i < 2 of a step that decodes twice alone
abbrev pub low : Term
low = term.ult counter_i (term.const 3 2)

abbrev pub always : Term
always = term.constant_truth true

-- a state of the multiplier, and its inputs
abbrev pub product : ℕ → Valuation
product x = valuation_of ((codes "p", number x) ∷ [])

abbrev pub factors : ℕ → ℕ → Valuation
factors x y = valuation_of ((codes "x", number x) ∷ (codes "y", number y) ∷ [])
