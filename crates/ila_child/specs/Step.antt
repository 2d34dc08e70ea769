-- What each answer of a step says. The causes of the answers exclude each other, so each answer comes exactly where its cause holds.
use Rattle.std.specs.Prelude.{List, ⊤}
use Rattle.wb_values.specs.Value.{Value, Valuation}
use Rattle.model_meaning.specs.Model.{Model}
use Rattle.model_meaning.specs.Instruction.{stuck, too_long}
use Rattle.model_meaning.specs.Outcome.{Outcome, next, not_valid, no_instruction, several, trouble, IsOutcome}
use Rattle.ila_child.specs.declared.stepping.Stepped.{Stepped}
use Rattle.ila_child.specs.declared.stepping.Stepped.TheVariants.{Next, NotValid, NoInstruction, Several, ChildStuck, ChildTooLong}
use Rattle.ila_child.specs.State.{IsStateOf, state_valuation, input_valuation}

-- What the answer of a step stands for.
abbrev pub outcome_view : Model → Stepped → Outcome
outcome_view m (Next j r) = next j (state_valuation m r)
outcome_view m NotValid = not_valid
outcome_view m NoInstruction = no_instruction
outcome_view m (Several j k) = several j k
outcome_view m (ChildStuck d s) = trouble (stuck d s)
outcome_view m (ChildTooLong d) = trouble (too_long d)

-- A state that a step leads to has a value for each state of the model, of its sort.
abbrev pub IsWell : Model → Stepped → Type 0
IsWell m (Next j r) = IsStateOf m r
IsWell m _ = ⊤

-- The answer at a state and inputs, as valuations.
abbrev pub IsAnswer : Model → (q w : Valuation) → Stepped → Type 0
IsAnswer m q w a = IsOutcome m q w (outcome_view m a) × IsWell m a

-- The answer at a state and inputs of the model, as lists of values.
abbrev pub IsStepped : Model → (q w : List Value) → Stepped → Type 0
IsStepped m q w a = IsAnswer m (state_valuation m q) (input_valuation m w) a
