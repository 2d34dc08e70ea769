-- What one instruction does at a state under inputs, whether or not it starts there.
use Rattle.std.specs.Prelude.{◌≡◌, ℕ, List, Option, Some, None}
use Rattle.wb_values.specs.Value.{Value}
use Rattle.model_meaning.specs.Model.{Model, Instruction, holds, decode_of, point_of}
use Rattle.model_meaning.specs.Instruction.{IsInstruction, Does, HasTrouble, Trouble}
use Rattle.ila_child.specs.declared.applying.Applied.{Applied}
use Rattle.ila_child.specs.declared.stepping.Stepped.{Stepped}
use Rattle.ila_child.specs.declared.stepping.Stepped.TheVariants.{Next, NotValid, NoInstruction, Several, ChildStuck, ChildTooLong}
use Rattle.ila_child.specs.State.{IsStateOf, state_valuation, input_valuation}

-- Where an instruction leads: to this state of the model, or nowhere, since a child program does not end.
abbrev pub LeadsTo : Model → Instruction → (q w : List Value) → Option (List Value) → Type 0
LeadsTo m i q w (Some r) = Does m i (state_valuation m q) (input_valuation m w) (state_valuation m r) × IsStateOf m r
LeadsTo m i q w None = (t : Trouble) × HasTrouble m i (state_valuation m q) (input_valuation m w) t

-- What instruction number j of the model does: whether its decode condition holds, and where it leads.
pub record IsApplied (m : Model) (j : ℕ) (q w : List Value) (a : Applied) : Type 0 where
  pub i : Instruction
  pub is_j : IsInstruction m j i
  pub decodes : a.decodes ≡ holds (decode_of i) (point_of m (state_valuation m q) (input_valuation m w))
  pub leads : LeadsTo m i q w a.state

-- the state that the answer of a step leads to
abbrev pub state_of_step : Stepped → Option (List Value)
state_of_step (Next j r) = Some r
state_of_step NotValid = None
state_of_step NoInstruction = None
state_of_step (Several j k) = None
state_of_step (ChildStuck d s) = None
state_of_step (ChildTooLong d) = None
