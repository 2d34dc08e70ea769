-- What a model does at a state under inputs: it takes a step, or it does not, for one of four causes.
use Rattle.std.specs.Prelude.{ℕ}
use Rattle.wb_values.specs.Value.{Valuation}
use Rattle.model_meaning.specs.Model.{Model, Instruction}
use Rattle.model_meaning.specs.Instruction.{Steps, IsValidAt, IsInstruction, IsStarted, NoneDecodesAt, AreFirstTwoDecoded, Trouble, HasTrouble}

-- An instruction, by its number, leads to a next state; the valid condition fails; no instruction decodes; several do, of which
-- the first two are named; or a child program of the instruction that starts does not come to its end.
pub data Outcome : Type 0 where
  next : (instruction : ℕ) → (state : Valuation) → Outcome
  not_valid no_instruction : Outcome
  several : (first second : ℕ) → Outcome
  trouble : Trouble → Outcome

-- Instruction number j starts at q under w, and its child has this trouble, the first in the order of execution.
pub record IsTroubled (m : Model) (q w : Valuation) (t : Trouble) : Type 0 where
  pub j : ℕ
  pub i : Instruction
  pub started : IsStarted m q w j
  pub is_j : IsInstruction m j i
  pub has_trouble : HasTrouble m i q w t

abbrev pub IsOutcome : Model → (q w : Valuation) → Outcome → Type 0
IsOutcome m q w (next j r) = IsStarted m q w j × Steps m q w r
IsOutcome m q w not_valid = ¬ IsValidAt m q w
IsOutcome m q w no_instruction = IsValidAt m q w × NoneDecodesAt m q w
IsOutcome m q w (several j k) = IsValidAt m q w × AreFirstTwoDecoded m q w j k
IsOutcome m q w (trouble t) = IsTroubled m q w t

-- Where there is no next state the state stays.
abbrev pub state_after : Valuation → Outcome → Valuation
state_after q (next j r) = r
state_after q _ = q
