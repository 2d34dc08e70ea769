-- What an instruction does with its child programs, as a function of the point at which it starts.
use Rattle.std.specs.Prelude.{◌≡◌, ◌↔◌, ℕ, zero, suc, ◌*◌, max, Bool, true, false, cond, not, ◌&&◌}
use Rattle.wb_values.specs.Value.{Valuation}
use Rattle.model_meaning.specs.Model.{Machine, machine, Instruction, instruction, Instructions, no_instructions, and_then, Child, no_child, child, Model, states_of, valid_of, holds, decode_of, updated, entered, left_behind, point_of}
use Rattle.model_meaning.specs.Instruction.{DoesInstruction, Does, own_states}

-- What some steps give: whether each of them is taken and each child in them ends, and the point after them, which says nothing where not.
pub record Result : Type 0 where
  pub ended : Bool
  pub point : Valuation

abbrev pub ended_at : Valuation → Result
ended_at p = record { ended = true; point = p }

abbrev pub failed_at : Valuation → Result
failed_at p = record { ended = false; point = p }

-- a further step at the point to which some steps led
abbrev pub followed : Result → (Valuation → Result) → Result
followed r step = record { ended = r.ended && (step r.point).ended; point = (step r.point).point }

-- so many steps, one after another
abbrev pub iterated : (Valuation → Result) → ℕ → Valuation → Result
iterated step zero p = ended_at p
iterated step (suc n) p = followed (iterated step n p) step

-- no instruction of the list decodes
abbrev pub none_decodes : Instructions → Valuation → Bool
none_decodes no_instructions p = true
none_decodes (and_then i is) p = cond (holds (decode_of i) p) false (none_decodes is p)

-- a result that counts only where a test holds
abbrev pub only_where : Bool → Result → Result
only_where b r = record { ended = b && r.ended; point = r.point }

-- The steps of a child lead out of it where its valid condition fails after them. Its private states are gone.
abbrev pub out_of : Machine → Valuation → Result → Result
out_of program before r =
    record { ended = r.ended && not (holds (valid_of program) r.point); point = left_behind (states_of program) before r.point }

abbrev mutual
  -- The updates of an instruction, and then its child.
  pub result_of : Instruction → Valuation → Result
  result_of (instruction called decode update program) p = child_result program (updated update p)

  -- A child begins with its private states, and is stepped as often as its limit says.
  pub child_result : Child → Valuation → Result
  child_result no_child p = ended_at p
  child_result (child steps program) p = out_of program p (iterated (stepped program) steps (entered (states_of program) p))

  -- A step of a machine where its valid condition holds; elsewhere it stays where it is.
  pub stepped : Machine → Valuation → Result
  stepped (machine states valid instructions) p = cond (holds valid p) (one_result instructions p) (ended_at p)

  -- The result of the instruction that alone decodes.
  pub one_result : Instructions → Valuation → Result
  one_result no_instructions p = failed_at p
  one_result (and_then i is) p = cond (holds (decode_of i) p) (only_where (none_decodes is p) (result_of i p)) (one_result is p)

-- The result ends, and its point is q.
abbrev pub IsEndedAt : Result → Valuation → Type 0
IsEndedAt r q = (r.ended ≡ true) × (q ≡ r.point)

-- An instruction leads from a point to another exactly where its result ends there.
abbrev pub InstructionDoesItsResult : Type 0
InstructionDoesItsResult = (i : Instruction) (p q : Valuation) → DoesInstruction i p q ↔ IsEndedAt (result_of i p) q

-- The result of instruction i at state q under inputs w.
abbrev pub result_at : Model → Instruction → (q w : Valuation) → Result
result_at m i q w = result_of i (point_of m q w)

-- An instruction of a model leads to state r exactly where its result ends, with r as the model's states in its point.
abbrev pub ModelDoesItsResult : Type 0
ModelDoesItsResult =
    (m : Model) (i : Instruction) (q w r : Valuation)
    → Does m i q w r ↔ (((result_at m i q w).ended ≡ true) × (r ≡ own_states m (result_at m i q w).point))

abbrev mutual
  -- How many steps of the innermost programs an instruction takes at most: those of its child, times those in one such step.
  pub unrolled : Instruction → ℕ
  unrolled (instruction called decode update program) = unrolled_child program

  pub unrolled_child : Child → ℕ
  unrolled_child no_child = 0
  unrolled_child (child steps program) = steps * unrolled_step program

  pub unrolled_step : Machine → ℕ
  unrolled_step (machine states valid instructions) = unrolled_most instructions

  -- The greatest such number among the instructions, and 1 where none of them has a child.
  pub unrolled_most : Instructions → ℕ
  unrolled_most no_instructions = 1
  unrolled_most (and_then i is) = max (unrolled i) (unrolled_most is)
