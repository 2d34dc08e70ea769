-- What one instruction does, its child program run to its end, and runs of a model over inputs.
use Rattle.std.specs.Prelude.{◌≡◌, ℕ, zero, suc, ◌<◌, ◌≤◌, cond, List, [], ◌∷◌, ◌⊎◌, ◌≢◌, IsTrue, IsFalse, slice_get, Some, is_some, ⊤}
use Rattle.wb_values.specs.Value.{Name, number, Valuation}
use Rattle.model_meaning.specs.Model.{Machine, machine, Instruction, instruction, Instructions, no_instructions, and_then, Child, no_child, child, Model, valid_of, holds, decode_of, updated, entered, left_behind, instructions_in, point_of, states_of, state_named}

-- n steps of a relation lead from one point to another
abbrev pub Reaches : (Valuation → Valuation → Type 0) → ℕ → Valuation → Valuation → Type 0
Reaches step zero p q = p ≡ q
Reaches step (suc n) p q = (r : Valuation) × step p r × Reaches step n r q

-- no instruction of the list decodes at the point
abbrev pub NoneDecodes : Instructions → Valuation → Type 0
NoneDecodes no_instructions p = ⊤
NoneDecodes (and_then i is) p = IsFalse (holds (decode_of i) p) × NoneDecodes is p

abbrev pub SomeDecodes : Instructions → Valuation → Type 0
SomeDecodes no_instructions p = ⊥
SomeDecodes (and_then i is) p = IsTrue (holds (decode_of i) p) ⊎ SomeDecodes is p

abbrev mutual
  -- The instruction leads from p to q: its updates are applied, and then its child's steps are taken.
  pub DoesInstruction : Instruction → (p q : Valuation) → Type 0
  DoesInstruction (instruction called decode update program) p q = DoesChild program (updated update p) q

  -- Without a child nothing follows. A child's private states take their initial values; at most so many of its steps are
  -- taken; its valid condition fails behind the last of them; and its private states are gone.
  pub DoesChild : Child → (p q : Valuation) → Type 0
  DoesChild no_child p q = q ≡ p
  DoesChild (child steps program) p q =
      (n : ℕ) × (n ≤ steps) × (last : Valuation) × Reaches (DoesStep program) n (entered (states_of program) p) last
      × IsFalse (holds (valid_of program) last) × (q ≡ left_behind (states_of program) p last)

  -- One step of a machine: its valid condition holds, exactly one instruction decodes, and it does so.
  pub DoesStep : Machine → (p q : Valuation) → Type 0
  DoesStep (machine states valid instructions) p q = IsTrue (holds valid p) × DoesOne instructions p q

  -- Exactly one instruction of the list decodes, and it does so: the first does and no other, or the first does not and one
  -- of the others does.
  pub DoesOne : Instructions → (p q : Valuation) → Type 0
  DoesOne no_instructions p q = ⊥
  DoesOne (and_then i is) p q =
      (IsTrue (holds (decode_of i) p) × NoneDecodes is p × DoesInstruction i p q)
      ⊎ (IsFalse (holds (decode_of i) p) × DoesOne is p q)

-- The two give each state of the model the same value.
abbrev pub SameStates : Model → Valuation → Valuation → Type 0
SameStates m p q = (n : Name) → IsTrue (is_some (state_named (states_of m.top) n)) → p n ≡ q n

-- The state in a point: each state of the model has its value, and every other name is 0.
abbrev pub own_states : Model → Valuation → Valuation
own_states m p n = cond (is_some (state_named (states_of m.top) n)) (p n) (number 0)

-- Instruction i of the model leads from state q under inputs w to state r.
abbrev pub Does : Model → Instruction → (q w r : Valuation) → Type 0
Does m i q w r = (after : Valuation) × DoesInstruction i (point_of m q w) after × (r ≡ own_states m after)

-- The model's valid condition and exactly one decode condition hold at q under w, and this instruction leads to r.
abbrev pub Steps : Model → (q w r : Valuation) → Type 0
Steps m q w r = (after : Valuation) × DoesStep m.top (point_of m q w) after × (r ≡ own_states m after)

-- The valid condition holds at q under w.
abbrev pub IsValidAt : Model → (q w : Valuation) → Type 0
IsValidAt m q w = IsTrue (holds (valid_of m.top) (point_of m q w))

-- The decode condition of instruction i holds.
abbrev pub DecodesAt : Model → (q w : Valuation) → Instruction → Type 0
DecodesAt m q w i = IsTrue (holds (decode_of i) (point_of m q w))

-- i is the model's instruction number j
abbrev pub IsInstruction : Model → ℕ → Instruction → Type 0
IsInstruction m j i = slice_get (instructions_in m.top) j ≡ Some i

-- Instruction number j decodes and no other does.
pub record IsOnlyDecoded (m : Model) (q w : Valuation) (j : ℕ) : Type 0 where
  pub i : Instruction
  pub is_j : IsInstruction m j i
  pub decoded : DecodesAt m q w i
  pub no_other : (k : ℕ) (other : Instruction) → IsInstruction m k other → k ≢ j → ¬ DecodesAt m q w other

-- The instruction that starts at q under w: the valid condition holds, and it alone decodes.
pub record IsStarted (m : Model) (q w : Valuation) (j : ℕ) : Type 0 where
  pub valid : IsValidAt m q w
  pub alone : IsOnlyDecoded m q w j

-- No instruction decodes.
abbrev pub NoneDecodesAt : Model → (q w : Valuation) → Type 0
NoneDecodesAt m q w = (k : ℕ) (i : Instruction) → IsInstruction m k i → ¬ DecodesAt m q w i

-- Instructions j and k are the first two that decode.
pub record AreFirstTwoDecoded (m : Model) (q w : Valuation) (j k : ℕ) : Type 0 where
  pub first : Instruction
  pub second : Instruction
  pub is_j : IsInstruction m j first
  pub is_k : IsInstruction m k second
  pub j_first : j < k
  pub first_decoded : DecodesAt m q w first
  pub second_decoded : DecodesAt m q w second
  pub none_between : (l : ℕ) (other : Instruction) → IsInstruction m l other → l < k → l ≢ j → ¬ DecodesAt m q w other

-- How a child program fails to end: at a micro-step not exactly one instruction decodes, or after its limit of steps its
-- valid condition still holds. The outermost child has depth 1, and micro-steps count from 0 at each entry of their child.
pub data Trouble : Type 0 where
  stuck : (depth step : ℕ) → Trouble
  too_long : (depth : ℕ) → Trouble

-- The first trouble in the order of execution.
abbrev mutual
  pub InstructionTrouble : Instruction → (p : Valuation) → (depth : ℕ) → Trouble → Type 0
  InstructionTrouble (instruction called decode update program) p depth t = ChildTrouble program (updated update p) depth t

  -- Some steps are taken, and then the valid condition still holds: at the limit that is the trouble; before it the next
  -- step has one.
  pub ChildTrouble : Child → (p : Valuation) → (depth : ℕ) → Trouble → Type 0
  ChildTrouble no_child p depth t = ⊥
  ChildTrouble (child steps program) p depth t =
      (n : ℕ) × (q : Valuation) × Reaches (DoesStep program) n (entered (states_of program) p) q
      × IsTrue (holds (valid_of program) q)
      × (((n ≡ steps) × (t ≡ too_long depth)) ⊎ ((n < steps) × StepTrouble program q depth n t))

  pub StepTrouble : Machine → (p : Valuation) → (depth step : ℕ) → Trouble → Type 0
  StepTrouble (machine states valid instructions) p depth step t = OneTrouble instructions p depth step t

  -- Not exactly one decodes, or the one that does has trouble in its own child.
  pub OneTrouble : Instructions → (p : Valuation) → (depth step : ℕ) → Trouble → Type 0
  OneTrouble no_instructions p depth step t = t ≡ stuck depth step
  OneTrouble (and_then i is) p depth step t =
      (IsTrue (holds (decode_of i) p) × NoneDecodes is p × InstructionTrouble i p (suc depth) t)
      ⊎ ((IsTrue (holds (decode_of i) p) × SomeDecodes is p × (t ≡ stuck depth step))
      ⊎ (IsFalse (holds (decode_of i) p) × OneTrouble is p depth step t))

-- The child of instruction i, started at q under w, has this trouble.
abbrev pub HasTrouble : Model → Instruction → (q w : Valuation) → Trouble → Type 0
HasTrouble m i q w t = InstructionTrouble i (point_of m q w) 1 t

-- A run over a list of inputs: a step of the model for each, and where there is none the state stays.
abbrev pub IsModelRun : Model → Valuation → List Valuation → List Valuation → Type 0
IsModelRun m q [] [] = ⊤
IsModelRun m q (w ∷ ws) (r ∷ rs) =
    (Steps m q w r ⊎ (((s : Valuation) → ¬ Steps m q w s) × (r ≡ q))) × IsModelRun m r ws rs
IsModelRun m q [] (r ∷ rs) = ⊥
IsModelRun m q (w ∷ ws) [] = ⊥
