-- Circuits: gates put one after another over numbered variables, and the assignments that follow them.
use Rattle.std.specs.Prelude.{◌≡◌, ℕ, suc, ◌+◌, ◌<◌, ◌≤◌, Bool, true, not, ◌&&◌, cond, List, [], ◌∷◌, length, take, ⊤, ◌↔◌, All}
use Rattle.sat_base.specs.Formula.{Formula, variable_value, value, SatisfiesClause}
use Rattle.gate_base.specs.declared.bits.Bit.{Bit}
use Rattle.gate_base.specs.declared.bits.Bit.TheVariants.{Constant, Literal}
use Rattle.gate_base.specs.declared.bits.Gate.{Gate}
use Rattle.gate_base.specs.declared.bits.Gate.TheVariants.{And, Xor, Ite}
use Rattle.gate_base.specs.Question.{IsQuestion, IsYes}

-- The variables below `inputs` are free. Behind them each gate has a variable of its own, in order.
pub record Circuit : Type 0 where
  pub inputs : ℕ
  pub gates : List Gate

-- the number of its variables
abbrev pub size : Circuit → ℕ
size c = c.inputs + length c.gates

-- exactly one of the two
abbrev pub exactly_one : Bool → Bool → Bool
exactly_one a b = cond a (not b) b

-- what a gate gives under an assignment
abbrev pub gate_value : List Bool → Gate → Bool
gate_value w (And x y) = value w x && value w y
gate_value w (Xor x y) = exactly_one (value w x) (value w y)
gate_value w (Ite c x y) = cond (value w c) (value w x) (value w y)

-- the truth value of a bit under an assignment
abbrev pub bit_value : List Bool → Bit → Bool
bit_value w (Constant b) = b
bit_value w (Literal l) = value w l

-- variable v has what the first gate gives, the next variable what the next gate gives, and so on
abbrev pub FollowsFrom : ℕ → List Bool → List Gate → Type 0
FollowsFrom v w [] = ⊤
FollowsFrom v w (g ∷ gs) = (variable_value w v ≡ gate_value w g) × FollowsFrom (suc v) w gs

-- The assignment follows the circuit: the variable of each gate has what the gate gives.
abbrev pub FollowsCircuit : List Bool → Circuit → Type 0
FollowsCircuit w c = FollowsFrom c.inputs w c.gates

-- the bit is a constant or has a variable of the circuit
abbrev pub IsBitBelow : ℕ → Bit → Type 0
IsBitBelow n (Constant b) = ⊤
IsBitBelow n (Literal l) = l.var < n

abbrev pub IsKnown : Circuit → Bit → Type 0
IsKnown c b = IsBitBelow (size c) b

-- The circuit has grown: the inputs are the same, and what follows it now followed it before.
pub record Grows (old new : Circuit) : Type 0 where
  pub inputs : new.inputs ≡ old.inputs
  pub size : size old ≤ size new
  pub follows : (w : List Bool) → FollowsCircuit w new → FollowsCircuit w old

-- The bit has a variable of the circuit, and under each assignment that follows the circuit it has this value.
pub record Gives (c : Circuit) (b : Bit) (f : List Bool → Bool) : Type 0 where
  pub known : IsKnown c b
  pub value : (w : List Bool) → FollowsCircuit w c → bit_value w b ≡ f w

-- Each assignment of the inputs goes on to exactly one assignment of all variables that follows the circuit.
pub record IsDetermined (c : Circuit) : Type 0 where
  pub some : (a : List Bool) → length a ≡ c.inputs
      → (w : List Bool) × (length w ≡ size c) × (take c.inputs w ≡ a) × FollowsCircuit w c
  pub one : (w u : List Bool) → length w ≡ size c → length u ≡ size c → take c.inputs w ≡ take c.inputs u
      → FollowsCircuit w c → FollowsCircuit u c → w ≡ u

-- The formula is over the circuit's variables. It is a question about the circuit: its first clauses are satisfied by the assignments that
-- follow the circuit, and what is asked is so where the bit is true.
pub record IsFormulaOf (c : Circuit) (b : Bit) (f : Formula) : Type 0 where
  pub vars : f.vars ≡ size c
  pub question : IsQuestion f
  pub inputs : question.inputs ≡ c.inputs
  pub follows : (w : List Bool) → All (SatisfiesClause w) question.circuit ↔ FollowsCircuit w c
  pub asks : (w : List Bool) → IsYes f question w ↔ (bit_value w b ≡ true)
