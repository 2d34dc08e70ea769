-- Questions about circuits that are asked of another circuit over the same inputs, and copies that are worth the same where a bit is true.
use Rattle.std.specs.Prelude.{◌≡◌, ℕ, ◌<◌, Bool, true, List, length, slice_index_or, Option, Some, None}
use Rattle.sat_base.specs.declared.literals.Lit.{Lit}
use Rattle.sat_base.specs.Formula.{variable_value, value}
use Rattle.gate_base.specs.declared.bits.Bit.{Bit}
use Rattle.gate_base.specs.declared.assuming.Copier.{Copier}
use Rattle.gate_base.specs.Circuit.{Circuit, size, bit_value, FollowsCircuit, IsKnown, IsDetermined}

-- Two assignments give the inputs of the first circuit the same values, and each follows its own circuit.
pub record AreJoined (c d : Circuit) (w u : List Bool) : Type 0 where
  pub first : FollowsCircuit w c
  pub second : FollowsCircuit u d
  pub inputs : (v : ℕ) → v < c.inputs → variable_value u v ≡ variable_value w v

-- It is the same question: over the same inputs the bit a of the circuit d has the value of the bit b of the circuit c, whose inputs go on
-- to one assignment of all variables.
pub record IsAsked (c : Circuit) (b : Bit) (d : Circuit) (a : Bit) : Type 0 where
  pub inputs : d.inputs ≡ c.inputs
  pub known : IsKnown d a
  pub determined : IsDetermined c
  pub value : (w u : List Bool) → AreJoined c d w u → bit_value u a ≡ bit_value w b

-- the entry of a table, if it is there
abbrev pub truth_at : List (Option Bool) → ℕ → Option Bool
truth_at ts k = slice_index_or ts k None

abbrev pub bit_at : List (Option Bit) → ℕ → Option Bit
bit_at bs k = slice_index_or bs k None

-- Where the literal is true the variable has this truth value.
abbrev pub IsFact : Circuit → Lit → ℕ → Bool → Type 0
IsFact c l k b = (w : List Bool) → FollowsCircuit w c → value w l ≡ true → variable_value w k ≡ b

pub record AreFacts (c : Circuit) (l : Lit) (ts : List (Option Bool)) : Type 0 where
  pub room : length ts ≡ size c
  pub hold : (k : ℕ) (b : Bool) → truth_at ts k ≡ Some b → IsFact c l k b

-- Where the bit `all` is true the first bit has the value of the second.
pub record IsSameWhere (d : Circuit) (all a b : Bit) : Type 0 where
  pub known : IsKnown d a
  pub value : (u : List Bool) → FollowsCircuit u d → bit_value u all ≡ true → bit_value u a ≡ bit_value u b

-- Where the bit `all` of the circuit d is true, its bit b has what f gives under the joined assignment of the circuit c.
pub record IsLike (c d : Circuit) (all b : Bit) (f : List Bool → Bool) : Type 0 where
  pub known : IsKnown d b
  pub value : (w u : List Bool) → AreJoined c d w u → bit_value u all ≡ true → bit_value u b ≡ f w

-- Where the bit is true variables have these truth values.
abbrev pub HasWorth : Circuit → Bit → List (Option Bool) → Type 0
HasWorth d all ts = (k : ℕ) (t : Bool) → truth_at ts k ≡ Some t → (u : List Bool) → FollowsCircuit u d → bit_value u all ≡ true → variable_value u k ≡ t

-- A copy of a part of the circuit c is worth the same where `all` is true, and that is so where the literal is.
pub record IsCopying (c : Circuit) (l : Lit) (k : Copier) : Type 0 where
  pub inputs : k.fresh.inputs ≡ c.inputs
  pub all : IsKnown k.fresh k.all
  pub copies : (v : ℕ) (b : Bit) → bit_at k.copies.items v ≡ Some b → IsLike c k.fresh k.all b (λ w. variable_value w v)
  pub worth : HasWorth k.fresh k.all k.worth.items
  pub follows : (w u : List Bool) → AreJoined c k.fresh w u → value w l ≡ true → bit_value u k.all ≡ true
