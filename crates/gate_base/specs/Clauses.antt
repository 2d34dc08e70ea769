-- The clauses of a gate, and what holds of the gates of every circuit.
use Rattle.std.specs.Prelude.{ℕ, suc, ◌<◌, true, false, List, [], ◌∷◌, ◌++◌, ⊤}
use Rattle.sat_base.specs.declared.literals.Lit.{Lit}
use Rattle.sat_base.specs.Literal.{negation, positive}
use Rattle.gate_base.specs.declared.bits.Bit.{Bit}
use Rattle.gate_base.specs.declared.bits.Bit.TheVariants.{Constant, Literal}
use Rattle.gate_base.specs.declared.bits.Gate.{Gate}
use Rattle.gate_base.specs.declared.bits.Gate.TheVariants.{And, Xor, Ite}

-- The literal v is what the gate gives: each clause in one of the two directions.
abbrev pub clauses_for : Lit → Gate → List (List Lit)
clauses_for v (And x y) =
    (negation v ∷ x ∷ []) ∷ (negation v ∷ y ∷ []) ∷ (v ∷ negation x ∷ negation y ∷ []) ∷ []
clauses_for v (Xor x y) =
    (negation v ∷ x ∷ y ∷ []) ∷ (negation v ∷ negation x ∷ negation y ∷ [])
    ∷ (v ∷ negation x ∷ y ∷ []) ∷ (v ∷ x ∷ negation y ∷ []) ∷ []
clauses_for v (Ite c x y) =
    (negation v ∷ negation c ∷ x ∷ []) ∷ (v ∷ negation c ∷ negation x ∷ [])
    ∷ (negation v ∷ c ∷ y ∷ []) ∷ (v ∷ c ∷ negation y ∷ []) ∷ []

-- the clauses of gates whose variables begin with v
abbrev pub clauses_from : ℕ → List Gate → List (List Lit)
clauses_from v [] = []
clauses_from v (g ∷ gs) = clauses_for (positive v) g ++ clauses_from (suc v) gs

-- what makes the bit true: nothing, the empty clause or the clause of its literal
abbrev pub clauses_of_bit : Bit → List (List Lit)
clauses_of_bit (Constant true) = []
clauses_of_bit (Constant false) = [] ∷ []
clauses_of_bit (Literal l) = (l ∷ []) ∷ []

-- the gate's operands are below v
abbrev pub IsGateBelow : ℕ → Gate → Type 0
IsGateBelow v (And x y) = (x.var < v) × (y.var < v)
IsGateBelow v (Xor x y) = (x.var < v) × (y.var < v)
IsGateBelow v (Ite c x y) = (c.var < v) × (x.var < v) × (y.var < v)

-- each gate stands on variables before its own
abbrev pub AreOrdered : ℕ → List Gate → Type 0
AreOrdered v [] = ⊤
AreOrdered v (g ∷ gs) = IsGateBelow v g × AreOrdered (suc v) gs
