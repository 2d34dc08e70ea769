-- A clause as the search holds it: its literals, and the codes of the two that are watched.
use Rattle.std.specs.Prelude.{ℕ, List, [], ◌∷◌}
use Rattle.sat_base.specs.declared.literals.Lit.{Lit}
use Rattle.sat_solve.specs.declared.pairs.Pair.{Pair}
use Rattle.sat_solve.specs.declared.pairs.Slot.{Slot}

pub record Held : Type 0 where
  pub lits : List Lit
  pub first : ℕ
  pub second : ℕ

-- the watched ones, by what a slot keeps
abbrev pub pair_of : Slot → Pair
pair_of s = record { first = s.first; second = s.second }

-- the clauses that have a pair, each with its own
abbrev pub held_by : List Pair → List (List Lit) → List Held
held_by [] clauses = []
held_by (p ∷ pairs) [] = []
held_by (p ∷ pairs) (lits ∷ clauses) = record { lits = lits; first = p.first; second = p.second } ∷ held_by pairs clauses
