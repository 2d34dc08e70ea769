-- Literals: a variable or its negation, as in DIMACS CNF.
use Rattle.std.specs.Prelude.{ℕ, true, false, not}
use Rattle.sat_base.specs.declared.literals.Lit.{Lit}

-- the literal of the same variable with the other sign
abbrev pub negation : Lit → Lit
negation l = record { var = l.var; negative = not l.negative }

-- the two literals of a variable
abbrev pub positive : ℕ → Lit
positive v = record { var = v; negative = false }

abbrev pub opposed : ℕ → Lit
opposed v = record { var = v; negative = true }
