-- Literals by number: twice the variable, and one more for its negation.
use Rattle.std.specs.Prelude.{ℕ, ◌+◌, ◌*◌, ◌/◌, ◌%◌, ◌==◌, if◌then◌else◌}
use Rattle.sat_base.specs.declared.literals.Lit.{Lit}

abbrev pub code_of : Lit → ℕ
code_of l = 2 * l.var + (if l.negative then 1 else 0)

abbrev pub literal_of : ℕ → Lit
literal_of c = record { var = c / 2; negative = c % 2 == 1 }
