-- What shows that budgets were spent, among what was found.
use Rattle.std.specs.Prelude.{List, [], ◌∷◌, ◌++◌}
use Rattle.obligation_check.specs.declared.findings.Finding.{Finding}
use Rattle.obligation_check.specs.declared.findings.Finding.TheVariants as found
use Rattle.obligation_check.specs.declared.findings.Spent.{Spent}

-- what shows it of a finding that is unknown
abbrev pub spent_one : Finding → List Spent
spent_one (found.Spent x) = x ∷ []
spent_one _ = []

-- those of all findings, in order
abbrev pub spent_among : List Finding → List Spent
spent_among [] = []
spent_among (x ∷ xs) = spent_one x ++ spent_among xs
