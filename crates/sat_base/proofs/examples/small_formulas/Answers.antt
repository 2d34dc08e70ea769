use Rattle.sat_base.proofs.Worked.{opposite_units}
use Rattle.sat_base.proofs.examples.small_formulas.Goals as goal

pub returns-clause-opposite_units : goal.returns-clause-opposite_units
returns-clause-opposite_units c = opposite_units
