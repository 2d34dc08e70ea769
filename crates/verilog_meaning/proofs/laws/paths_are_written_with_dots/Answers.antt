use Rattle.std.proofs.Common.{refl}
use Rattle.std.specs.Fmt.{digits}
use Rattle.verilog_meaning.proofs.laws.paths_are_written_with_dots.Goals as goal

pub returns-clause-copy : goal.returns-clause-copy
unfolding digits
returns-clause-copy c = refl

pub returns-clause-below_zero : goal.returns-clause-below_zero
unfolding digits
returns-clause-below_zero c = refl
