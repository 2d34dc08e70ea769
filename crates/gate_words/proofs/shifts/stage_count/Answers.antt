use Rattle.std.proofs.Common.{arith}
use Rattle.gate_words.proofs.Moving.{some_enough, all_enough}
use Rattle.gate_words.proofs.shifts.stage_count.Goals as goal

pub returns-then-count-width-clause-enough : goal.returns-then-count-width-clause-enough
returns-then-count-width-clause-enough c = some_enough c.args.width c.saturating_sub.result (omega (arith, c.saturating_sub.ensures)) (omega (arith, c.saturating_sub.ensures, c.ranges.width.fits))

pub returns-else-count-width-clause-enough : goal.returns-else-count-width-clause-enough
returns-else-count-width-clause-enough c = all_enough c.args.width
