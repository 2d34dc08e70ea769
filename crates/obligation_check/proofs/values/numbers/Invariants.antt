-- The numbers so far.
use Rattle.std.proofs.Common.{◌≡◌}
use Rattle.ob_mem.specs.Words.{listed}
use Rattle.obligation_check.specs.Gathered.{number_at}
use Rattle.obligation_check.proofs.values.numbers.Given as goal

abbrev pub invariant-loop-place : goal.invariant-loop-place
invariant-loop-place l = l.numbers.items ≡ listed (number_at l.values l.first) l.place
