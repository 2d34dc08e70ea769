-- The numbers of the cycles so far.
use Rattle.std.proofs.Common.{◌≡◌, ◌+◌, ◌*◌, ◌<◌, ℕ, length}
use Rattle.ob_mem.specs.Words.{listed}
use Rattle.obligation_check.specs.Gathered.{number_at}
use Rattle.obligation_check.specs.Found.{numbers_at}
use Rattle.obligation_check.proofs.values.inputs.Given as goal

abbrev pub invariant-loop-cycle : goal.invariant-loop-cycle
invariant-loop-cycle l =
    (length l.list.items ≡ l.cycle) × (l.next ≡ l.first + l.cycle * l.count)
    × ((t : ℕ) → t < l.cycle → numbers_at l.list.items t ≡ listed (number_at l.values (l.first + t * l.count)) l.count)
