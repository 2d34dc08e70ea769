use Rattle.std.proofs.Common.{◌≡◌, ◌++◌, take}
use Rattle.sat_base.proofs.logs.push_numbers.Given as goal

abbrev pub invariant-loop-number : goal.invariant-loop-number
invariant-loop-number l = l.hints.items ≡ l.initial.hints.items ++ take l.number-index l.numbers
