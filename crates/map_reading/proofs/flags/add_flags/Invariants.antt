use Rattle.std.proofs.Common.{◌≡◌, ◌++◌, replicate}
use Rattle.map_reading.proofs.flags.add_flags.Given as goal

abbrev pub invariant-loop-turn : goal.invariant-loop-turn
invariant-loop-turn l = l.flags.items ≡ l.initial.flags.items ++ replicate l._turn l.flag
