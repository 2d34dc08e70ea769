use Rattle.std.proofs.Common.{◌≡◌, [], take}
use Rattle.ob_mem.proofs.names.same_names.Given as goal

abbrev pub invariant-loop-place : goal.invariant-loop-place
invariant-loop-place l = l.copy ≡ (record { names = take l.place l.terms.names; nodes = [] })
