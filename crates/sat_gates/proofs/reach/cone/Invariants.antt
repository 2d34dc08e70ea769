use Rattle.std.proofs.Common.{reverse}
use Rattle.sat_gates.specs.Cone.{places}
use Rattle.sat_gates.proofs.Reached.{IsWalk, least}
use Rattle.sat_gates.proofs.reach.cone.Given as goal

abbrev pub invariant-loop-place : goal.invariant-loop-place
invariant-loop-place l = IsWalk l.terms l.fn.id.0 l.waiting.keys (places (reverse l.ids.items))

abbrev pub decreases-loop-place : goal.decreases-loop-place
decreases-loop-place l = least l.fn.id.0 (places (reverse l.ids.items))
