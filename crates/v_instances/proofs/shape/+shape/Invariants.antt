use Rattle.std.proofs.Common.{◌≡◌, drop}
use Rattle.v_instances.specs.Connections.{are_targets}
use Rattle.v_instances.proofs.shape.+shape.Given as goal

abbrev pub invariant-are_targets-loop-part : goal.invariant-are_targets-loop-part
invariant-are_targets-loop-part l = are_targets l.parts ≡ are_targets (drop l.part-index l.parts)
