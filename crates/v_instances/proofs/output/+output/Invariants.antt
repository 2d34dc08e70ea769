use Rattle.std.proofs.Common.{◌≡◌, drop, Some}
use Rattle.v_value.specs.Scope.{scope_at}
use Rattle.v_instances.specs.Outputs.{no_part, found_from}
use Rattle.v_instances.proofs.output.+output.Given as goal

abbrev pub invariant-found_parts-loop-part : goal.invariant-found_parts-loop-part
invariant-found_parts-loop-part l = found_from (scope_at l.names.scope.now) (Some no_part) l.parts ≡ found_from (scope_at l.names.scope.now) l.all (drop l.part-index l.parts)
