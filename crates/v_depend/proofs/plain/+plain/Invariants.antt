use Rattle.std.proofs.Common.{◌≡◌, drop}
use Rattle.v_value.specs.Scope.{scope_at}
use Rattle.v_depend.specs.Copying.{parts_plain}
use Rattle.v_depend.proofs.plain.+plain.Given as goal

abbrev pub invariant-are_plain-loop-part : goal.invariant-are_plain-loop-part
invariant-are_plain-loop-part l = parts_plain (scope_at l.scope) l.parts ≡ parts_plain (scope_at l.scope) (drop l.part-index l.parts)
