use Rattle.std.proofs.Common.{◌≡◌, ◌++◌, drop}
use Rattle.v_modules.proofs.scope.add_constants.Given as goal

abbrev pub invariant-loop-each : goal.invariant-loop-each
invariant-loop-each l = l.initial.list.items ++ l.constants ≡ l.list.items ++ drop l.each-index l.constants
