use Rattle.std.proofs.Common.{◌≡◌, ◌++◌, drop}
use Rattle.v_scopes.proofs.scope.add_declarations.Given as goal

abbrev pub invariant-loop-each : goal.invariant-loop-each
invariant-loop-each l = l.initial.list.items ++ l.declarations ≡ l.list.items ++ drop l.each-index l.declarations
