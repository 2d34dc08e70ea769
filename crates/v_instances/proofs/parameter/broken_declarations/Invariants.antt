use Rattle.std.proofs.Common.{◌≡◌, drop, map}
use Rattle.v_value.specs.Scope.{scope_at}
use Rattle.v_syntax.specs.Source.{parameter_of}
use Rattle.v_instances.specs.Outputs.{none}
use Rattle.v_instances.specs.Parameters.{declarations_from}
use Rattle.v_instances.proofs.parameter.broken_declarations.Given as goal

abbrev pub invariant-loop-declaration : goal.invariant-loop-declaration
invariant-loop-declaration l = declarations_from (scope_at l.names.scope.now) none (map parameter_of l.declarations) ≡ declarations_from (scope_at l.names.scope.now) l.all (map parameter_of (drop l.declaration-index l.declarations))
