use Rattle.std.proofs.Common.{◌≡◌, drop, map}
use Rattle.verilog_designs.specs.Known.{with_known_parameters}
use Rattle.v_syntax.specs.Source.{parameter_of}
use Rattle.v_value.specs.Scope.{objects_of}
use Rattle.v_constants.specs.Given.{given_at}
use Rattle.v_constants.proofs.constants.with_header.Given as goal

abbrev pub invariant-loop-declaration : goal.invariant-loop-declaration
invariant-loop-declaration l =
    with_known_parameters (map parameter_of (drop l.declaration-index l.declarations)) (given_at l.given) (objects_of l.known.scope.declarations.items)
    ≡ with_known_parameters (map parameter_of l.declarations) (given_at l.given) (objects_of l.initial.known.scope.declarations.items)
