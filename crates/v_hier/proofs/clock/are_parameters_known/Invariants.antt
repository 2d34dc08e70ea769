use Rattle.std.proofs.Common.{◌≡◌, drop, map}
use Rattle.v_syntax.specs.Source.{parameter_of}
use Rattle.v_hier.specs.Reading.{knows}
use Rattle.v_hier.specs.Clock.{parameters_known}
use Rattle.v_hier.proofs.clock.are_parameters_known.Given as goal

abbrev pub invariant-loop-parameter : goal.invariant-loop-parameter
invariant-loop-parameter l = parameters_known (knows l.names) (map parameter_of l.parameters) ≡ parameters_known (knows l.names) (map parameter_of (drop l.parameter-index l.parameters))
