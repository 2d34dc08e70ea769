use Rattle.std.proofs.Common.{false}
use Rattle.v_print.proofs.Loops.{IsLoop}
use Rattle.v_syntax.specs.Source.{parameter_of}
use Rattle.v_print_source.specs.Shown.{printed_parameter}
use Rattle.v_print_source.proofs.Wholes.{parts_front}
use Rattle.v_print_source.proofs.module.write_parameters.Given as goal

abbrev pub invariant-loop-parameter : goal.invariant-loop-parameter
invariant-loop-parameter l = IsLoop (parts_front printed_parameter parameter_of) l.parameters l.parameter-index l.started l.initial.out l.out (parts_front printed_parameter parameter_of false l.parameters)
