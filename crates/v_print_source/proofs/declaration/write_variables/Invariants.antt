use Rattle.std.proofs.Common.{false}
use Rattle.v_print.proofs.Loops.{IsLoop}
use Rattle.v_print_source.specs.Lists.{variable_of}
use Rattle.v_print_source.specs.Shown.{printed_variable}
use Rattle.v_print_source.proofs.Wholes.{parts_front}
use Rattle.v_print_source.proofs.declaration.write_variables.Given as goal

abbrev pub invariant-loop-variable : goal.invariant-loop-variable
invariant-loop-variable l = IsLoop (parts_front printed_variable variable_of) l.variables l.variable-index l.started l.initial.out l.out (parts_front printed_variable variable_of false l.variables)
