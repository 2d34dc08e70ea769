use Rattle.std.proofs.Common.{true}
use Rattle.v_print.proofs.Loops.{IsLoop}
use Rattle.v_syntax.specs.Source.{module_of}
use Rattle.v_print_source.specs.Shown.{printed_module}
use Rattle.v_print_source.proofs.Wholes.{row_front}
use Rattle.v_print_source.proofs.module.write_modules.Given as goal

abbrev pub invariant-loop-module : goal.invariant-loop-module
invariant-loop-module l = IsLoop (row_front (printed_module l.fn.colons) module_of) l.modules l.module-index true l.initial.out l.out (row_front (printed_module l.fn.colons) module_of true l.modules)
