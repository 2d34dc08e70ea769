use Rattle.std.proofs.Common.{false}
use Rattle.v_print.proofs.Loops.{IsLoop}
use Rattle.v_print_source.specs.Lists.{continuous_of}
use Rattle.v_print_source.specs.Shown.{printed_continuous}
use Rattle.v_print_source.proofs.Wholes.{parts_front}
use Rattle.v_print_source.proofs.item.write_all_continuous.Given as goal

abbrev pub invariant-loop-assignment : goal.invariant-loop-assignment
invariant-loop-assignment l = IsLoop (parts_front printed_continuous continuous_of) l.assignments l.assignment-index l.started l.initial.out l.out (parts_front printed_continuous continuous_of false l.assignments)
