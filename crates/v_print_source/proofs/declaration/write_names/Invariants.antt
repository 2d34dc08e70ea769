use Rattle.std.proofs.Common.{false}
use Rattle.v_print.proofs.Loops.{IsLoop}
use Rattle.v_print.specs.Bodies.{name_before}
use Rattle.v_print_source.specs.Lists.{name_of}
use Rattle.v_print_source.proofs.Wholes.{parts_front}
use Rattle.v_print_source.proofs.declaration.write_names.Given as goal

abbrev pub invariant-loop-name : goal.invariant-loop-name
invariant-loop-name l = IsLoop (parts_front name_before name_of) l.names l.name-index l.started l.initial.out l.out (parts_front name_before name_of false l.names)
