use Rattle.std.proofs.Common.{false}
use Rattle.v_print.proofs.Loops.{IsLoop}
use Rattle.v_print_source.specs.Lists.{wire_of}
use Rattle.v_print_source.specs.Shown.{printed_wire}
use Rattle.v_print_source.proofs.Wholes.{parts_front}
use Rattle.v_print_source.proofs.declaration.write_wires.Given as goal

abbrev pub invariant-loop-wire : goal.invariant-loop-wire
invariant-loop-wire l = IsLoop (parts_front printed_wire wire_of) l.wires l.wire-index l.started l.initial.out l.out (parts_front printed_wire wire_of false l.wires)
