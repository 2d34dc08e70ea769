use Rattle.std.proofs.Common.{false}
use Rattle.v_print.proofs.Loops.{IsLoop}
use Rattle.v_print_source.specs.Lists.{named_of}
use Rattle.v_print_source.specs.Shown.{printed_named}
use Rattle.v_print_source.proofs.Wholes.{parts_front}
use Rattle.v_print_source.proofs.connection.write_all_named.Given as goal

abbrev pub invariant-loop-connection : goal.invariant-loop-connection
invariant-loop-connection l = IsLoop (parts_front printed_named named_of) l.connections l.connection-index l.started l.initial.out l.out (parts_front printed_named named_of false l.connections)
