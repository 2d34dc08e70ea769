use Rattle.std.proofs.Common.{false}
use Rattle.v_print.proofs.Loops.{IsLoop}
use Rattle.v_syntax.specs.Source.{optional_tree_of}
use Rattle.v_print_source.specs.Shown.{printed_entry}
use Rattle.v_print_source.proofs.Wholes.{parts_front}
use Rattle.v_print_source.proofs.connection.write_entries.Given as goal

abbrev pub invariant-loop-entry : goal.invariant-loop-entry
invariant-loop-entry l = IsLoop (parts_front printed_entry optional_tree_of) l.entries l.entry-index l.started l.initial.out l.out (parts_front printed_entry optional_tree_of false l.entries)
