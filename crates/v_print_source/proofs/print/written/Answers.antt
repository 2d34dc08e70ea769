use Rattle.std.proofs.Common.{ap}
use Rattle.std.specs.String.{string_bytes}
use Rattle.v_syntax.specs.Source.{source_of}
use Rattle.v_print_source.proofs.Ended.{written_so}
use Rattle.v_print_source.proofs.print.written.Goals as goal

pub returns : goal.returns
returns c = written_so c.args.colons (source_of c.args.tree.now) c.new-out.result c.write_source.new.out (string_bytes c.into_text.result) c.new-out.ensures.text c.in_ok-write_source.ensures (ap string_bytes c.into_text.ensures)
