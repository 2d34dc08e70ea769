use Rattle.v_print_source.proofs.Ended.{read_printable}
use Rattle.v_print_source.proofs.laws.a_source_that_is_read_can_be_printed.Goals as goal

pub returns : goal.returns
returns c = read_printable
