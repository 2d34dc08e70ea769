use Rattle.v_print_source.proofs.Ended.{read_within}
use Rattle.v_print_source.proofs.laws.a_source_that_is_read_is_printed_within.Goals as goal

pub returns : goal.returns
returns c = read_within
