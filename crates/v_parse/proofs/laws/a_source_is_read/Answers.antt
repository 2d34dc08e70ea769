use Rattle.v_parse.proofs.AgainItems.{a_source}
use Rattle.v_parse.proofs.laws.a_source_is_read.Goals as goal

pub returns : goal.returns
returns c = a_source
