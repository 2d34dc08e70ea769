use Rattle.v_parse.proofs.AgainItems as again
use Rattle.v_parse.proofs.laws.one_source.Goals as goal

pub returns : goal.returns
returns c = again.one_source
