use Rattle.printed_traces.proofs.ReadBack.{read_back}
use Rattle.printed_traces.proofs.laws.traces_are_read_back.Goals as goal

pub returns : goal.returns
returns c = read_back
