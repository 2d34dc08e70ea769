use Rattle.printed_traces.proofs.OneWay.{read_one_way}
use Rattle.printed_traces.proofs.laws.traces_are_read_one_way.Goals as goal

pub returns : goal.returns
returns c = read_one_way
