use Rattle.printed_traces.proofs.Printing.{printed_replay}
use Rattle.printed_traces.proofs.laws.printed_traces_replay.Goals as goal

pub returns : goal.returns
returns c = printed_replay
