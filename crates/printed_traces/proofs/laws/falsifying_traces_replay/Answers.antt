use Rattle.printed_traces.proofs.Replays.{replays}
use Rattle.printed_traces.proofs.laws.falsifying_traces_replay.Goals as goal

pub returns : goal.returns
returns c = replays
