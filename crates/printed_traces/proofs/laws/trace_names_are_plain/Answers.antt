use Rattle.printed_traces.proofs.TraceNames.{trace_names_plain}
use Rattle.printed_traces.proofs.laws.trace_names_are_plain.Goals as goal

pub returns : goal.returns
returns c = trace_names_plain
