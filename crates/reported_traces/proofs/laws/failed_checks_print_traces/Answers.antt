use Rattle.reported_traces.proofs.Failing.{checks_print}
use Rattle.reported_traces.proofs.laws.failed_checks_print_traces.Goals as goal

pub returns : goal.returns
returns c = checks_print
