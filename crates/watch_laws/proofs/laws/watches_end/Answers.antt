use Rattle.watch_laws.proofs.Watching.{agreeing, running_quiet_at_end, ended_running}
use Rattle.watch_laws.proofs.laws.watches_end.Goals as goal

pub returns : goal.returns
returns c = λ s run cycles ended begun j r complete w.
    agreeing s run cycles ended complete w.premises w.agrees (running_quiet_at_end s run cycles ended begun j r w.stands) (ended_running s run cycles ended begun j r w.stands)
