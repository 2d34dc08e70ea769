use Rattle.shown_facts.specs.Values.{map_in, values_in}
use Rattle.shown_facts.specs.Run.{IsRunTo}
use Rattle.shown_facts.proofs.running.run_on.Given as goal

abbrev pub invariant-loop-time : goal.invariant-loop-time
invariant-loop-time l = IsRunTo (map_in l.given) (values_in l.given) l.cycle l.rows.items l.time
