use Rattle.shown_facts.specs.Values.{map_in, values_in}
use Rattle.shown_facts.proofs.Noting.{begun}
use Rattle.shown_facts.proofs.running.run_first.Goals as goal

pub new-requires : goal.new-requires
new-requires c = c.requires.given.registers

pub run_on-requires-clause-run : goal.run_on-requires-clause-run
run_on-requires-clause-run c =
    let g = c.args.given.now in
    begun (map_in g) (values_in g) c.in_ok-cycle.cycle c.new-rows.result.items c.in_ok-cycle.ensures.made c.in_ok-cycle.ensures.registers c.new-rows.ensures.items

pub returns : goal.returns
returns c = c.in_ok-run_on.ensures
