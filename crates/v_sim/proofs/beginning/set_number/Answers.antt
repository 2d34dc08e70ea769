use Rattle.v_sim.proofs.Sorted.{number_set}
use Rattle.v_sim.proofs.beginning.set_number.Goals as goal

pub returns-then-set-numbers : goal.returns-then-set-numbers
returns-then-set-numbers c = let s = c.args.set.now in number_set c.args.numbers.now s.place s.word s.value
