use Rattle.test_values.proofs.Ladders.{small_assignment}
use Rattle.test_values.proofs.ladder.assignment.Goals as goal

pub returns : goal.returns
returns c = small_assignment c.args.name c.in_ok-target.target c.number.result c.in_ok-target.ensures.ok c.number.ensures
