use Rattle.std.proofs.Common.{arith}
use Rattle.model_meaning.specs.Model.{states_of}
use Rattle.ila_model.specs.Model.{model_of}
use Rattle.map_sorts.proofs.First.{state_turn, states_end}
use Rattle.map_sorts.proofs.sorts.state_sorts.Goals as goal

pub loop-place-preserved : goal.loop-place-preserved
loop-place-preserved c = λ q.
    state_turn (states_of (model_of c.args.model.now).top) c.loop-place.place _ _ _ _ _ q (c.in_ok-add_first.ensures q) c.state_name.ensures c.state_sort.ensures.sort
    (c.loop-place.invariant q)

pub returns : goal.returns
returns c = λ q.
    states_end (states_of (model_of c.args.model.now).top) c.loop-place.place _ _ q (omega (arith, c.loop-place-test.false, c.state_count-place-end.ensures.states))
    (c.loop-place.invariant q)
