use Rattle.std.proofs.Common.{arith}
use Rattle.ila_model.specs.Model.{model_of}
use Rattle.map_sorts.proofs.First.{input_turn, inputs_end}
use Rattle.map_sorts.proofs.sorts.input_sorts.Goals as goal

pub loop-place-preserved : goal.loop-place-preserved
loop-place-preserved c = λ q.
    input_turn (model_of c.args.model.now).inputs c.loop-place.place _ _ _ _ _ q (c.in_ok-add_first.ensures q) c.input_name.ensures c.input_sort.ensures.sort
    (c.loop-place.invariant q)

pub returns : goal.returns
returns c = λ q.
    inputs_end (model_of c.args.model.now).inputs c.loop-place.place _ _ q (omega (arith, c.loop-place-test.false, c.input_count-place-end.ensures.inputs))
    (c.loop-place.invariant q)
