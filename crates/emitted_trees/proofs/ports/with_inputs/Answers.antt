use Rattle.std.proofs.Common.{arith, refl, map}
use Rattle.v_syntax.specs.Source.{port_of}
use Rattle.ila_model.specs.Model.{model_of}
use Rattle.emitted_modules.specs.Rtl.{input_port}
use Rattle.emitted_names.proofs.Turns.{ended}
use Rattle.emitted_trees.proofs.Whole.{input_more}
use Rattle.emitted_trees.proofs.ports.with_inputs.Goals as goal

pub loop-place-preserved : goal.loop-place-preserved
loop-place-preserved c =
    input_more (model_of c.args.model.now).inputs c.loop-place.place _ _ _ _ _ c.input_name-name.ensures c.input_sort-sort.ensures.sort c.loop-place.invariant c.in_ok-all.ensures

pub returns : goal.returns
returns c =
    ended input_port (model_of c.args.model.now).inputs c.loop-place.place _ (map port_of c.loop-place.all.items)
    (omega (arith, c.loop-place-test.false, c.input_count-place-end.ensures.inputs)) c.loop-place.invariant
