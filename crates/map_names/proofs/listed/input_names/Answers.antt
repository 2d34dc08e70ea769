use Rattle.std.proofs.Common.{map, ap, arith}
use Rattle.ila_model.specs.Model.{model_of}
use Rattle.map_names.proofs.Gathered.{name_turn, name_end, drop_named, drop_past}
use Rattle.map_names.proofs.listed.input_names.Goals as goal

pub loop-place-preserved : goal.loop-place-preserved
loop-place-preserved c =
    name_turn _ _ c.input_name.result _ _ _ c.in_ok-push.ensures.items
    (drop_named (λ i. i.input_name) (model_of c.args.model.now).inputs c.loop-place.place c.input_name.result.now c.input_name.ensures)
    c.loop-place.invariant

pub returns : goal.returns
returns c =
    name_end _ _ _
    (ap (map (λ i. i.input_name))
    (drop_past (model_of c.args.model.now).inputs c.loop-place.place (omega (arith, c.loop-place-test.false, c.input_count-place-end.ensures.inputs))))
    c.loop-place.invariant
