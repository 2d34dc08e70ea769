use Rattle.std.proofs.Common.{map, ap, arith}
use Rattle.model_meaning.specs.Model.{states_of}
use Rattle.ila_model.specs.Model.{model_of}
use Rattle.map_names.proofs.Gathered.{name_turn, name_end, drop_named, drop_past}
use Rattle.map_names.proofs.listed.state_names.Goals as goal

pub loop-place-preserved : goal.loop-place-preserved
loop-place-preserved c =
    name_turn _ _ c.state_name.result _ _ _ c.in_ok-push.ensures.items
    (drop_named (λ s. s.state_name) (states_of (model_of c.args.model.now).top) c.loop-place.place c.state_name.result.now c.state_name.ensures)
    c.loop-place.invariant

pub returns : goal.returns
returns c =
    name_end _ _ _
    (ap (map (λ s. s.state_name))
    (drop_past (states_of (model_of c.args.model.now).top) c.loop-place.place (omega (arith, c.loop-place-test.false, c.state_count-place-end.ensures.states))))
    c.loop-place.invariant
