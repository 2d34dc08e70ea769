use Rattle.std.proofs.Common.{refl}
use Rattle.model_meaning.specs.Model.{StateDeclaration, states_of}
use Rattle.ila_model.specs.Model.{model_of}
use Rattle.wb_terms.specs.Sort.{as_sort}
use Rattle.map_terms.specs.View.{wanted_view}
use Rattle.map_terms.proofs.Wants.{want_turn}
use Rattle.map_terms.proofs.states.wanted_states.Goals as goal

pub loop-place-preserved : goal.loop-place-preserved
loop-place-preserved c =
    want_turn (λ (d : StateDeclaration). d.state_name) (λ (d : StateDeclaration). d.sort) wanted_view (states_of (model_of c.args.model.now).top) c.loop-place.place c.state_name.result.now
    (as_sort c.state_sort.result) c.loop-place.list.items c.push.new.self.items _ c.state_name.ensures c.state_sort.ensures.sort refl c.in_ok-push.ensures.items
    c.loop-place.invariant
