use Rattle.std.proofs.Common.{refl}
use Rattle.model_meaning.specs.Model.{InputDeclaration}
use Rattle.ila_model.specs.Model.{model_of}
use Rattle.wb_terms.specs.Sort.{as_sort}
use Rattle.map_terms.specs.View.{wanted_view}
use Rattle.map_terms.proofs.Wants.{want_turn}
use Rattle.map_terms.proofs.states.wanted_inputs.Goals as goal

pub loop-place-preserved : goal.loop-place-preserved
loop-place-preserved c =
    want_turn (λ (d : InputDeclaration). d.input_name) (λ (d : InputDeclaration). d.sort) wanted_view (model_of c.args.model.now).inputs c.loop-place.place c.input_name.result.now
    (as_sort c.input_sort.result) c.loop-place.list.items c.push.new.self.items _ c.input_name.ensures c.input_sort.ensures.sort refl c.in_ok-push.ensures.items
    c.loop-place.invariant
