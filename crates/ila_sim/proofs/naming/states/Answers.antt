use Rattle.std.proofs.Common.{◌++◌, [], ◌∷◌, map, sym, ap, ◌∙◌}
use Rattle.std.proofs.lemmas.List.{map-append}
use Rattle.scripts.specs.Script.{settables_of}
use Rattle.ila_model.specs.Model.{model_of}
use Rattle.ila_sim.specs.Names.{settable_of}
use Rattle.ila_sim.proofs.Declared.{taken_more}
use Rattle.ila_sim.proofs.naming.states.Goals as goal

pub loop-place-preserved : goal.loop-place-preserved
loop-place-preserved c =
    let all = (settables_of (model_of c.args.model.now)).states in
    let one = c.in_ok-state_at.field-0 in
    ap (map settable_of) c.in_ok-push.ensures.items
    ∙ (map-append settable_of c.loop-place.states.items (one ∷ [])
    ∙ (ap (λ xs. xs ++ settable_of one ∷ []) c.loop-place.invariant
    ∙ sym (taken_more all c.loop-place.place (settable_of one) c.in_ok-state_at.ensures)))
