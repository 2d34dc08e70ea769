use Rattle.std.proofs.Common.{◌++◌, [], ◌∷◌, map, take, sym, ap, ◌∙◌}
use Rattle.std.proofs.lemmas.List.{map-append}
use Rattle.scripts.specs.Script.{zero_value}
use Rattle.wb_terms.specs.Environment.{as_value}
use Rattle.wb_terms.specs.Sort.{as_sort}
use Rattle.ila_model.specs.Model.{model_of}
use Rattle.ila_sim.specs.Outcomes.{zero_values}
use Rattle.ila_sim.proofs.Declared.{taken_more}
use Rattle.ila_sim.proofs.Made.{zero_there}
use Rattle.ila_sim.proofs.beginning.zeros.Goals as goal

pub loop-place-preserved : goal.loop-place-preserved
loop-place-preserved c =
    let is = (model_of c.args.model.now).inputs in
    let one = c.in_ok-zero.field-0 in
    let s = as_sort c.input_sort.result in
    ap (map as_value) c.in_ok-push.ensures.items
    ∙ (map-append as_value c.loop-place.zeros.items (one ∷ [])
    ∙ (ap (λ xs. xs ++ as_value one ∷ []) c.loop-place.invariant
    ∙ (ap (λ x. take c.loop-place.place (zero_values is) ++ x ∷ []) c.in_ok-zero.ensures
    ∙ sym (taken_more (zero_values is) c.loop-place.place (zero_value s) (zero_there is c.loop-place.place s c.input_sort.ensures.sort)))))
