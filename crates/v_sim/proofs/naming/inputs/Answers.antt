use Rattle.std.proofs.Common.{◌++◌, [], ◌∷◌, map, sym, ap, ◌∙◌}
use Rattle.std.proofs.lemmas.List.{map-append}
use Rattle.v_design.specs.Seen.{parts_of}
use Rattle.ila_sim.specs.Names.{settable_of}
use Rattle.v_sim.specs.Names.{names_by}
use Rattle.v_sim.proofs.Sorted.{taken_more}
use Rattle.v_sim.proofs.naming.inputs.Goals as goal

pub loop-place-preserved : goal.loop-place-preserved
loop-place-preserved c =
    let all = (names_by (parts_of c.args.design.now)).inputs in
    let one = c.in_ok-input_at.field-0 in
    ap (map settable_of) c.in_ok-push.ensures.items
    ∙ (map-append settable_of c.loop-place.inputs.items (one ∷ [])
    ∙ (ap (λ xs. xs ++ settable_of one ∷ []) c.loop-place.invariant
    ∙ sym (taken_more all c.loop-place.place (settable_of one) c.in_ok-input_at.ensures)))
