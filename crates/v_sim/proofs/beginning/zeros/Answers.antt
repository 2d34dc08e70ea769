use Rattle.std.proofs.Common.{◌<◌, ◌++◌, [], ◌∷◌, length, map, take, sym, ap, ◌∙◌, arith}
use Rattle.std.proofs.lemmas.List.{map-append, length-take-le, get_or-take}
use Rattle.wb_values.specs.Value.{truth}
use Rattle.scripts.specs.Script.{zero_value}
use Rattle.wb_terms.specs.Environment.{as_value}
use Rattle.v_design.specs.Seen.{parts_of}
use Rattle.v_design.specs.Parts.{registers_of}
use Rattle.v_sim.specs.Texts.{zeros}
use Rattle.v_sim.proofs.Sorted.{taken_more, zero_there}
use Rattle.v_sim.proofs.beginning.zeros.Goals as goal

pub loop-place-preserved : goal.loop-place-preserved
loop-place-preserved c =
    let d = c.args.design.now in
    let k = c.loop-place.place in
    let ns = registers_of (parts_of d) in
    let one = c.in_ok-zero.field-0 in
    let long = length-take-le d.register_count d.terms.names d.counted in
    let within : k < length ns = omega (arith, long, c.loop-place-test.true, c.register_count-place-end.ensures) in
    let here = c.in_ok-zero.ensures ∙ ap zero_value (c.name_sort.ensures.sort ∙ ap (λ x. x.1) (sym (get_or-take d.register_count d.terms.names k ([], truth) (omega (arith, long, within))))) in
    ap (map as_value) c.in_ok-push.ensures.items
    ∙ (map-append as_value c.loop-place.zeros.items (one ∷ [])
    ∙ (ap (λ xs. xs ++ as_value one ∷ []) c.loop-place.invariant
    ∙ (ap (λ x. take k (zeros ns) ++ x ∷ []) here
    ∙ sym (taken_more (zeros ns) k _ (zero_there ns k ([], truth) within)))))
