use Rattle.std.proofs.Common.{◌<◌, ◌∙◌, ◌++◌, [], ◌∷◌, length, map, take, sym, ap, arith}
use Rattle.std.proofs.lemmas.List.{length-take-le, map-append}
use Rattle.wb_values.specs.Value.{truth}
use Rattle.serde_json.specs.View.{view}
use Rattle.wb_terms.specs.Environment.{as_value}
use Rattle.v_design.specs.Parts.{registers_of}
use Rattle.v_design.specs.Seen.{parts_of}
use Rattle.trace_reading.specs.Given.{register_given, registers_given}
use Rattle.trace_reading.proofs.Turns.{taken_more}
use Rattle.trace_reading.proofs.given.registers_given.Goals as goal

pub loop-place-preserved : goal.loop-place-preserved
loop-place-preserved c =
    let d = c.args.design.now in
    let e = parts_of d in
    let k = c.loop-place.place in
    let file = view c.args.file.now in
    let one = c.in_ok-register_given.field-0 in
    let low : k < length (registers_of e) =
    omega (arith, c.loop-place-test.true, c.register_count-place-end.ensures, length-take-le d.register_count d.terms.names d.counted) in
    ap (map as_value) c.in_ok-push.ensures.items
    ∙ (map-append as_value c.loop-place.values.items (one ∷ [])
    ∙ (ap (λ xs. xs ++ as_value one ∷ []) c.loop-place.invariant
    ∙ (ap (λ y. take k (registers_given e file) ++ y ∷ []) c.in_ok-register_given.ensures ∙ sym (taken_more (register_given file) (registers_of e) k ([], truth) low))))
