use Rattle.std.proofs.Common.{◌<◌, ◌∙◌, ◌++◌, [], ◌∷◌, length, take, sym, ap, arith}
use Rattle.std.proofs.lemmas.List.{length-drop}
use Rattle.wb_values.specs.Value.{truth}
use Rattle.serde_json.specs.Find.{get}
use Rattle.serde_json.specs.View.{view}
use Rattle.v_design.specs.Parts.{inputs_of}
use Rattle.v_design.specs.Seen.{parts_of}
use Rattle.trace_reading.specs.Given.{number_given, input_given, inputs_given}
use Rattle.trace_reading.proofs.Turns.{taken_more}
use Rattle.trace_reading.proofs.given.inputs_given.Goals as goal

pub loop-place-preserved : goal.loop-place-preserved
loop-place-preserved c =
    let d = c.args.design.now in
    let e = parts_of d in
    let k = c.loop-place.place in
    let cycle = view c.args.cycle.now in
    let x = c.number_given.result in
    let low : k < length (inputs_of e) = omega (arith, c.loop-place-test.true, c.input_count-place-end.ensures, length-drop d.register_count d.terms.names) in
    let here = c.number_given.ensures ∙ ap number_given (c.get.ensures ∙ ap (λ n. get n cycle) c.input_name.ensures) in
    c.in_ok-push.ensures.items
    ∙ (ap (λ xs. xs ++ x ∷ []) c.loop-place.invariant
    ∙ (ap (λ y. take k (inputs_given e cycle) ++ y ∷ []) here ∙ sym (taken_more (input_given cycle) (inputs_of e) k ([], truth) low)))
