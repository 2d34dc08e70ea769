use Rattle.std.proofs.Common.{◌≡◌, ◌+◌, ◌-◌, ◌∙◌, sym, ap, arith}
use Rattle.std.proofs.lemmas.List.{get_or-drop}
use Rattle.wb_values.specs.Value.{truth}
use Rattle.std.proofs.Common.{[], get_or}
use Rattle.v_design.specs.Seen.{parts_of}
use Rattle.v_design.specs.Parts.{inputs_of}
use Rattle.v_sim.specs.Names.{word_width}
use Rattle.v_sim.proofs.Placing.{input_is}
use Rattle.v_sim.proofs.naming.input_at.Goals as goal

pub returns : goal.returns
returns c =
    let d = c.args.design.now in
    let k = c.args.place in
    let ns = d.terms.names in
    let at : c.name_count.result - c.input_count.result + k ≡ d.register_count + k = omega (arith, c.name_count.ensures.names, c.input_count.ensures, d.counted) in
    let there = ap (λ j. get_or ns j ([], truth)) at ∙ sym (get_or-drop d.register_count ns k ([], truth)) in
    input_is (inputs_of (parts_of d)) k c.in_ok-name.name.items c.word_width-width.result c.requires
    (c.in_ok-name.ensures.items ∙ (c.as_bytes.ensures.value ∙ (c.name.ensures ∙ ap (λ x. x.0) there)))
    (c.word_width-width.ensures.width ∙ ap word_width (c.name_sort.ensures.sort ∙ ap (λ x. x.1) there))
