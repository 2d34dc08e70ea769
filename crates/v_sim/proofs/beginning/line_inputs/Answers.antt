use Rattle.std.proofs.Common.{◌∙◌, map, sym, ap, subst}
use Rattle.std.proofs.lemmas.List.{length-drop}
use Rattle.wb_values.specs.Value.{number}
use Rattle.wb_terms.specs.Environment.{AreOfSorts}
use Rattle.v_design.specs.Seen.{parts_of}
use Rattle.v_design.specs.Parts.{inputs_of}
use Rattle.ila_sim.specs.Outcomes.{with_all}
use Rattle.v_sim.specs.Texts.{number_zeros}
use Rattle.v_sim.proofs.Sorted.{numbers_are, inputs_sorted, number_zeros_sorted}
use Rattle.v_sim.proofs.Placing.{numbers_written}
use Rattle.v_sim.proofs.beginning.line_inputs.Goals as goal

pub returns-clause-values : goal.returns-clause-values
returns-clause-values c =
    let d = c.args.design.now in
    let sets = c.args.sets.now in
    let zeros = ap (map number) (c.in_ok-numbers.ensures.items_if_clones_equal (λ y e. e))
    ∙ numbers_are (inputs_of (parts_of d)) c.input_count.result (c.input_count.ensures ∙ sym (length-drop d.register_count d.terms.names)) in
    numbers_written c.in_ok-numbers.numbers c.deref_mut.result.now c.set_numbers.new.numbers sets c.deref_mut.ensures.value c.set_numbers.ensures
    ∙ ap (λ xs. with_all xs sets) zeros

pub returns-clause-sorted : goal.returns-clause-sorted
returns-clause-sorted c =
    let d = c.args.design.now in
    let sets = c.args.sets.now in
    let ins = inputs_of (parts_of d) in
    let zeros = ap (map number) (c.in_ok-numbers.ensures.items_if_clones_equal (λ y e. e))
    ∙ numbers_are ins c.input_count.result (c.input_count.ensures ∙ sym (length-drop d.register_count d.terms.names)) in
    let values = numbers_written c.in_ok-numbers.numbers c.deref_mut.result.now c.set_numbers.new.numbers sets c.deref_mut.ensures.value c.set_numbers.ensures
    ∙ ap (λ xs. with_all xs sets) zeros in
    subst (AreOfSorts ins) (sym values) (inputs_sorted ins (number_zeros ins) sets d.words (number_zeros_sorted ins d.words) c.requires)
