use Rattle.std.proofs.Common.{◌∙◌, ◌≡◌, sym, ap, arith, drop, length, false}
use Rattle.std.proofs.lemmas.List.{length-drop}
use Rattle.ila_model.specs.Sorted.{are_inputs, are_states}
use Rattle.ila_model.proofs.Declarations.{are_inputs-within, are_states-within, are_distinct-from}
use Rattle.ila_model.proofs.sorted.are_declarations.Goals as goal

pub are_placed-requires : goal.are_placed-requires
are_placed-requires c =
    let p = c.args.parts.now in
    let states = are_states-within false p.terms.names c.deref.result.now (sym c.are_states.ensures ∙ c.if-not-are_states.false) in
    let inputs = are_inputs-within p.inputs (drop c.len-states.result p.terms.names) (sym c.are_inputs.ensures ∙ c.if-not-are_inputs.false) in
    omega (arith, length-drop c.len-states.result p.terms.names, states, inputs, ap length c.deref.ensures.value)

pub overflow_add-states : goal.overflow_add-states
overflow_add-states c =
    let p = c.args.parts.now in
    let states = are_states-within false p.terms.names c.deref.result.now (sym c.are_states.ensures ∙ c.if-not-are_states.false) in
    let inputs = are_inputs-within p.inputs (drop c.len-states.result p.terms.names) (sym c.are_inputs.ensures ∙ c.if-not-are_inputs.false) in
    omega (arith, length-drop c.len-states.result p.terms.names, states, inputs, ap length c.deref.ensures.value)

pub returns-clause-distinct : goal.returns-clause-distinct
returns-clause-distinct c = are_distinct-from _ c.name_count-names.ensures.distinct

pub returns-then-not-are_states-clause-distinct : goal.returns-then-not-are_states-clause-distinct
returns-then-not-are_states-clause-distinct c = are_distinct-from _ c.name_count-names.ensures.distinct

pub returns-then-not-are_inputs-clause-distinct : goal.returns-then-not-are_inputs-clause-distinct
returns-then-not-are_inputs-clause-distinct c = are_distinct-from _ c.name_count-names.ensures.distinct
