use Rattle.std.proofs.Common.{◌∙◌, ◌<◌, length, map, sym, ap, subst}
use Rattle.std.specs.Prelude.{All}
use Rattle.model_meaning.specs.Model.{states_of}
use Rattle.wb_terms.specs.declared.nodes.TermId.{TermId}
use Rattle.wb_terms.specs.Environment.{AreOfSorts, as_value, value_of}
use Rattle.ila_model.specs.Model.{model_of}
use Rattle.ila_child.specs.State.{sorts_of_states}
use Rattle.v_design.specs.Seen.{parts_of}
use Rattle.mapped_cycles.proofs.Terms.{within, of_sorts, worths}
use Rattle.mapped_cycles.proofs.reading.mapped_state.Goals as goal

pub term_values-requires-clause-within : goal.term_values-requires-clause-within
term_values-requires-clause-within c =
    let g = (parts_of c.args.mapped.now.design).graph in
    let ns = sorts_of_states (states_of (model_of c.args.model.now).top) in
    subst (All (λ (id : TermId). id.0 < length g.nodes)) (sym c.deref.ensures.value) (within g ns c.args.mapped.now.states.items c.requires.sorted.states)

pub of_values-requires : goal.of_values-requires
of_values-requires c =
    let g = (parts_of c.args.mapped.now.design).graph in
    let e = c.args.cycle.now.env in
    let ns = sorts_of_states (states_of (model_of c.args.model.now).top) in
    let same = ap (map as_value) c.deref-2.ensures.value ∙ (c.in_ok-values.ensures ∙ ap (map (λ (id : TermId). value_of g e id.0)) c.deref.ensures.value) in
    subst (AreOfSorts ns) (sym same) (of_sorts g e c.args.cycle.now.words ns c.args.mapped.now.states.items c.requires.run c.requires.sorted.states)

pub returns-clause-sorted : goal.returns-clause-sorted
returns-clause-sorted c =
    let g = (parts_of c.args.mapped.now.design).graph in
    let e = c.args.cycle.now.env in
    let ns = sorts_of_states (states_of (model_of c.args.model.now).top) in
    let same = c.in_ok-state.ensures ∙ (ap (map as_value) c.deref-2.ensures.value ∙ (c.in_ok-values.ensures ∙ ap (map (λ (id : TermId). value_of g e id.0)) c.deref.ensures.value)) in
    subst (AreOfSorts ns) (sym same) (of_sorts g e c.args.cycle.now.words ns c.args.mapped.now.states.items c.requires.run c.requires.sorted.states)

pub returns-clause-values : goal.returns-clause-values
returns-clause-values c rs is has =
    let d = parts_of c.args.mapped.now.design in
    let e = c.args.cycle.now.env in
    c.in_ok-state.ensures ∙ (ap (map as_value) c.deref-2.ensures.value ∙ (c.in_ok-values.ensures ∙ (ap (map (λ (id : TermId). value_of d.graph e id.0)) c.deref.ensures.value ∙ worths d e rs is c.args.mapped.now.states.items has)))
