use Rattle.std.proofs.Common.{◌∙◌, map, refl, sym, ap, subst}
use Rattle.std.specs.Prelude.{All, IsTrue}
use Rattle.wb_values.specs.Value.{truth, as_truth}
use Rattle.wb_terms.specs.declared.nodes.TermId.{TermId}
use Rattle.wb_terms.specs.Environment.{value_of}
use Rattle.v_design.specs.Seen.{register_values, input_values}
use Rattle.v_design.specs.Parts.{is_term_of}
use Rattle.v_cycle.specs.Running.{registers_in}
use Rattle.shown_facts.specs.Values.{model_in, map_in}
use Rattle.shown_facts.proofs.Noting.{invariant_terms, seen_so}
use Rattle.shown_facts.proofs.seen.seen_from.Goals as goal

pub mapped_state-requires-clause-sorted : goal.mapped_state-requires-clause-sorted
mapped_state-requires-clause-sorted c = c.requires.given.sorted

pub bits_of-requires-clause-conditions : goal.bits_of-requires-clause-conditions
bits_of-requires-clause-conditions c =
    let x = c.args.given.now.mapped.now in
    subst (All (λ (id : TermId). IsTrue (is_term_of x.design.terms truth id.0))) (sym c.deref.ensures.value) (invariant_terms (model_in c.args.given.now) x c.requires.given.sorted)

pub returns : goal.returns
returns c =
    let g = c.args.given.now in
    let x = g.mapped.now in
    let cs = registers_in c.in_ok-cycle.cycle in
    let is = input_values c.args.zeros.now in
    let e = c.cycle.new.self.env in
    seen_so (model_in g) (map_in g) (register_values c.args.registers.now) cs is e _ x.invariants.items c.cycle.ensures.ran c.in_ok-cycle.ensures.registers c.requires.zeros
    (c.in_ok-state.ensures.values cs is c.cycle.ensures.ran) c.in_ok-state.ensures.sorted refl
    (c.in_ok-invariants.ensures ∙ ap (map (λ (id : TermId). as_truth (value_of x.design.terms e id.0))) c.deref.ensures.value)
