use Rattle.std.proofs.Common.{◌∙◌, length, sym, subst, arith}
use Rattle.std.specs.Prelude.{IsTrue}
use Rattle.std.proofs.lemmas.List.{length-map}
use Rattle.wb_values.specs.Value.{Name, Sort}
use Rattle.model_meaning.specs.Model.{StateDeclaration, states_of}
use Rattle.v_design.specs.Parts.{is_term_of}
use Rattle.ila_model.specs.Model.{model_of}
use Rattle.ila_child.specs.State.{sorts_of_states}
use Rattle.mapped_designs.specs.View.{mapped_of, number_of}
use Rattle.mapped_designs.specs.Runs.{shown_state, worth_of_registers_at}
use Rattle.run_terms.proofs.Copied.{is_term, terms_counted}
use Rattle.fact_terms.specs.Shown.{run_of}
use Rattle.fact_terms.proofs.Rows.{there, id_there, test_at, shown_same}
use Rattle.fact_terms.proofs.Claimed.{state_declared, state_value}
use Rattle.fact_terms.proofs.states.state_at.Goals as goal

pub index-requires : goal.index-requires
index-requires c =
    let h = c.args.shared.now in
    let m = model_of h.model.now in
    let e = mapped_of h.mapped.now in
    let ss = states_of m.top in
    omega (
      arith,
      c.requires.state,
      length-map h.mapped.now.states.items number_of,
      terms_counted e.parts.graph (sorts_of_states ss) e.states c.requires.ready.1.sorted.states,
      length-map {B = Name × Sort} ss (λ (z : StateDeclaration). (z.state_name, z.sort)),
    )

pub shown_at-requires-clause-id : goal.shown_at-requires-clause-id
shown_at-requires-clause-id c =
    let h = c.args.shared.now in
    let m = model_of h.model.now in
    let e = mapped_of h.mapped.now in
    let r = c.requires.ready.1 in
    let ss = states_of m.top in
    let names = length-map {B = Name × Sort} ss (λ (z : StateDeclaration). (z.state_name, z.sort)) in
    let count = terms_counted e.parts.graph (sorts_of_states ss) e.states r.sorted.states in
    let items = h.mapped.now.states.items in
    let id = c.index.result.now in
    let d = there ss c.args.place c.requires.state in
    let at = id_there items c.args.place id (omega (arith, c.requires.state, length-map items number_of, count, names)) c.index.ensures in
    let test = test_at e.parts.graph (sorts_of_states ss) e.states c.args.place id.0 r.sorted.states (omega (arith, c.requires.state, names)) at in
    (is_term e.parts.graph d.0.sort id.0 (subst (λ (s : Sort). IsTrue (is_term_of e.parts.graph s id.0)) (state_declared ss c.args.place d.0 d.1) test)).below

pub returns : goal.returns
returns c g d r s =
    let h = c.args.shared.now in
    let m = model_of h.model.now in
    let e = mapped_of h.mapped.now in
    let n = length h.read.now in
    let ss = states_of m.top in
    let names = length-map {B = Name × Sort} ss (λ (z : StateDeclaration). (z.state_name, z.sort)) in
    let count = terms_counted e.parts.graph (sorts_of_states ss) e.states r.sorted.states in
    let items = h.mapped.now.states.items in
    let id = c.index.result.now in
    let at = id_there items c.args.place id (omega (arith, c.requires.state, length-map items number_of, count, names)) c.index.ensures in
    let test = test_at e.parts.graph (sorts_of_states ss) e.states c.args.place id.0 r.sorted.states (omega (arith, c.requires.state, names)) at in
    let term = subst (λ (x : Sort). IsTrue (is_term_of e.parts.graph x id.0)) (state_declared ss c.args.place d s) test in
    shown_same c.shown_at.result.0 d.sort (λ v. worth_of_registers_at e.parts (run_of e n v) c.args.cycle id.0) (λ v. shown_state m e (run_of e n v) c.args.cycle d.state_name)
    (λ v. sym (state_value m e (run_of e n v) c.args.cycle c.args.place id.0 d r.distinct s (count ∙ names) at))
    (c.shown_at.ensures g d.sort r term)
