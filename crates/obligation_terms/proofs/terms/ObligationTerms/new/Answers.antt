use Rattle.std.proofs.Common.{map, sym, subst}
use Rattle.model_meaning.specs.Model.{states_of}
use Rattle.term_copies.specs.Copies.{AreLeaves}
use Rattle.run_terms.specs.Names.{values_of_run}
use Rattle.ila_child.specs.State.{sorts_of_states, sorts_of_inputs}
use Rattle.v_design.specs.Parts.{registers_of}
use Rattle.mapped_designs.specs.Runs.{IsRestZero, worth_at, worth_of_registers_at}
use Rattle.condition_terms.specs.Told.{Tells}
use Rattle.model_terms.specs.Symbolic.{worths}
use Rattle.model_terms.specs.Terms.{AreTermsOf}
use Rattle.obligation_terms.specs.Rest.{AreTermsFor}
use Rattle.ila_model.specs.Model.{model_of}
use Rattle.mapped_designs.specs.View.{mapped_of}
use Rattle.run_terms.proofs.Copied.{leaves_of}
use Rattle.obligation_terms.proofs.Beginning.{is_ready, registers_for, rest_is}
use Rattle.obligation_terms.proofs.terms.ObligationTerms.new.Goals as goal

pub first_states-requires-clause-sorted : goal.first_states-requires-clause-sorted
first_states-requires-clause-sorted c = (model_of c.args.model.now, c.requires.sorted)

pub first_states-requires-clause-unrolled : goal.first_states-requires-clause-unrolled
first_states-requires-clause-unrolled c = (c.args.cycles, c.in_ok-run.ensures)

pub first_inputs-requires-clause-sorted : goal.first_inputs-requires-clause-sorted
first_inputs-requires-clause-sorted c = (model_of c.args.model.now, c.requires.sorted)

pub first_inputs-requires-clause-unrolled : goal.first_inputs-requires-clause-unrolled
first_inputs-requires-clause-unrolled c = (c.args.cycles, c.in_ok-run.ensures)

pub put_model-requires-clause-states : goal.put_model-requires-clause-states
put_model-requires-clause-states c =
    let m = model_of c.args.model.now in
    let e = mapped_of c.args.mapped.now in
    let n = c.args.cycles in
    let g = c.in_ok-run.run'.terms in
    let ns = sorts_of_states (states_of m.top) in
    subst (AreLeaves g ns) (sym c.deref.ensures.value)
    (leaves_of g ns c.in_ok-states.states.items (λ v. map (worth_of_registers_at e.parts (values_of_run e.parts n v) 0) e.states) (c.in_ok-states.ensures m n c.requires.sorted c.in_ok-run.ensures))

pub put_model-requires-clause-inputs : goal.put_model-requires-clause-inputs
put_model-requires-clause-inputs c =
    let m = model_of c.args.model.now in
    let e = mapped_of c.args.mapped.now in
    let n = c.args.cycles in
    let g = c.in_ok-run.run'.terms in
    let ns = sorts_of_inputs m.inputs in
    subst (AreLeaves g ns) (sym c.deref-2.ensures.value)
    (leaves_of g ns c.in_ok-inputs.inputs.items (λ v. map (worth_at e.parts (values_of_run e.parts n v) 0) e.inputs) (c.in_ok-inputs.ensures m n c.requires.sorted c.in_ok-run.ensures))

pub put_rest-requires : goal.put_rest-requires
put_rest-requires c =
    let d = (mapped_of c.args.mapped.now).parts in
    let k = c.put_model.new.terms in
    record {
      registers = subst (AreTermsFor k (registers_of d)) (sym c.deref-3.ensures.value)
          (registers_for d c.args.cycles c.in_ok-run.run' c.in_ok-run.ensures c.in_ok-modelled.ensures.extended c.check_sorts.ensures);
    }

pub returns-clause-ready : goal.returns-clause-ready
returns-clause-ready c =
    let m = model_of c.args.model.now in
    let e = mapped_of c.args.mapped.now in
    let n = c.args.cycles in
    let r = c.in_ok-run.run' in
    let k = c.put_model.new.terms in
    let h = c.put_rest.new.terms in
    let t = c.in_ok-modelled.modelled in
    let states = c.in_ok-states.states.items in
    let inputs = c.in_ok-inputs.inputs.items in
    let meaning = subst (λ ids. AreTermsOf m k states ids t) c.deref-2.ensures.value (subst (λ ids. AreTermsOf m k ids c.deref-2.result.now t) c.deref.ensures.value c.in_ok-modelled.ensures.meaning) in
    let told = subst (λ ids. Tells h c.in_ok-rest.rest.0 (λ v. IsRestZero e.parts (worths k ids v))) c.deref-3.ensures.value c.in_ok-rest.ensures.told in
    let facts = is_ready c.args.model.now e n r states inputs t c.requires.sorted c.in_ok-run.ensures c.in_ok-modelled.ensures.extended c.check_sorts.ensures c.in_ok-rest.ensures.extended
    (c.in_ok-states.ensures m n c.requires.sorted c.in_ok-run.ensures) (c.in_ok-inputs.ensures m n c.requires.sorted c.in_ok-run.ensures) meaning in
    record {
      names = facts.names;
      facts = facts;
      rest = rest_is c.in_ok-rest.rest.0 e.parts n r c.in_ok-run.ensures c.in_ok-modelled.ensures.extended c.in_ok-rest.ensures.extended told;
    }
