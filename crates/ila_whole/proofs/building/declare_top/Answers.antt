use Rattle.std.proofs.Common.{◌≡◌, ◌∙◌, true, length, map, ap, sym, subst}
use Rattle.std.proofs.lemmas.List.{length-map}
use Rattle.std.proofs.lemmas.Result.{err_from_is_err_and}
use Rattle.ila_file.specs.View.{input_view, model_view, state_view}
use Rattle.ila_build.specs.Declaring.{input_entry}
use Rattle.ila_build.specs.Standing.{IsFresh}
use Rattle.ila_build.specs.Refusing.{IsBesides, IsNoRefusal, are_sorts, entry_names}
use Rattle.ila_whole.proofs.Small.{small_top}
use Rattle.ila_whole.proofs.Refusals.{states_unrefused, inputs_unrefused, declared_fresh}
use Rattle.ila_whole.proofs.building.declare_top.Goals as goal

pub returns-clause-fresh : goal.returns-clause-fresh
returns-clause-fresh c =
    declared_fresh c.in-Ok.table.1 c.declare_states.new.known c.declare_inputs.new.known (model_view c.args.written.now) (map state_view c.states_of-states.result.now) c.states_of-states.ensures c.in-Ok.ensures.empty c.in_ok-declare_states.ensures.left.besides
    (subst (λ xs. IsBesides c.declare_states.new.known c.declare_inputs.new.known (entry_names (map input_entry (map input_view xs)))) c.deref.ensures.value c.in_ok-declare_inputs.ensures.left.besides)

pub returns-in_err-declare_states-clause-unrefused : goal.returns-in_err-declare_states-clause-unrefused
returns-in_err-declare_states-clause-unrefused c =
    let p = err_from_is_err_and c.from_residual.result c.from_residual.ensures.1 in
    rw (p.1, p.2) (states_unrefused c.in-Ok.table.1 (model_view c.args.written.now) c.in_err-declare_states.field-0.0 (map state_view c.states_of-states.result.now) c.states_of-states.ensures c.in-Ok.ensures.empty c.in_err-declare_states.ensures.unrefused)

pub returns-in_err-declare_inputs-clause-unrefused : goal.returns-in_err-declare_inputs-clause-unrefused
returns-in_err-declare_inputs-clause-unrefused c =
    let p = err_from_is_err_and c.from_residual-in_err-declare_inputs.result c.from_residual-in_err-declare_inputs.ensures.1 in
    rw (p.1, p.2) (inputs_unrefused c.in-Ok.table.1 c.declare_states.new.known (model_view c.args.written.now) c.in_err-declare_inputs.field-0.0 (map state_view c.states_of-states.result.now) c.states_of-states.ensures c.in-Ok.ensures.empty c.in_ok-declare_states.ensures.left.besides
    (subst (λ xs. IsNoRefusal c.in_err-declare_inputs.field-0.0 (IsFresh c.declare_states.new.known (entry_names (map input_entry (map input_view xs))) × (are_sorts (map input_entry (map input_view xs)) ≡ true))) c.deref.ensures.value c.in_err-declare_inputs.ensures.unrefused))

pub returns-clause-small : goal.returns-clause-small
returns-clause-small c =
    small_top (length c.in-Ok.table.0.nodes) (length c.declare_states.new.terms.nodes) (length c.declare_inputs.new.terms.nodes) (length c.states_of-states.result.now) (length c.deref.result.now) _ _
    (ap length c.in-Ok.ensures.terms) c.in_ok-declare_states.ensures.left.added c.in_ok-declare_inputs.ensures.left.added
    (sym (length-map c.states_of-states.result.now state_view) ∙ ap length c.states_of-states.ensures) (ap length c.deref.ensures.value ∙ sym (length-map c.args.written.now.inputs.items input_view))
