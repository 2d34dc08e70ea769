use Rattle.std.proofs.Common.{◌∙◌, ◌++◌, length, map, sym, ap}
use Rattle.std.proofs.lemmas.List.{length-map}
use Rattle.ila_file.specs.View.{machine_view, state_view}
use Rattle.ila_build.proofs.ChildLemmas.{child_put}
use Rattle.std.proofs.lemmas.Result.{err_from_is_err_and}
use Rattle.ila_build.proofs.ChildDue.{states_lost, machine_lost}
use Rattle.ila_build.proofs.LeavingLemmas.{left_same, states_left, child_left}
use Rattle.ila_build.proofs.Declared.{in_table}
use Rattle.ila_build.specs.Declaring.{state_entry}
use Rattle.ila_build.proofs.child.put_child.Goals as goal

pub returns-clause-put : goal.returns-clause-put
returns-clause-put c =
    child_put c.args.terms.now c.declare_states.new.terms c.put_machine.new.terms c.args.known.now c.declare_states.new.known c.put_machine.new.known c.args.links.now (machine_view c.args.machine.now) (map state_view c.states_of-states.result.now) _
    c.states_of-states.ensures c.in_ok-declare_states.ensures.left.wider c.in_ok-declare_states.ensures.names c.in_ok-declare_states.ensures.left.kept c.in_ok-declare_states.ensures.table c.in_ok-valid.ensures.grown c.in_ok-valid.ensures.put
    c.name_count.ensures.names c.in-Ok.ensures (sym c.have_values.ensures ∙ c.if-not-have_values.false)

pub returns-in_err-declare_states-clause-unrefused : goal.returns-in_err-declare_states-clause-unrefused
returns-in_err-declare_states-clause-unrefused c =
    let p = err_from_is_err_and c.from_residual.result c.from_residual.ensures.1 in
    rw (p.1, p.2) (states_lost c.args.terms.now c.args.known.now c.args.steps (map state_view c.states_of-states.result.now) (machine_view c.args.machine.now) c.in_err-declare_states.field-0.0 c.states_of-states.ensures c.in_err-declare_states.ensures.unrefused)

pub returns-in_err-valid-clause-unrefused : goal.returns-in_err-valid-clause-unrefused
returns-in_err-valid-clause-unrefused c =
    let p = err_from_is_err_and c.from_residual-in_err-valid.result c.from_residual-in_err-valid.ensures.1 in
    rw (p.1, p.2) (machine_lost c.args.terms.now c.declare_states.new.terms c.args.known.now c.declare_states.new.known c.args.steps (map state_view c.states_of-states.result.now) (machine_view c.args.machine.now) c.in_err-valid.field-0.0 c.states_of-states.ensures
    c.in_ok-declare_states.ensures.left.wider c.in_ok-declare_states.ensures.names c.in_ok-declare_states.ensures.left.kept c.in_ok-declare_states.ensures.table c.in_ok-declare_states.ensures.left.besides c.in_err-valid.ensures.unrefused)

pub returns-clause-names : goal.returns-clause-names
returns-clause-names c = c.in_ok-valid.ensures.grown.names ∙ (c.in_ok-declare_states.ensures.names ∙ ap (λ ss. c.args.terms.now.names ++ map state_entry ss) c.states_of-states.ensures)

pub returns-clause-values : goal.returns-clause-values
returns-clause-values c = c.in-Ok.ensures ∙ ap (map (λ s. s.init)) c.states_of-states.ensures

pub returns-in_err-declare_states-clause-left : goal.returns-in_err-declare_states-clause-left
returns-in_err-declare_states-clause-left c = states_left c.args.terms.now c.declare_states.new.terms c.args.known.now c.declare_states.new.known (map state_view c.states_of-states.result.now) (length c.states_of-states.result.now) (machine_view c.args.machine.now) c.states_of-states.ensures (sym (length-map c.states_of-states.result.now state_view)) c.in_err-declare_states.ensures.left

pub returns-in_default-clause-left : goal.returns-in_default-clause-left
returns-in_default-clause-left c = states_left c.args.terms.now c.declare_states.new.terms c.args.known.now c.declare_states.new.known (map state_view c.states_of-states.result.now) (length c.states_of-states.result.now) (machine_view c.args.machine.now) c.states_of-states.ensures (sym (length-map c.states_of-states.result.now state_view)) c.in_ok-declare_states.ensures.left

pub returns-in_err-valid-clause-left : goal.returns-in_err-valid-clause-left
returns-in_err-valid-clause-left c = child_left c.args.terms.now c.declare_states.new.terms c.put_machine.new.terms c.args.known.now c.declare_states.new.known c.put_machine.new.known (map state_view c.states_of-states.result.now) (length c.states_of-states.result.now) (machine_view c.args.machine.now) c.states_of-states.ensures (sym (length-map c.states_of-states.result.now state_view)) c.in_ok-declare_states.ensures.left c.in_err-valid.ensures.left

pub returns-clause-left : goal.returns-clause-left
returns-clause-left c = child_left c.args.terms.now c.declare_states.new.terms c.put_machine.new.terms c.args.known.now c.declare_states.new.known c.put_machine.new.known (map state_view c.states_of-states.result.now) (length c.states_of-states.result.now) (machine_view c.args.machine.now) c.states_of-states.ensures (sym (length-map c.states_of-states.result.now state_view)) c.in_ok-declare_states.ensures.left c.in_ok-valid.ensures.left

pub returns-then-steps-gt4096-clause-left : goal.returns-then-steps-gt4096-clause-left
returns-then-steps-gt4096-clause-left c = left_same c.args.terms.now c.args.known.now _ _ (in_table c.args.terms.now c.args.known.now c.requires)
