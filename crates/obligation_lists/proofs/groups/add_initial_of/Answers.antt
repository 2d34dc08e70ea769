use Rattle.std.proofs.Common.{not, sym, ap, ◌∙◌}
use Rattle.model_meaning.specs.Model.{states_of}
use Rattle.refinement.specs.Obligation.{initial, state_obligations}
use Rattle.wb_terms.specs.Environment.{as_value}
use Rattle.ila_model.specs.Model.{model_of}
use Rattle.obligation_lists.specs.Claims.{hypotheses_of}
use Rattle.obligation_lists.proofs.Growing.{none, read_as, with_initial, without_initial}
use Rattle.obligation_lists.proofs.groups.add_initial_of.Goals as goal

pub returns : goal.returns
returns c =
    let g = c.args.group in
    let m = model_of c.args.model.now in
    λ counts d here hyps.
    read_as m counts _ _ _ _ (c.in_ok-add_state.ensures counts d here hyps tt)
    (λ p h. ap (λ ds. state_obligations g.text.now g.cycles (hypotheses_of p g.hypotheses) (λ n. initial n g.cycles) ds)
    (sym (with_initial as_value (states_of m.top) c.args.place d c.initial_value.result.now here c.initial_value.ensures
    (c.is_none.ensures ∙ ap not c.if-is_none.false))))

pub returns-then-is_none : goal.returns-then-is_none
returns-then-is_none c =
    let g = c.args.group in
    let m = model_of c.args.model.now in
    λ counts d here hyps.
    read_as m counts _ _ _ _ (none m counts _)
    (λ p h. ap (λ ds. state_obligations g.text.now g.cycles (hypotheses_of p g.hypotheses) (λ n. initial n g.cycles) ds)
    (sym (without_initial as_value (states_of m.top) c.args.place d c.initial_value.result.now here c.initial_value.ensures
    (c.is_none.ensures ∙ ap not c.if-is_none.true))))
