use Rattle.std.proofs.Common.{refl, arith}
use Rattle.model_meaning.specs.Model.{states_of}
use Rattle.wb_terms.specs.Sort.{as_sort}
use Rattle.ila_model.specs.Model.{model_of}
use Rattle.check_limits.proofs.Summing.{one_state, all_states}
use Rattle.check_limits.proofs.memories.bits_of_states.Goals as goal

pub loop-place-init : goal.loop-place-init
loop-place-init c = (omega arith, omega arith)

pub overflow_add-total : goal.overflow_add-total
overflow_add-total c = omega (arith, c.loop-place.invariant.1, c.bits_of_state-total.ensures.bound, c.loop-place-test.true, c.state_count-place-end.type_inv)

pub loop-place-preserved : goal.loop-place-preserved
loop-place-preserved c =
    let ss = states_of (model_of c.args.model.now).top in (
      one_state ss c.loop-place.place c.loop-place.total c.bits_of_state-total.result _ (as_sort c.state_sort.result) c.state_sort.ensures.sort c.bits_of_state-total.ensures.value refl c.loop-place.invariant.0,
      omega (arith, c.loop-place.invariant.1, c.bits_of_state-total.ensures.bound),
    )

pub returns-clause-value : goal.returns-clause-value
returns-clause-value c = all_states (states_of (model_of c.args.model.now).top) c.loop-place.place c.loop-place.total (omega (arith, c.loop-place-test.false, c.state_count-place-end.ensures.states)) c.loop-place.invariant.0

pub returns-clause-bound : goal.returns-clause-bound
returns-clause-bound c = omega (arith, c.loop-place.invariant.1, c.loop-place.auto.place-end, c.state_count-place-end.type_inv)
