use Rattle.std.proofs.Common.{◌≤◌, ◌++◌, codes, sym, ap, arith}
use Rattle.model_meaning.specs.Model.{states_of}
use Rattle.refinement.specs.Obligation.{initial, invariant_obligations, state_obligations, with_initial_values}
use Rattle.ila_model.specs.Model.{model_of}
use Rattle.obligation_lists.specs.declared.claims.Hypotheses.TheVariants.{Reset}
use Rattle.obligation_lists.specs.Claims.{hypotheses_of}
use Rattle.obligation_lists.proofs.Growing.{next, read_as}
use Rattle.obligation_lists.proofs.listing.add_reset.Goals as goal

pub returns : goal.returns
returns c =
    let m = model_of c.args.model.now in
    let counts = c.args.counts in
    let fits : counts.reset_cycles ≤ counts.reset_cycles = omega arith in
    read_as m counts _ _ _ _ (next m counts _ _ _ _ _ (c.in_ok-add_invariants.ensures m fits) (c.in_ok-add_initial.ensures counts fits))
    (λ p h. ap (λ k. invariant_obligations p (codes "reset.inv.") k (hypotheses_of p Reset) k
    ++ state_obligations (codes "reset.init.") k (hypotheses_of p Reset) (λ q. initial q k) (with_initial_values (states_of m.top))) (sym h.reset_cycles))
