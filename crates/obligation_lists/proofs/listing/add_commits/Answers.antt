use Rattle.std.proofs.Common.{◌≡◌, ◌+◌, ◌<◌, ◌≤◌, ap, arith}
use Rattle.refinement.specs.Obligation.{for_each, commit_obligations}
use Rattle.ila_model.specs.Model.{model_of}
use Rattle.obligation_lists.proofs.Growing.{next, read_as, for_each_next}
use Rattle.obligation_lists.proofs.listing.add_commits.Goals as goal

pub loop-cycle-preserved : goal.loop-cycle-preserved
loop-cycle-preserved c =
    let m = model_of c.args.model.now in
    let counts = c.args.counts in
    let t = c.loop-cycle.cycle in
    let here : t < c.args.bound = omega (arith, c.loop-cycle-test.true) in
    let stop : t + 1 ≤ c.args.bound = omega (arith, here) in (
      stop,
      read_as m counts _ _ _ _ (next m counts _ _ _ _ _ c.loop-cycle.invariant.1 c.in_ok-add_commit.ensures)
          (λ p h. for_each_next (commit_obligations m p c.args.place c.args.name.now) t),
    )

pub returns : goal.returns
returns c =
    let m = model_of c.args.model.now in
    let end : c.loop-cycle.cycle ≡ c.args.bound = omega (arith, c.loop-cycle.invariant.0, c.loop-cycle-test.false) in
    read_as m c.args.counts _ _ _ _ c.loop-cycle.invariant.1
    (λ p h. ap (for_each (commit_obligations m p c.args.place c.args.name.now) 0) end)
