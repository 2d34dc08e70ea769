use Rattle.std.proofs.Common.{◌≡◌, List, drop}
use Rattle.wb_values.specs.Value.{Value}
use Rattle.v_design.specs.Seen.{parts_of}
use Rattle.v_cycle.specs.Running.{HasRun}
use Rattle.mapped_designs.specs.View.{mapped_of}
use Rattle.run_watch.specs.Failing.{holding, first_broken}
use Rattle.run_watch.proofs.failing.first_broken.Given as goal

abbrev pub invariant-loop-k : goal.invariant-loop-k
invariant-loop-k l =
    (rs is : List Value) → HasRun (parts_of l.mapped.design) l.cycle rs is
    → first_broken (holding (parts_of l.mapped.design) rs is) 0 (mapped_of l.mapped).assume
    ≡ first_broken (holding (parts_of l.mapped.design) rs is) l.k (drop l.k (mapped_of l.mapped).assume)
