use Rattle.std.proofs.Common.{map, take}
use Rattle.obligation_lists.specs.Claims.{fact_of}
use Rattle.mapped_designs.specs.Runs.{ShowsAll}
use Rattle.shown_facts.specs.Values.{model_in, map_in, values_in}
use Rattle.trace_replay.specs.Found.{AreReadAt}
use Rattle.trace_replay.proofs.walking.first_failing.Given as goal

abbrev pub invariant-loop-place : goal.invariant-loop-place
invariant-loop-place l =
    AreReadAt l.shown.later_cycle (map fact_of l.facts) → ShowsAll (model_in l.given) (map_in l.given) (values_in l.given) (take l.place (map fact_of l.facts))
