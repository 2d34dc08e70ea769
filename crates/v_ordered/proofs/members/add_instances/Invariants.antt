use Rattle.std.proofs.Common.{◌≡◌, ◌++◌, List, map, drop}
use Rattle.verilog_registers.specs.Order.{Member}
use Rattle.v_ordered.specs.Membership.{with_new, instances_named}
use Rattle.v_ordered.proofs.members.add_instances.Given as goal

abbrev pub invariant-loop-each : goal.invariant-loop-each
invariant-loop-each l =
    (rest : List Member) → with_new l.initial.members (instances_named (map (λ i. i.name.now) l.instances) ++ rest)
    ≡ with_new l.members (instances_named (map (λ i. i.name.now) (drop l.each-index l.instances)) ++ rest)
