use Rattle.std.proofs.Common.{◌≡◌, ◌++◌, List, map, drop}
use Rattle.verilog_registers.specs.Order.{Member}
use Rattle.v_ordered.specs.Membership.{with_new, nets_named}
use Rattle.v_ordered.proofs.members.add_wires.Given as goal

abbrev pub invariant-loop-wire : goal.invariant-loop-wire
invariant-loop-wire l =
    (rest : List Member) → with_new l.initial.members (nets_named (map (λ w. w.name.now) l.wires) ++ rest)
    ≡ with_new l.members (nets_named (map (λ w. w.name.now) (drop l.wire-index l.wires)) ++ rest)
