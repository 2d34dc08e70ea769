use Rattle.std.proofs.Common.{◌≡◌, ◌++◌, List, map, drop}
use Rattle.verilog_registers.specs.Order.{Member}
use Rattle.v_ordered.specs.Membership.{with_new, nets_named}
use Rattle.v_ordered.proofs.members.add_variables.Given as goal

abbrev pub invariant-loop-variable : goal.invariant-loop-variable
invariant-loop-variable l =
    (rest : List Member) → with_new l.initial.members (nets_named (map (λ v. v.name.now) l.variables) ++ rest)
    ≡ with_new l.members (nets_named (map (λ v. v.name.now) (drop l.variable-index l.variables)) ++ rest)
