use Rattle.std.proofs.Common.{◌≡◌, drop, map}
use Rattle.v_value.specs.Scope.{scope_at}
use Rattle.v_rules.specs.Judging.{none}
use Rattle.v_syntax.specs.Tree.{tree_of, target_of}
use Rattle.v_rules.specs.Items.{assignments_from}
use Rattle.v_rules.proofs.item.broken_assignments.Given as goal

abbrev pub invariant-loop-assignment : goal.invariant-loop-assignment
invariant-loop-assignment l = assignments_from (scope_at l.names.scope.now) none (map (λ a. (target_of a.target, tree_of a.value)) l.assignments) ≡ assignments_from (scope_at l.names.scope.now) l.all (map (λ a. (target_of a.target, tree_of a.value)) (drop l.assignment-index l.assignments))
