use Rattle.std.proofs.Common.{◌≡◌, drop, map}
use Rattle.v_syntax.specs.Tree.{tree_of, target_of}
use Rattle.v_hier.specs.Reading.{knows, assignments_known}
use Rattle.v_hier.proofs.item.are_assignments_known.Given as goal

abbrev pub invariant-loop-assignment : goal.invariant-loop-assignment
invariant-loop-assignment l = assignments_known (knows l.names) (map (λ a. (target_of a.target, tree_of a.value)) l.assignments) ≡ assignments_known (knows l.names) (map (λ a. (target_of a.target, tree_of a.value)) (drop l.assignment-index l.assignments))
