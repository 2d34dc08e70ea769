use Rattle.std.proofs.Common.{◌≡◌, false, drop}
use Rattle.std.specs.Prelude.{map}
use Rattle.v_syntax.specs.Tree.{target_of, tree_of}
use Rattle.v_value.specs.Scope.{scope_at}
use Rattle.v_assigned.specs.Names.{is_wrong}
use Rattle.v_assigned.specs.Assigned.{one_link_assigns}
use Rattle.v_assigned.proofs.item.one_link_is_wrong.Given as goal

abbrev pub invariant-loop-assignment : goal.invariant-loop-assignment
invariant-loop-assignment l =
    one_link_assigns (is_wrong l.names (scope_at l.scope) false) (map (λ a. (target_of a.target, tree_of a.value)) l.assignments)
    ≡ one_link_assigns (is_wrong l.names (scope_at l.scope) false) (map (λ a. (target_of a.target, tree_of a.value)) (drop l.assignment-index l.assignments))
