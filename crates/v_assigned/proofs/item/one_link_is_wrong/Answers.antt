use Rattle.std.proofs.Common.{◌∙◌, false, ap, sym, arith}
use Rattle.std.specs.Prelude.{map}
use Rattle.std.proofs.lemmas.List.{at_drop_all}
use Rattle.v_statement.proofs.Runs.{rest_is}
use Rattle.v_syntax.specs.Tree.{target_of, tree_of}
use Rattle.v_value.specs.Scope.{scope_at}
use Rattle.v_assigned.specs.Names.{is_wrong}
use Rattle.v_assigned.specs.Assigned.{one_link_assigns}
use Rattle.v_assigned.proofs.Parts.{past, hit}
use Rattle.v_assigned.proofs.item.one_link_is_wrong.Goals as goal

pub loop-assignment-preserved : goal.loop-assignment-preserved
loop-assignment-preserved c =
    let xs = c.args.assignments.now in
    let i = c.loop-assignment.assignment-index in
    let r = c.assignment-item.result in
    past _ _ _ _
    (c.loop-assignment.invariant ∙ ap (λ ys. one_link_assigns (is_wrong c.args.names.now (scope_at c.args.scope.now) false) (map (λ a. (target_of a.target, tree_of a.value)) ys)) (rest_is xs i r (omega arith) c.assignment-item.is))
    c.assigns_wrong.ensures c.if-assigns_wrong.false

pub returns-then-assigns_wrong : goal.returns-then-assigns_wrong
returns-then-assigns_wrong c =
    let xs = c.args.assignments.now in
    let i = c.loop-assignment.assignment-index in
    let r = c.assignment-item.result in
    hit _ _ _ _
    (c.loop-assignment.invariant ∙ ap (λ ys. one_link_assigns (is_wrong c.args.names.now (scope_at c.args.scope.now) false) (map (λ a. (target_of a.target, tree_of a.value)) ys)) (rest_is xs i r (omega arith) c.assignment-item.is))
    c.assigns_wrong.ensures c.if-assigns_wrong.true

pub returns : goal.returns
returns c =
    sym (c.loop-assignment.invariant ∙ at_drop_all (λ ys. one_link_assigns (is_wrong c.args.names.now (scope_at c.args.scope.now) false) (map (λ a. (target_of a.target, tree_of a.value)) ys)) c.args.assignments.now c.loop-assignment.assignment-index c.loop-assignment-test.false)
