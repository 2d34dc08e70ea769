use Rattle.std.proofs.Common.{◌∙◌, ◌+◌, drop, ap, sym, arith}
use Rattle.std.specs.List.{list_any}
use Rattle.std.proofs.lemmas.List.{at_drop_all}
use Rattle.std.proofs.lemmas.List.Folds.{list_any-append}
use Rattle.verilog_designs.specs.Drivers.{target_names, targets_names}
use Rattle.v_syntax.specs.Tree.{target_of}
use Rattle.v_statement.specs.Statements.{target_list}
use Rattle.v_statement.proofs.Runs.{rest_is}
use Rattle.v_statement.proofs.Targets.{target_of-Joined}
use Rattle.v_value.specs.Scope.{scope_at}
use Rattle.v_assigned.specs.Names.{is_wrong}
use Rattle.v_assigned.proofs.Parts.{or_false, past, hit}
use Rattle.v_assigned.proofs.target.+parts.Goals as goal

pub assigns_wrong-returns-in-Place : goal.assigns_wrong-returns-in-Place
assigns_wrong-returns-in-Place t c =
    let p = is_wrong c.args.names.now (scope_at c.args.scope.now) c.args.in_block in
    c.is_wrong.ensures ∙ or_false (p c.in-Place.name.now) ∙ sym (ap (λ z. list_any p (target_names (target_of z))) c.in-Place.is)

pub assigns_wrong-returns-in-Joined : goal.assigns_wrong-returns-in-Joined
assigns_wrong-returns-in-Joined t c =
    let p = is_wrong c.args.names.now (scope_at c.args.scope.now) c.args.in_block in
    c.one_assigns_wrong.ensures ∙ ap (λ ts. list_any p (targets_names (target_list ts))) c.deref.ensures.value
    ∙ sym (ap (λ z. list_any p (target_names (target_of z))) c.in-Joined.is ∙ ap (λ z. list_any p (target_names z)) (target_of-Joined c.in-Joined.targets))

pub one_assigns_wrong-loop-target-preserved : goal.one_assigns_wrong-loop-target-preserved
one_assigns_wrong-loop-target-preserved t c =
    let p = is_wrong c.args.names.now (scope_at c.args.scope.now) c.args.in_block in
    let xs = c.args.targets.now in
    let i = c.loop-target.target-index in
    let r = c.target-item.result in
    past _ _ _ _
    (c.loop-target.invariant ∙ ap (λ ys. list_any p (targets_names (target_list ys))) (rest_is xs i r (omega arith) c.target-item.is)
    ∙ list_any-append p (target_names (target_of r)) (targets_names (target_list (drop (i + 1) xs))))
    c.assigns_wrong.ensures c.if-assigns_wrong.false

pub one_assigns_wrong-returns-then-assigns_wrong : goal.one_assigns_wrong-returns-then-assigns_wrong
one_assigns_wrong-returns-then-assigns_wrong t c =
    let p = is_wrong c.args.names.now (scope_at c.args.scope.now) c.args.in_block in
    let xs = c.args.targets.now in
    let i = c.loop-target.target-index in
    let r = c.target-item.result in
    hit _ _ _ _
    (c.loop-target.invariant ∙ ap (λ ys. list_any p (targets_names (target_list ys))) (rest_is xs i r (omega arith) c.target-item.is)
    ∙ list_any-append p (target_names (target_of r)) (targets_names (target_list (drop (i + 1) xs))))
    c.assigns_wrong.ensures c.if-assigns_wrong.true

pub one_assigns_wrong-returns : goal.one_assigns_wrong-returns
one_assigns_wrong-returns t c =
    let p = is_wrong c.args.names.now (scope_at c.args.scope.now) c.args.in_block in
    sym (c.loop-target.invariant ∙ at_drop_all (λ ys. list_any p (targets_names (target_list ys))) c.args.targets.now c.loop-target.target-index c.loop-target-test.false)
