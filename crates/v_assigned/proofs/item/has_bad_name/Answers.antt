use Rattle.std.proofs.Common.{◌∙◌, ◌+◌, drop, ap, sym, arith}
use Rattle.std.specs.Prelude.{map}
use Rattle.std.proofs.lemmas.List.{at_drop_all}
use Rattle.v_statement.proofs.Runs.{rest_is}
use Rattle.v_syntax.specs.Source.{item_of}
use Rattle.v_value.specs.Scope.{scope_at}
use Rattle.v_assigned.specs.Assigned.{names_are_bad}
use Rattle.v_assigned.proofs.Parts.{past, hit}
use Rattle.v_assigned.proofs.Modules.{one-item}
use Rattle.v_assigned.proofs.item.has_bad_name.Goals as goal

pub loop-item-preserved : goal.loop-item-preserved
loop-item-preserved c =
    let xs = c.args.items.now in
    let i = c.loop-item.item-index in
    let r = c.item-item.result in
    past _ _ _ _
    (c.loop-item.invariant ∙ ap (λ ys. names_are_bad c.args.names.now (scope_at c.args.scope.now) (map item_of ys)) (rest_is xs i r (omega arith) c.item-item.is) ∙ one-item c.args.names.now (scope_at c.args.scope.now) (item_of r) (map item_of (drop (i + 1) xs)))
    c.item_is_wrong.ensures c.if-item_is_wrong.false

pub returns-then-item_is_wrong : goal.returns-then-item_is_wrong
returns-then-item_is_wrong c =
    let xs = c.args.items.now in
    let i = c.loop-item.item-index in
    let r = c.item-item.result in
    hit _ _ _ _
    (c.loop-item.invariant ∙ ap (λ ys. names_are_bad c.args.names.now (scope_at c.args.scope.now) (map item_of ys)) (rest_is xs i r (omega arith) c.item-item.is) ∙ one-item c.args.names.now (scope_at c.args.scope.now) (item_of r) (map item_of (drop (i + 1) xs)))
    c.item_is_wrong.ensures c.if-item_is_wrong.true

pub returns : goal.returns
returns c =
    sym (c.loop-item.invariant ∙ at_drop_all (λ ys. names_are_bad c.args.names.now (scope_at c.args.scope.now) (map item_of ys)) c.args.items.now c.loop-item.item-index c.loop-item-test.false)
