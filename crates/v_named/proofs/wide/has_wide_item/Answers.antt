use Rattle.std.proofs.Common.{arith, ap, ◌+◌, drop}
use Rattle.std.proofs.lemmas.List.{drop_all}
use Rattle.v_syntax.specs.Source.{item_of}
use Rattle.v_value.specs.Scope.{objects_of, scope_at}
use Rattle.v_named.proofs.Breadth.{looking_begun, looking_found, looking_on, looking_ended, items_of, items_drop}
use Rattle.v_named.proofs.wide.has_wide_item.Goals as goal

pub loop-item-init : goal.loop-item-init
loop-item-init c = λ b h.
    looking_begun (objects_of c.args.before.scope.declarations.items) (scope_at c.args.constants.scope.now) c.args.name.now (items_of c.args.items.now) b h

pub loop-item-preserved : goal.loop-item-preserved
loop-item-preserved c = λ b h.
    looking_on (objects_of c.loop-item.known.scope.declarations.items) (objects_of c.in_ok-known.known.scope.declarations.items) (scope_at c.args.constants.scope.now) c.args.name.now (item_of c.item-item.result)
    (items_of (drop (c.loop-item.item-index + 1) c.args.items.now)) (items_of (drop c.loop-item.item-index c.args.items.now)) (items_of c.args.items.now) b c.is_wide_item.result
    (items_drop c.args.items.now c.loop-item.item-index c.item-item.result (omega arith) c.item-item.is) c.is_wide_item.ensures c.if-is_wide_item.false c.in_ok-known.ensures (c.loop-item.invariant b h)

pub returns-then-is_wide_item : goal.returns-then-is_wide_item
returns-then-is_wide_item c = λ b h.
    looking_found (objects_of c.loop-item.known.scope.declarations.items) (scope_at c.args.constants.scope.now) c.args.name.now (item_of c.item-item.result)
    (items_of (drop (c.loop-item.item-index + 1) c.args.items.now)) (items_of (drop c.loop-item.item-index c.args.items.now)) (items_of c.args.items.now) b c.is_wide_item.result
    (items_drop c.args.items.now c.loop-item.item-index c.item-item.result (omega arith) c.item-item.is) c.is_wide_item.ensures c.if-is_wide_item.true (c.loop-item.invariant b h)

pub returns : goal.returns
returns c = λ b h.
    looking_ended (objects_of c.loop-item.known.scope.declarations.items) (scope_at c.args.constants.scope.now) c.args.name.now (items_of (drop c.loop-item.item-index c.args.items.now)) (items_of c.args.items.now) b
    (ap items_of (drop_all c.loop-item.item-index c.args.items.now (omega arith))) (c.loop-item.invariant b h)
