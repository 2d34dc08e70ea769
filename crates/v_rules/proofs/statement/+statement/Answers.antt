use Rattle.v_value.specs.Scope.{scope_at}
use Rattle.v_syntax.specs.Tree.{case_kind_of}
use Rattle.v_rules.proofs.Ladders as ladders
use Rattle.v_rules.proofs.statement.+statement.Goals as goal

pub broken_statement-returns-in-Empty : goal.broken_statement-returns-in-Empty
broken_statement-returns-in-Empty t c = ladders.at-Empty (scope_at c.args.names.scope.now) c.args.clocked c.args.statement.now c.nothing.result c.in-Empty.is c.nothing.ensures

pub broken_statement-returns-in-Blocking : goal.broken_statement-returns-in-Blocking
broken_statement-returns-in-Blocking t c =
    ladders.at-Blocking (scope_at c.args.names.scope.now) c.args.clocked c.args.statement.now c.broken_assignment.result c.in-Blocking.target c.in-Blocking.value c.in-Blocking.is c.deref.result.now c.deref.ensures c.broken_assignment.ensures

pub broken_statement-returns-in-Nonblocking : goal.broken_statement-returns-in-Nonblocking
broken_statement-returns-in-Nonblocking t c =
    ladders.at-Nonblocking (scope_at c.args.names.scope.now) c.args.clocked c.args.statement.now c.broken_assignment-in-Nonblocking.result c.in-Nonblocking.target c.in-Nonblocking.value c.in-Nonblocking.is c.deref-in-Nonblocking.result.now c.deref-in-Nonblocking.ensures c.broken_assignment-in-Nonblocking.ensures

pub broken_statement-returns-in-Some : goal.broken_statement-returns-in-Some
broken_statement-returns-in-Some t c =
    ladders.at-If (scope_at c.args.names.scope.now) c.args.clocked c.args.statement.now c.broken_ladder.result c.in-If.arms c.in-If.last c.in-If.is c.in-Some.other c.in-Some.is
    c.deref-in-Some.result.now c.deref-in-Some.ensures.value c.deref-in-Some-2.result.now c.deref-in-Some-2.ensures c.broken_statement.result c.broken_statement.ensures c.broken_ladder.ensures

pub broken_statement-returns-in-None : goal.broken_statement-returns-in-None
broken_statement-returns-in-None t c =
    ladders.at-If-alone (scope_at c.args.names.scope.now) c.args.clocked c.args.statement.now c.broken_ladder-in-None.result c.in-If.arms c.in-If.last c.in-If.is c.in-None.is
    c.deref-in-None.result.now c.deref-in-None.ensures.value c.nothing-in-None.result c.nothing-in-None.ensures c.broken_ladder-in-None.ensures

pub broken_statement-returns-in-Case : goal.broken_statement-returns-in-Case
broken_statement-returns-in-Case t c =
    ladders.at-Case (scope_at c.args.names.scope.now) c.args.clocked c.args.statement.now c.also.result c.in-Case.kind c.in-Case.expression c.in-Case.items c.in-Case.is
    c.deref-in-Case.result.now c.deref-in-Case.ensures.value c.broken_expression.result c.broken_items.result c.broken_expression.ensures c.broken_items.ensures c.also.ensures

pub broken_statement-returns-in-Block : goal.broken_statement-returns-in-Block
broken_statement-returns-in-Block t c =
    ladders.at-Block (scope_at c.args.names.scope.now) c.args.clocked c.args.statement.now c.broken_statements.result c.in-Block.field-0 c.in-Block.statements c.in-Block.is
    c.deref-in-Block.result.now c.deref-in-Block.ensures.value c.broken_statements.ensures

pub broken_item-returns-in-Values : goal.broken_item-returns-in-Values
broken_item-returns-in-Values t c =
    ladders.at-Values (scope_at c.args.names.scope.now) c.args.clocked (case_kind_of c.args.kind) c.args.item.now c.also.result c.in-Values.values c.in-Values.statement c.in-Values.is
    c.deref.result.now c.deref.ensures.value c.broken_values.result c.broken_statement.result c.broken_values.ensures c.broken_statement.ensures c.also.ensures

pub broken_item-returns-in-Default : goal.broken_item-returns-in-Default
broken_item-returns-in-Default t c =
    ladders.at-Default (scope_at c.args.names.scope.now) c.args.clocked (case_kind_of c.args.kind) c.args.item.now c.broken_statement-in-Default.result c.in-Default.statement c.in-Default.is c.broken_statement-in-Default.ensures
