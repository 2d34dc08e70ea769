use Rattle.std.proofs.Common.{refl}
use Rattle.v_hier.specs.Reading.{knows}
use Rattle.v_hier.proofs.Statements as statements
use Rattle.v_hier.proofs.statement.+statement.Goals as goal

pub is_statement_known-returns-in-Empty : goal.is_statement_known-returns-in-Empty
is_statement_known-returns-in-Empty t c = statements.at-Empty (knows c.args.names.now) c.args.statement.now _ c.in-Empty.is refl

pub is_statement_known-returns-in-Blocking : goal.is_statement_known-returns-in-Blocking
is_statement_known-returns-in-Blocking t c =
    statements.at-Blocking (knows c.args.names.now) c.args.statement.now c.is_assignment_known.result c.in-Blocking.target c.in-Blocking.value c.in-Blocking.is c.deref.result.now c.deref.ensures c.is_assignment_known.ensures

pub is_statement_known-returns-in-Nonblocking : goal.is_statement_known-returns-in-Nonblocking
is_statement_known-returns-in-Nonblocking t c =
    statements.at-Nonblocking (knows c.args.names.now) c.args.statement.now c.is_assignment_known-in-Nonblocking.result c.in-Nonblocking.target c.in-Nonblocking.value c.in-Nonblocking.is c.deref-in-Nonblocking.result.now c.deref-in-Nonblocking.ensures c.is_assignment_known-in-Nonblocking.ensures

pub is_statement_known-returns-in-Some : goal.is_statement_known-returns-in-Some
is_statement_known-returns-in-Some t c =
    statements.at-If (knows c.args.names.now) c.args.statement.now c.are_arms_known.result c.in-If.arms c.in-If.last c.in-If.is c.in-Some.other c.in-Some.is
    c.deref-in-Some.result.now c.deref-in-Some.ensures.value c.deref-in-Some-2.result.now c.deref-in-Some-2.ensures c.is_statement_known.result c.is_statement_known.ensures c.are_arms_known.ensures

pub is_statement_known-returns-in-None : goal.is_statement_known-returns-in-None
is_statement_known-returns-in-None t c =
    statements.at-If-alone (knows c.args.names.now) c.args.statement.now c.are_arms_known-in-None.result c.in-If.arms c.in-If.last c.in-If.is c.in-None.is
    c.deref-in-None.result.now c.deref-in-None.ensures.value c.are_arms_known-in-None.ensures

pub is_statement_known-returns-in-Case : goal.is_statement_known-returns-in-Case
is_statement_known-returns-in-Case t c =
    statements.at-Case (knows c.args.names.now) c.args.statement.now c.both.result c.in-Case.field-0 c.in-Case.expression c.in-Case.items c.in-Case.is
    c.deref-in-Case.result.now c.deref-in-Case.ensures.value c.is_expression_known.result c.are_items_known.result c.is_expression_known.ensures c.are_items_known.ensures c.both.ensures

pub is_statement_known-returns-in-Block : goal.is_statement_known-returns-in-Block
is_statement_known-returns-in-Block t c =
    statements.at-Block (knows c.args.names.now) c.args.statement.now c.are_statements_known.result c.in-Block.field-0 c.in-Block.statements c.in-Block.is
    c.deref-in-Block.result.now c.deref-in-Block.ensures.value c.are_statements_known.ensures

pub is_item_known-returns-in-Values : goal.is_item_known-returns-in-Values
is_item_known-returns-in-Values t c =
    statements.at-Values (knows c.args.names.now) c.args.item.now c.both.result c.in-Values.values c.in-Values.statement c.in-Values.is
    c.deref.result.now c.deref.ensures.value c.are_parts_known.result c.is_statement_known.result c.are_parts_known.ensures c.is_statement_known.ensures c.both.ensures

pub is_item_known-returns-in-Default : goal.is_item_known-returns-in-Default
is_item_known-returns-in-Default t c =
    statements.at-Default (knows c.args.names.now) c.args.item.now c.is_statement_known-in-Default.result c.in-Default.statement c.in-Default.is c.is_statement_known-in-Default.ensures
