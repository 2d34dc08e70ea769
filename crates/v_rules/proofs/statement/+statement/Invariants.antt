use Rattle.std.proofs.Common.{◌≡◌, drop}
use Rattle.v_value.specs.Scope.{scope_at}
use Rattle.v_syntax.specs.Tree.{case_kind_of}
use Rattle.v_rules.specs.Judging.{none}
use Rattle.v_rules.specs.Statements.{statements_from, ladder_from, items_from}
use Rattle.v_rules.proofs.statement.+statement.Given as goal

abbrev pub invariant-broken_statements-loop-statement : goal.invariant-broken_statements-loop-statement
invariant-broken_statements-loop-statement l = statements_from (scope_at l.names.scope.now) l.clocked none l.statements ≡ statements_from (scope_at l.names.scope.now) l.clocked l.all (drop l.statement-index l.statements)

abbrev pub invariant-broken_ladder-loop-arm : goal.invariant-broken_ladder-loop-arm
invariant-broken_ladder-loop-arm l = ladder_from (scope_at l.names.scope.now) l.clocked none l.arms ≡ ladder_from (scope_at l.names.scope.now) l.clocked l.all (drop l.arm-index l.arms)

abbrev pub invariant-broken_items-loop-item : goal.invariant-broken_items-loop-item
invariant-broken_items-loop-item l = items_from (scope_at l.names.scope.now) l.clocked (case_kind_of l.kind) none l.items ≡ items_from (scope_at l.names.scope.now) l.clocked (case_kind_of l.kind) l.all (drop l.item-index l.items)
