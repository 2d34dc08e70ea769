use Rattle.std.proofs.Common.{ℕ, drop, Option}
use Rattle.wb_values.specs.Value.{Valuation}
use Rattle.verilog_trees.specs.Syntax as pure
use Rattle.verilog_meaning.specs.Statement.{Effect, run, run_all}
use Rattle.v_syntax.specs.Tree.{or_empty, case_kind_of}
use Rattle.v_value.specs.Scope.{scope_at}
use Rattle.v_lower.specs.Table.{images_at}
use Rattle.v_write.specs.Sound.{AreSoundStatements, AreSoundBranches, statement_list, arm_list}
use Rattle.v_write.specs.Matching.{AreItemsComparable}
use Rattle.v_write.specs.Cases.{items_effect}
use Rattle.v_write.specs.Running.{Always, IsWorth, IsGoing}
use Rattle.v_write.proofs.statement.+run.Given as goal

abbrev pub invariant-run_all-loop-statement : goal.invariant-run_all-loop-statement
invariant-run_all-loop-statement l = record {
  so_far : IsGoing (scope_at l.scope) (images_at l.initial.table) (images_at l.initial.next) l.initial.terms Always l.guard (λ v. run_all (scope_at l.scope) (statement_list l.statements) v)
      (images_at l.table) (images_at l.next) l.terms l.guard (λ v. run_all (scope_at l.scope) (statement_list (drop l.statement-index l.statements)) v);
  sound : AreSoundStatements (scope_at l.scope) (statement_list (drop l.statement-index l.statements));
}

abbrev pub invariant-run_arms-loop-arm : goal.invariant-run_arms-loop-arm
invariant-run_arms-loop-arm l = record {
  so_far : (y : Option pure.Statement) → IsGoing (scope_at l.scope) (images_at l.initial.table) (images_at l.initial.next) l.initial.terms Always l.fn.guard (λ v. run (scope_at l.scope) (or_empty (arm_list l.arms y)) v)
      (images_at l.table) (images_at l.next) l.terms l.rest (λ v. run (scope_at l.scope) (or_empty (arm_list (drop l.arm-index l.arms) y)) v);
  sound : AreSoundBranches (scope_at l.scope) (drop l.arm-index l.arms);
}

abbrev pub invariant-run_case-loop-item : goal.invariant-run_case-loop-item
invariant-run_case-loop-item l = record {
  so_far : (a : ℕ) (rest : Valuation → Effect) → IsGoing (scope_at l.scope) (images_at l.initial.table) (images_at l.initial.next) l.initial.terms (IsWorth l.initial.terms l.selector.id.0 l.selector.width a) l.fn.guard
      (λ v. items_effect (scope_at l.scope) (case_kind_of l.selector.kind) l.selector.width l.selector.signed a l.items v (rest v))
      (images_at l.table) (images_at l.next) l.terms l.rest (λ v. items_effect (scope_at l.scope) (case_kind_of l.selector.kind) l.selector.width l.selector.signed a (drop l.item-index l.items) v (rest v));
  items : AreItemsComparable (scope_at l.scope) (case_kind_of l.selector.kind) l.selector.width (drop l.item-index l.items);
}
