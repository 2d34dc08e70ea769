use Rattle.std.proofs.Common.{◌≡◌, true, drop}
use Rattle.wb_values.specs.Value.{word}
use Rattle.verilog_trees.specs.Syntax.{Expression}
use Rattle.verilog_meaning.specs.Expression.{Scope}
use Rattle.v_syntax.specs.Tree.{all_prefixed}
use Rattle.v_operators.specs.Meaning.{Grows, IsOfSort}
use Rattle.v_lower.specs.Lowered.{Images, HasImages, IsLoweredAlone}
use Rattle.v_lower.specs.Walking.{begins_with_reduction}
use Rattle.v_lower.proofs.steps.lower_run.Given as goal

abbrev pub invariant-loop-i : goal.invariant-loop-i
invariant-loop-i l = record {
  grows : Grows l.fn.terms l.terms;
  of_sort : IsOfSort l.terms l.all.id.0 (word l.all.width);
  one : begins_with_reduction (drop l.i l.operators) ≡ true → l.all.width ≡ 1;
  lowered : (s : Scope) (images : Images) (x : Expression) → HasImages s images l.fn.terms → IsLoweredAlone s images l.fn.terms x l.fn.operand.width l.fn.operand.id.0
      → IsLoweredAlone s images l.terms (all_prefixed (drop l.i l.operators) x) l.all.width l.all.id.0;
}
