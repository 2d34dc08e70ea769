use Rattle.std.proofs.Common.{Bool, drop}
use Rattle.wb_values.specs.Value.{word}
use Rattle.verilog_trees.specs.Syntax.{Expression}
use Rattle.verilog_meaning.specs.Expression.{Scope}
use Rattle.v_syntax.specs.Tree.{all_prefixed}
use Rattle.v_operators.specs.Meaning.{Grows, IsOfSort}
use Rattle.v_lower.specs.Lowered.{Images, HasImages, IsLowered}
use Rattle.v_lower.proofs.steps.lower_kept.Given as goal

abbrev pub invariant-loop-i : goal.invariant-loop-i
invariant-loop-i l = record {
  grows : Grows l.fn.terms l.terms;
  of_sort : IsOfSort l.terms l.all.0 (word l.width);
  lowered : (s : Scope) (images : Images) (x : Expression) (t : Bool) → HasImages s images l.fn.terms → IsLowered s images l.fn.terms x l.width t l.fn.operand.0
      → IsLowered s images l.terms (all_prefixed (drop l.i l.operators) x) l.width t l.all.0;
}
