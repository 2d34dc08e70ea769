use Rattle.std.proofs.Common.{map, take, drop}
use Rattle.v_syntax.specs.Tree.{tree_of}
use Rattle.v_value.specs.Scope.{scope_at}
use Rattle.v_operators.specs.Meaning.{Grows}
use Rattle.v_lower.specs.Lowered.{HasImages}
use Rattle.v_lower.specs.Table.{images_at}
use Rattle.path_terms.specs.Mapped.{AreConditions, AreFit}
use Rattle.path_terms.proofs.reading.conditions.Given as goal

abbrev pub invariant-loop-expression : goal.invariant-loop-expression
invariant-loop-expression l = record {
  grows : Grows l.fn.terms l.terms;
  known : HasImages (scope_at l.scope) (images_at l.table) l.terms;
  rest : AreFit (scope_at l.scope) (map tree_of (drop l.expression-index l.expressions));
  made : AreConditions (scope_at l.scope) (images_at l.table) l.terms (map tree_of (take l.expression-index l.expressions)) (map (λ id. id.0) l.list.items);
}
