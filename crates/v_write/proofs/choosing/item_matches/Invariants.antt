use Rattle.std.proofs.Common.{drop}
use Rattle.v_syntax.specs.Tree.{expressions_of, case_kind_of}
use Rattle.v_value.specs.Scope.{scope_at}
use Rattle.v_lower.specs.Table.{images_at}
use Rattle.v_write.specs.Matching.{AreComparable, IsTesting}
use Rattle.v_write.proofs.choosing.item_matches.Given as goal

abbrev pub invariant-loop-value : goal.invariant-loop-value
invariant-loop-value l = record {
  so_far : IsTesting (scope_at l.scope) (images_at l.table) l.initial.terms l.terms l.selector.id.0 l.selector.width (case_kind_of l.selector.kind) l.selector.signed (expressions_of l.values) l.tests (expressions_of (drop l.value-index l.values));
  values : AreComparable (scope_at l.scope) (case_kind_of l.selector.kind) l.selector.width (drop l.value-index l.values);
}
