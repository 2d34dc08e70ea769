use Rattle.std.proofs.Common.{map, drop}
use Rattle.v_value.specs.Scope.{scope_at}
use Rattle.v_lower.specs.Table.{images_at}
use Rattle.v_operators.specs.Meaning.{Grows}
use Rattle.v_elab.specs.Names.{ArePlain}
use Rattle.v_elab.specs.Tables.{input_rows}
use Rattle.v_elab.proofs.Entering.{EnteredSoFar}
use Rattle.v_elab.proofs.tables.enter_inputs.Given as goal

abbrev pub invariant-loop-place : goal.invariant-loop-place
invariant-loop-place l = record {
  so_far : EnteredSoFar (scope_at l.scope) (input_rows l.first (map (λ n. n.now) (drop l.first l.stored))) (input_rows l.place (map (λ n. n.now) (drop l.place l.stored)))
      (images_at l.fn.table) (images_at l.fn.next) l.fn.terms (images_at l.table) (images_at l.next) l.terms;
  grows : Grows l.fn.terms l.terms;
  plain : ArePlain (scope_at l.scope) (map (λ n. n.now) (drop l.place l.stored));
}
