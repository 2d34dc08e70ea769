use Rattle.std.proofs.Common.{map, drop}
use Rattle.v_value.specs.Scope.{scope_at}
use Rattle.v_lower.specs.Table.{images_at}
use Rattle.v_elab.specs.Tables.{other_rows}
use Rattle.v_elab.specs.Names.{ArePlain}
use Rattle.v_elab.proofs.Entering.{EnteredSoFar}
use Rattle.v_elab.proofs.tables.enter_others.Given as goal

abbrev pub invariant-loop-name : goal.invariant-loop-name
invariant-loop-name l = record {
  so_far : EnteredSoFar (scope_at l.scope) (other_rows (map (λ n. n.now) l.others)) (other_rows (map (λ n. n.now) (drop l.name-index l.others)))
      (images_at l.fn.table) (images_at l.fn.next) l.fn.terms (images_at l.table) (images_at l.next) l.terms;
  plain : ArePlain (scope_at l.scope) (map (λ n. n.now) (drop l.name-index l.others));
}
