use Rattle.std.proofs.Common.{map, drop}
use Rattle.v_value.specs.Scope.{scope_at}
use Rattle.v_lower.specs.Table.{images_at}
use Rattle.v_operators.specs.Meaning.{Grows}
use Rattle.v_registers.specs.Registers.{counted_of}
use Rattle.v_elab.specs.Tables.{register_rows}
use Rattle.v_elab.proofs.Entering.{EnteredSoFar}
use Rattle.v_elab.proofs.tables.enter_registers.Given as goal

abbrev pub invariant-loop-place : goal.invariant-loop-place
invariant-loop-place l = record {
  so_far : EnteredSoFar (scope_at l.scope) (register_rows 0 (map counted_of l.registers)) (register_rows l.place (map counted_of (drop l.place l.registers)))
      (images_at l.fn.table) (images_at l.fn.next) l.fn.terms (images_at l.table) (images_at l.next) l.terms;
  grows : Grows l.fn.terms l.terms;
}
