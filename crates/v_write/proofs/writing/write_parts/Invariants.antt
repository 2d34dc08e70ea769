use Rattle.std.proofs.Common.{◌-◌, length, drop}
use Rattle.v_value.specs.Scope.{scope_at}
use Rattle.v_lower.specs.Table.{images_at}
use Rattle.v_write.specs.Turns.{IsWriting}
use Rattle.v_write.proofs.writing.write_parts.Given as goal

abbrev pub invariant-loop-i : goal.invariant-loop-i
invariant-loop-i l =
    IsWriting (scope_at l.scope) (images_at l.initial.table) l.initial.terms l.guard l.parts l.number.0 l.width (drop (length l.parts - l.i) l.parts) l.low (images_at l.table) l.terms
