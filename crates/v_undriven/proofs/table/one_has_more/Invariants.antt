use Rattle.std.proofs.Common.{drop}
use Rattle.v_value.specs.Scope.{scope_at}
use Rattle.v_masks.specs.Masks.{mask_under}
use Rattle.v_undriven.proofs.Looping.{IsLeft}
use Rattle.v_undriven.proofs.table.one_has_more.Given as goal

abbrev pub invariant-loop-span : goal.invariant-loop-span
invariant-loop-span l = IsLeft (scope_at l.scope) l.names l.clock (mask_under l.table) l.spans (drop l.span-index l.spans)
