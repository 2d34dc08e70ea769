use Rattle.std.proofs.Common.{◌≡◌, ℕ, List, drop}
use Rattle.std.specs.Prelude.{◌||◌}
use Rattle.verilog_meaning.specs.Register.{is_set}
use Rattle.v_value.specs.Scope.{scope_at}
use Rattle.v_masks.specs.Masks.{mask_under}
use Rattle.v_drivers.specs.Tables.{spans_mask}
use Rattle.v_drivers.proofs.table.add_masks.Given as goal

abbrev pub invariant-loop-span : goal.invariant-loop-span
invariant-loop-span l = (n : List ℕ) (b : ℕ) →
    (is_set (mask_under l.initial.table n) b || is_set (spans_mask (scope_at l.scope) l.spans n) b)
    ≡ (is_set (mask_under l.table n) b || is_set (spans_mask (scope_at l.scope) (drop l.span-index l.spans) n) b)
