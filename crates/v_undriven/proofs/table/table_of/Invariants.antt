use Rattle.std.proofs.Common.{◌≡◌, ℕ, List, drop}
use Rattle.std.specs.Prelude.{◌||◌}
use Rattle.verilog_meaning.specs.Register.{is_set}
use Rattle.v_value.specs.Scope.{scope_at}
use Rattle.v_masks.specs.Masks.{mask_under}
use Rattle.v_undriven.specs.Tables.{drivers_mask}
use Rattle.v_undriven.proofs.table.table_of.Given as goal

abbrev pub invariant-loop-driver : goal.invariant-loop-driver
invariant-loop-driver l = (n : List ℕ) (b : ℕ) →
    is_set (drivers_mask (scope_at l.scope) l.drivers n) b
    ≡ (is_set (mask_under l.table n) b || is_set (drivers_mask (scope_at l.scope) (drop l.driver-index l.drivers) n) b)
