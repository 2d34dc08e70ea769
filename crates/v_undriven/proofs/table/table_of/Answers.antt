use Rattle.std.proofs.Common.{◌∙◌, ap, arith, drop}
use Rattle.std.specs.Prelude.{◌||◌}
use Rattle.std.proofs.lemmas.List.{at_drop_all}
use Rattle.verilog_meaning.specs.Register.{is_set}
use Rattle.v_value.specs.Scope.{scope_at}
use Rattle.v_masks.specs.Masks.{mask_under}
use Rattle.v_drivers.specs.Tables.{spans_mask}
use Rattle.v_undriven.specs.Tables.{drivers_mask}
use Rattle.v_undriven.proofs.Looping.{drivers-begun, drivers-turn, drivers-end}
use Rattle.v_undriven.proofs.table.table_of.Goals as goal

pub loop-driver-init : goal.loop-driver-init
loop-driver-init c = drivers-begun (scope_at c.args.scope.now) c.args.drivers.now c.new-table.result c.new-table.ensures.empty

pub loop-driver-preserved : goal.loop-driver-preserved
loop-driver-preserved c n b =
    let s = scope_at c.args.scope.now in
    drivers-turn s c.args.drivers.now c.loop-driver.driver-index c.driver-item.result n b _ _ _ (omega arith) c.driver-item.is
    (c.in_ok-add_masks.ensures n b ∙ ap (λ ys. is_set (mask_under c.loop-driver.table n) b || is_set (spans_mask s ys n) b) c.deref.ensures.value)
    (c.loop-driver.invariant n b)

pub returns : goal.returns
returns c n b =
    let s = scope_at c.args.scope.now in
    drivers-end (drivers_mask s (drop c.loop-driver.driver-index c.args.drivers.now) n) b _ _ (c.loop-driver.invariant n b)
    (at_drop_all (λ ys. is_set (drivers_mask s ys n) b) c.args.drivers.now c.loop-driver.driver-index c.loop-driver-test.false)
