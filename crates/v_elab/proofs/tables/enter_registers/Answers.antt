use Rattle.std.proofs.Common.{◌≡◌, map, sym, subst, length, arith}
use Rattle.verilog_meaning.specs.Register.{word_count}
use Rattle.v_value.specs.Scope.{scope_at}
use Rattle.v_lower.specs.Table.{images_at}
use Rattle.v_operators.proofs.Growing.{Grows-refl}
use Rattle.v_registers.specs.declared.registers.Register.{Register}
use Rattle.v_registers.specs.Registers.{counted_of}
use Rattle.v_lower.specs.Lowered.{IsSortOf}
use Rattle.v_elab.specs.Kept.{named_at}
use Rattle.v_elab.specs.Tables.{register_rows}
use Rattle.v_elab.proofs.Entering.{so_far_start, register_below, register_now, masks_at}
use Rattle.v_elab.proofs.tables.enter_registers.Goals as goal

pub loop-place-init : goal.loop-place-init
loop-place-init c =
    record {
      so_far = so_far_start (scope_at c.args.scope.now) (register_rows 0 (map counted_of c.args.registers.now)) (images_at c.args.table.now) (images_at c.args.next.now) c.args.terms.now;
      grows = Grows-refl c.args.terms.now;
    }

pub enter_register-requires-clause-place : goal.enter_register-requires-clause-place
enter_register-requires-clause-place c =
    register_below (scope_at c.args.scope.now) c.args.registers.now c.requires.entries.0 c.args.terms.now c.loop-place.terms c.loop-place.place c.requires.entries.1 c.loop-place.invariant.grows
    (omega arith)

pub enter_register-requires-clause-sort : goal.enter_register-requires-clause-sort
enter_register-requires-clause-sort c =
    subst (λ (r : Register). IsSortOf (scope_at c.args.scope.now r.name.now) (named_at c.loop-place.terms c.loop-place.place).1) (sym c.index-registers-place.is)
    (register_now (scope_at c.args.scope.now) c.args.registers.now c.requires.entries.0 c.args.terms.now c.loop-place.terms c.loop-place.place _ c.requires.entries.1 c.loop-place.invariant.grows
    (omega arith))

pub enter_register-requires-clause-masks : goal.enter_register-requires-clause-masks
enter_register-requires-clause-masks c =
    subst (λ (r : Register). length r.masks.items ≡ word_count (scope_at c.args.scope.now r.name.now)) (sym c.index-registers-place.is)
    (masks_at (scope_at c.args.scope.now) c.args.registers.now c.loop-place.place _ c.requires.masks (omega arith))
