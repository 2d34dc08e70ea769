use Rattle.std.proofs.Common.{◌∙◌, arith}
use Rattle.v_sim.proofs.Placing.{register_told}
use Rattle.v_sim.proofs.text.append_registers.Goals as goal

pub loop-place-preserved : goal.loop-place-preserved
loop-place-preserved c =
    register_told c.args.registers.now c.args.values.now c.loop-place.place c.index-registers-place.result c.index-values-place.result
    c.loop-place.out.items c.append_register.new.out.items (omega (arith, c.loop-place-test.true)) (omega (arith, c.requires, c.loop-place-test.true))
    c.index-registers-place.is c.index-values-place.is c.in_ok-append_register.ensures
    ∙ c.loop-place.invariant
