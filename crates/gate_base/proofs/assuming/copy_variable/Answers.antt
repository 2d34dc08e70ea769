use Rattle.std.proofs.Common.{◌≡◌, ◌+◌, ◌-◌, ◌&&◌, cond, arith}
use Rattle.std.proofs.lemmas.Result.{IfOk-weaker}
use Rattle.sat_base.specs.Formula.{value}
use Rattle.gate_base.specs.Circuit.{exactly_one}
use Rattle.gate_base.proofs.Copying.{like_variable, variable_is, some_weaker}
use Rattle.gate_base.proofs.assuming.copy_variable.Goals as goal

pub returns-in-And-clause-like : goal.returns-in-And-clause-like
returns-in-And-clause-like c =
    let k = c.args.var - c.inputs-inputs.result in
    let e : c.args.var ≡ c.args.circuit.now.inputs + k = omega (arith, c.if-var-inputs.false, c.inputs-inputs.ensures) in
    IfOk-weaker c.copy_and.result _ _
    (λ o. some_weaker _ _ o (λ b. like_variable c.args.circuit.now _ _ b c.args.var (λ w. value w c.in-And.x && value w c.in-And.y)
    (variable_is c.args.circuit.now c.args.var k c.gate.result _ e c.gate.ensures.here c.in-And.is))) c.copy_and.ensures.like

pub returns-in-Xor-clause-like : goal.returns-in-Xor-clause-like
returns-in-Xor-clause-like c =
    let k = c.args.var - c.inputs-inputs.result in
    let e : c.args.var ≡ c.args.circuit.now.inputs + k = omega (arith, c.if-var-inputs.false, c.inputs-inputs.ensures) in
    IfOk-weaker c.copy_xor.result _ _
    (λ o. some_weaker _ _ o (λ b. like_variable c.args.circuit.now _ _ b c.args.var (λ w. exactly_one (value w c.in-Xor.x) (value w c.in-Xor.y))
    (variable_is c.args.circuit.now c.args.var k c.gate.result _ e c.gate.ensures.here c.in-Xor.is))) c.copy_xor.ensures.like

pub returns-in-Ite-clause-like : goal.returns-in-Ite-clause-like
returns-in-Ite-clause-like c =
    let k = c.args.var - c.inputs-inputs.result in
    let e : c.args.var ≡ c.args.circuit.now.inputs + k = omega (arith, c.if-var-inputs.false, c.inputs-inputs.ensures) in
    IfOk-weaker c.copy_ite.result _ _
    (λ o. some_weaker _ _ o (λ b. like_variable c.args.circuit.now _ _ b c.args.var (λ w. cond (value w c.in-Ite.condition) (value w c.in-Ite.x) (value w c.in-Ite.y))
    (variable_is c.args.circuit.now c.args.var k c.gate.result _ e c.gate.ensures.here c.in-Ite.is))) c.copy_ite.ensures.like
