use Rattle.std.proofs.Common.{◌≡◌, ◌∙◌, ◌+◌, ◌-◌, ◌<◌, length, rules, arith, sym, refl}
use Rattle.gate_base.proofs.Copying.{first_fact, read_truth, variable_is}
use Rattle.gate_base.proofs.assuming.facts_of.Goals as goal

pub loop-done-init : goal.loop-done-init
loop-done-init c = first_fact c.args.circuit.now c.args.wanted c.args.vars c.in_ok-facts.facts.items c.requires.vars c.requires.wanted (c.in_ok-facts.ensures.items_if_clones_equal (λ y same. search rules))

pub loop-done-preserved : goal.loop-done-preserved
loop-done-preserved c =
    let g = c.args.circuit.now in
    let l = c.loop-done in
    let count = c.gate_count-count.result in
    let var = c.args.vars - 1 - l.done in
    let k = count - 1 - l.done in
    let at : var ≡ g.inputs + k = omega (arith, c.requires.vars, c.gate_count-count.ensures, c.loop-done-test.true) in
    let within : var < length l.facts.items = omega (arith, c.requires.vars, c.gate_count-count.ensures, c.loop-done-test.true, l.invariant.room) in
    c.tell_operands.ensures g c.args.wanted l.invariant (λ b e a f so.
    sym (variable_is g var k c.gate.result c.gate.result at c.gate.ensures.here refl a f)
    ∙ l.invariant.hold var b (read_truth l.facts.items var c.index-truth.result.now b within c.index-truth.ensures e) a f so)
