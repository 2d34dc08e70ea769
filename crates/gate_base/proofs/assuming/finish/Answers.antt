use Rattle.std.proofs.Common.{rules, ◌≡◌, ◌∙◌, false, ap}
use Rattle.gate_base.specs.declared.bits.Bit.TheVariants.{Constant}
use Rattle.gate_base.specs.Circuit.{Circuit}
use Rattle.gate_base.proofs.Copying.{asked_value, never}
use Rattle.gate_base.proofs.assuming.finish.Goals as goal

pub and-requires-clause-y : goal.and-requires-clause-y
and-requires-clause-y c = (c.in-Some.ensures c.args.circuit.now c.args.wanted c.requires).known

pub returns-then-eq : goal.returns-then-eq
returns-then-eq c =
    let no : c.in_ok-bit.bit ≡ Constant false = search rules in
    record {
      inputs = ap (λ (g : Circuit). g.inputs) c.new.ensures ∙ c.inputs.ensures;
      known = tt;
      determined = c.is_determined.ensures.determined;
      value = λ w u j. never c.args.circuit.now c.args.wanted c.args.copier c.and.new.self c.in-Some.own c.in_ok-bit.bit c.in_ok-bit.ensures.grows c.in_ok-bit.ensures.bit
          (c.in-Some.ensures c.args.circuit.now c.args.wanted c.requires) c.requires c.is_determined-2.ensures.determined no w j.first;
    }

pub returns : goal.returns
returns c = record {
  inputs = c.in_ok-bit.ensures.grows.inputs ∙ c.requires.inputs;
  known = c.in_ok-bit.ensures.bit.known;
  determined = c.is_determined.ensures.determined;
  value = asked_value c.args.circuit.now c.args.wanted c.args.copier c.and.new.self c.in-Some.own c.in_ok-bit.bit c.in_ok-bit.ensures.grows c.in_ok-bit.ensures.bit
      (c.in-Some.ensures c.args.circuit.now c.args.wanted c.requires) c.requires;
}
