use Rattle.gate_base.proofs.Copying.{fact_noted}
use Rattle.gate_base.proofs.assuming.note.Goals as goal

pub and-requires-clause-y : goal.and-requires-clause-y
and-requires-clause-y c = (c.in-Some.ensures c.args.circuit.now c.args.wanted c.requires.copying).known

pub returns : goal.returns
returns c =
    fact_noted c.args.circuit.now c.args.wanted c.args.copier.now c.and.new.self c.in_ok-copier.field-0 c.in-Some.bit c.put_worth.new.worth c.args.var c.args.truth
    c.in_ok-copier.ensures.grows c.in_ok-copier.ensures.bit (c.in-Some.ensures c.args.circuit.now c.args.wanted c.requires.copying) c.requires.fact
    (c.put_worth.ensures c.and.new.self c.in_ok-copier.field-0) c.requires.copying
