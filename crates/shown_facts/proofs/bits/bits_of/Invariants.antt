use Rattle.std.proofs.Common.{◌≡◌, map, take}
use Rattle.wb_values.specs.Value.{as_truth}
use Rattle.wb_terms.specs.Environment.{value_of}
use Rattle.shown_facts.proofs.bits.bits_of.Given as goal

abbrev pub invariant-loop-id : goal.invariant-loop-id
invariant-loop-id l = l.bits.items ≡ map (λ id. as_truth (value_of l.mapped.design.terms l.cycle.env id.0)) (take l.id-index l.ids)
