use Rattle.std.proofs.Common.{◌≡◌, map, take}
use Rattle.wb_terms.specs.Environment.{as_value, value_of}
use Rattle.mapped_cycles.proofs.reading.term_values.Given as goal

abbrev pub invariant-loop-id : goal.invariant-loop-id
invariant-loop-id l = map as_value l.values.items ≡ map (λ id. value_of l.terms l.cycle.env id.0) (take l.id-index l.ids)
