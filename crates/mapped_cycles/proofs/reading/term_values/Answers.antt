use Rattle.mapped_cycles.proofs.reading.term_values.Goals as goal

pub term_value-requires-clause-id : goal.term_value-requires-clause-id
term_value-requires-clause-id c = c.requires.within c.loop-id.id-index (record { 0 = 0 }) c.loop-id-test.true
