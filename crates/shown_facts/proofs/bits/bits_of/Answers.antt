use Rattle.shown_facts.proofs.bits.bits_of.Goals as goal

pub bit_of-requires-clause-condition : goal.bit_of-requires-clause-condition
bit_of-requires-clause-condition c = c.requires.conditions c.loop-id.id-index (record { 0 = 0 }) c.loop-id-test.true
