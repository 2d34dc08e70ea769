use Rattle.shown_facts.proofs.bits.commit_bits.Goals as goal

pub bit_of-requires-clause-condition : goal.bit_of-requires-clause-condition
bit_of-requires-clause-condition c =
    c.requires.conditions c.loop-instruction.instruction-index (record { commit = record { 0 = 0 }; bound = 0 }) c.loop-instruction-test.true
