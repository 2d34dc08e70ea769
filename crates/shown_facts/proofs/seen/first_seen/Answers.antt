use Rattle.shown_facts.proofs.seen.first_seen.Goals as goal

pub seen_from-requires-clause-registers : goal.seen_from-requires-clause-registers
seen_from-requires-clause-registers c = c.requires.given.registers

pub returns : goal.returns
returns c = c.in_ok-seen.ensures
