use Rattle.v_elab.proofs.flat.placed_design.Goals as goal

pub numbered_design-requires-clause-count : goal.numbered_design-requires-clause-count
numbered_design-requires-clause-count c = c.in_ok-names.ensures.count

pub numbered_design-requires-clause-called : goal.numbered_design-requires-clause-called
numbered_design-requires-clause-called c = c.in_ok-names.ensures.called

pub numbered_design-requires-clause-seen : goal.numbered_design-requires-clause-seen
numbered_design-requires-clause-seen c = c.in_ok-names.ensures.seen
