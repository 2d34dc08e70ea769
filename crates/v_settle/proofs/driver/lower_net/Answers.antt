use Rattle.v_settle.proofs.driver.lower_net.Goals as goal

pub lower_link-requires-clause-sound : goal.lower_link-requires-clause-sound
lower_link-requires-clause-sound c = c.requires.sound

pub lower_link-requires-clause-fit : goal.lower_link-requires-clause-fit
lower_link-requires-clause-fit c = c.requires.fit

pub returns-clause-lowered : goal.returns-clause-lowered
returns-clause-lowered c = c.in_ok-lower_link.ensures.lowered
