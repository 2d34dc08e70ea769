use Rattle.std.proofs.Common.{ap, ◌∙◌, map}
use Rattle.wb_values.specs.Choice.{first_of}
use Rattle.ila_file.specs.View.{state_view, definition_view}
use Rattle.ila_rules.specs.Seen.{LookUp}
use Rattle.ila_rules.specs.Flaws.{Flaws, look_states, look_definitions, definition_flaws}
use Rattle.ila_rules.specs.View.{flaws_view, look_frames, states_frames}
use Rattle.ila_rules.proofs.Frames.{states_in_last, states_in_own}
use Rattle.ila_rules.proofs.walk.own_frame.Goals as goal

pub returns-clause-flaws : goal.returns-clause-flaws
returns-clause-flaws c =
    let ss = map state_view c.args.states.now in
    let ds = map definition_view c.args.definitions.now in
    c.in_ok-add_definitions.ensures.flaws
    ∙ (ap (λ (l : LookUp). definition_flaws l 0 ds (flaws_view c.add_states.new.findings))
    (states_in_last c.args.frames.now c.new-frame.result c.add_states.new.frame ss c.new-frame.ensures.look c.in_ok-add_states.ensures.look)
    ∙ ap (λ (f : Flaws). definition_flaws (look_states (look_frames c.args.frames.now) ss) 0 ds f) c.in_ok-add_states.ensures.flaws)

pub returns-clause-look : goal.returns-clause-look
returns-clause-look c =
    c.in_ok-add_definitions.ensures.look
    ∙ ap (λ (l : LookUp). look_definitions l (map definition_view c.args.definitions.now))
    (states_in_last c.args.frames.now c.new-frame.result c.add_states.new.frame (map state_view c.args.states.now) c.new-frame.ensures.look c.in_ok-add_states.ensures.look)

pub returns-clause-states : goal.returns-clause-states
returns-clause-states c =
    (λ i n. first_of (states_frames c.args.frames.now n) (c.in_ok-add_definitions.ensures.states i n))
    ∙ states_in_own c.args.frames.now c.new-frame.result c.add_states.new.frame (map state_view c.args.states.now) c.new-frame.ensures.states c.in_ok-add_states.ensures.states
