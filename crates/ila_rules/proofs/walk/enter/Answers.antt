use Rattle.std.proofs.Common.{map}
use Rattle.ila_file.specs.View.{state_view, definition_view, fetch_view, term_view}
use Rattle.ila_file.specs.Places.{spot_view}
use Rattle.ila_rules.specs.Flaws.{look_within}
use Rattle.ila_rules.specs.View.{look_frames, flaws_view}
use Rattle.ila_rules.proofs.Walks.{inner_look, inner_states, last_look, head_all}
use Rattle.ila_rules.proofs.walk.enter.Goals as goal

pub returns-clause-inner : goal.returns-clause-inner
returns-clause-inner c =
    inner_look c.args.frames.now.items c.deref.result.now c.push.new.self.items c.in_ok-frame.frame (map state_view c.args.states.now) (map definition_view c.args.definitions.now) c.deref.ensures.value c.in_ok-push.ensures.items c.in_ok-frame.ensures.look

pub returns-clause-states : goal.returns-clause-states
returns-clause-states c =
    inner_states c.args.frames.now.items c.deref.result.now c.push.new.self.items c.in_ok-frame.frame (map state_view c.args.states.now) c.deref.ensures.value c.in_ok-push.ensures.items c.in_ok-frame.ensures.states

pub returns-clause-look : goal.returns-clause-look
returns-clause-look c =
    last_look c.push.new.self.items c.deref-2.result.now c.in_ok-last.last (fetch_view c.args.fetch.now) (look_within (look_frames c.args.frames.now.items) (map state_view c.args.states.now) (map definition_view c.args.definitions.now)) c.deref-2.ensures.value
    (inner_look c.args.frames.now.items c.deref.result.now c.push.new.self.items c.in_ok-frame.frame (map state_view c.args.states.now) (map definition_view c.args.definitions.now) c.deref.ensures.value c.in_ok-push.ensures.items c.in_ok-frame.ensures.look)
    c.in_ok-last.ensures.look

pub returns-clause-flaws : goal.returns-clause-flaws
returns-clause-flaws c =
    let ss = map state_view c.args.states.now in
    let ds = map definition_view c.args.definitions.now in
    let inner = inner_look c.args.frames.now.items c.deref.result.now c.push.new.self.items c.in_ok-frame.frame ss ds c.deref.ensures.value c.in_ok-push.ensures.items c.in_ok-frame.ensures.look in
    head_all c.args.frames.now.items c.deref.result.now c.push.new.self.items c.deref-2.result.now c.deref-3.result.now c.in_ok-last.last (spot_view c.key-spot.result)
    ss ds (fetch_view c.args.fetch.now) (term_view c.args.valid.now) (flaws_view c.args.findings.now) (flaws_view c.own_frame.new.findings) (flaws_view c.fetch_frame.new.findings) (flaws_view c.judge_term.new.self)
    c.deref.ensures.value c.deref-2.ensures.value c.deref-3.ensures.value c.key-spot.ensures inner
    (last_look c.push.new.self.items c.deref-2.result.now c.in_ok-last.last (fetch_view c.args.fetch.now) (look_within (look_frames c.args.frames.now.items) (map state_view c.args.states.now) (map definition_view c.args.definitions.now)) c.deref-2.ensures.value inner c.in_ok-last.ensures.look)
    c.in_ok-frame.ensures.flaws c.in_ok-last.ensures.flaws c.in_ok-judge_term.ensures.flaws
