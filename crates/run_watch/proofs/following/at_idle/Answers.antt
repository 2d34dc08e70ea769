use Rattle.std.proofs.Common.{◌∙◌, sym, subst}
use Rattle.ila_child.specs.State.{state_valuation, input_valuation}
use Rattle.ila_model.specs.Model.{model_of}
use Rattle.mapped_designs.specs.View.{mapped_of}
use Rattle.run_watch.specs.Turns.{IsBegun, IsFirstOther, mapped_or}
use Rattle.run_watch.proofs.Lists.{start_condition}
use Rattle.run_watch.proofs.Names.{states_apart}
use Rattle.run_watch.proofs.Coded.{started_there, other_seen, idle_other, idle_goes, idle_stuck, idle_begun, idle_starts}
use Rattle.run_watch.proofs.following.at_idle.Goals as goal

pub holds_in-requires-clause-condition : goal.holds_in-requires-clause-condition
holds_in-requires-clause-condition c = start_condition (mapped_of c.args.mapped.now) c.requires.sorted.conditions

pub returns-in-Some-clause-turn : goal.returns-in-Some-clause-turn
returns-in-Some-clause-turn c x s run cycles z less none a seen =
    let model = c.args.model.now in
    idle_other (model_of model) (mapped_of c.args.mapped.now) c.args.cycle.now c.args.t x s run cycles (states_apart model) z less none c.args.ended c.args.q c.args.other
    c.requires.state c.requires.other a seen c.holds_in.result c.in-Some.k c.holds_in.ensures c.if-not-holds_in.true (sym c.place_of-place.ensures ∙ c.in-Some.is)

pub returns-in-None-clause-turn : goal.returns-in-None-clause-turn
returns-in-None-clause-turn c x s run cycles z less none a seen =
    let model = c.args.model.now in
    idle_goes (model_of model) (mapped_of c.args.mapped.now) c.args.cycle.now c.args.t x s run cycles (states_apart model) z less none c.args.ended c.args.q c.args.other
    c.requires.state c.requires.other a seen c.holds_in.result c.holds_in.ensures c.if-not-holds_in.true (sym c.place_of-place.ensures ∙ c.in-None.is)

pub returns-in-None-2-clause-turn : goal.returns-in-None-2-clause-turn
returns-in-None-2-clause-turn c x s run cycles z less none a seen =
    let model = c.args.model.now in
    let m = model_of model in
    let q = c.args.q in
    let o = c.args.other in
    let ws = c.in_ok-inputs.inputs in
    let found = subst (IsBegun m (state_valuation m (mapped_or q o)) (state_valuation m q) (input_valuation m ws)) c.in-None-2.is c.in_ok-begun.ensures in
    idle_stuck m (mapped_of c.args.mapped.now) c.args.cycle.now c.args.t x s run cycles (states_apart model) z less none c.args.ended q o c.requires.state c.requires.other
    a seen c.holds_in.result ws c.holds_in.ensures c.if-not-holds_in.false c.in_ok-inputs.ensures.values found

pub begins-requires-clause-instruction : goal.begins-requires-clause-instruction
begins-requires-clause-instruction c =
    let m = model_of c.args.model.now in
    let q = c.args.q in
    let v = state_valuation m (mapped_or q c.args.other) in
    let w = input_valuation m c.in_ok-inputs.inputs in
    let found = subst (IsBegun m v (state_valuation m q) w) c.in-Some-2.is c.in_ok-begun.ensures in
    started_there m (mapped_of c.args.mapped.now) v w c.in-Some-2.command.instruction c.requires.sorted found.0

pub begins-requires-clause-next : goal.begins-requires-clause-next
begins-requires-clause-next c =
    let m = model_of c.args.model.now in
    let q = c.args.q in
    let found =
    subst (IsBegun m (state_valuation m (mapped_or q c.args.other)) (state_valuation m q) (input_valuation m c.in_ok-inputs.inputs)) c.in-Some-2.is c.in_ok-begun.ensures in
    found.2

pub returns-clause-turn : goal.returns-clause-turn
returns-clause-turn c x s run cycles z less none a seen =
    let model = c.args.model.now in
    let m = model_of model in
    let e = mapped_of c.args.mapped.now in
    let q = c.args.q in
    let o = c.args.other in
    let t = c.args.t in
    let ws = c.in_ok-inputs.inputs in
    let command = c.in-Some-2.command in
    let found = subst (IsBegun m (state_valuation m (mapped_or q o)) (state_valuation m q) (input_valuation m ws)) c.in-Some-2.is c.in_ok-begun.ensures in
    let same =
    subst (IsFirstOther s run t (state_valuation m q)) (sym c.place_of-place.ensures)
    (other_seen m e c.args.cycle.now t x s run cycles (states_apart model) z less none c.args.ended q o c.requires.state c.requires.other a seen) in
    let starts =
    idle_starts m e c.args.cycle.now t x s run cycles (states_apart model) z less none c.args.ended q o c.requires.state c.requires.other a seen c.holds_in.result
    c.holds_in.ensures c.if-not-holds_in.false in
    let begun =
    idle_begun m e c.args.cycle.now t x s run cycles (states_apart model) z less none c.args.ended q o c.requires.state c.requires.other a seen ws command
    c.in_ok-inputs.ensures.values found in
    c.begins.ensures.turn x s run cycles (state_valuation m q) z less none a same starts begun.0 begun.1
