use Rattle.std.proofs.Common.{◌∙◌, Some, None, ap, sym, subst, arith}
use Rattle.model_meaning.specs.Model.{states_of}
use Rattle.ila_child.specs.State.{state_valuation}
use Rattle.ila_model.specs.Model.{model_of}
use Rattle.mapped_designs.specs.View.{mapped_of}
use Rattle.watch_laws.specs.Positions.{IsWatchedTo}
use Rattle.watch_laws.proofs.Watching.{idle_later}
use Rattle.run_watch.specs.declared.standing.WatchPosition.{WatchPosition}
use Rattle.run_watch.specs.Comparing.{IsFirstOtherStated}
use Rattle.run_watch.specs.Turns.{IsPosition, position_of}
use Rattle.run_watch.proofs.Names.{states_apart, state_length, length_fits}
use Rattle.run_watch.proofs.Coded.{other_differs, other_mapped, state_read, follow_reset, follow_initial, idle_at_reset}
use Rattle.run_watch.proofs.following.follow.Goals as goal

pub first_other_stated-requires : goal.first_other_stated-requires
first_other_stated-requires c =
    length_fits (model_of c.args.model.now) c.in_ok-state-in-Reset.state c.values.result.now c.in_ok-state-in-Reset.ensures.sorted c.values.ensures

pub other_state-other-requires : goal.other_state-other-requires
other_state-other-requires c =
    let m = model_of c.args.model.now in
    let stands = subst (IsPosition m (mapped_of c.args.mapped.now) c.args.t) c.in-Idle.is c.requires.position in
    state_length m c.in_ok-state-in-Idle.state c.in_ok-state-in-Idle.ensures.sorted ∙ sym (state_length m c.in-Idle.q stands.1)

pub at_idle-requires-in-Idle-clause-ended : goal.at_idle-requires-in-Idle-clause-ended
at_idle-requires-in-Idle-clause-ended c =
    (subst (IsPosition (model_of c.args.model.now) (mapped_of c.args.mapped.now) c.args.t) c.in-Idle.is c.requires.position).0

pub at_idle-requires-in-Idle-clause-state : goal.at_idle-requires-in-Idle-clause-state
at_idle-requires-in-Idle-clause-state c =
    (subst (IsPosition (model_of c.args.model.now) (mapped_of c.args.mapped.now) c.args.t) c.in-Idle.is c.requires.position).1

pub at_idle-requires-in-Idle-clause-other : goal.at_idle-requires-in-Idle-clause-other
at_idle-requires-in-Idle-clause-other c =
    other_differs (model_of c.args.model.now) c.in-Idle.q c.in_ok-state-in-Idle.state c.other_state-other.result c.in_ok-state-in-Idle.ensures.sorted
    c.other_state-other.ensures

pub inside-requires-clause-ended : goal.inside-requires-clause-ended
inside-requires-clause-ended c =
    (subst (IsPosition (model_of c.args.model.now) (mapped_of c.args.mapped.now) c.args.t) c.in-Running.is c.requires.position).0

pub inside-requires-clause-instruction : goal.inside-requires-clause-instruction
inside-requires-clause-instruction c =
    (subst (IsPosition (model_of c.args.model.now) (mapped_of c.args.mapped.now) c.args.t) c.in-Running.is c.requires.position).1

pub inside-requires-clause-next : goal.inside-requires-clause-next
inside-requires-clause-next c =
    (subst (IsPosition (model_of c.args.model.now) (mapped_of c.args.mapped.now) c.args.t) c.in-Running.is c.requires.position).2

pub returns-then-t-mapped-clause-turn : goal.returns-then-t-mapped-clause-turn
returns-then-t-mapped-clause-turn c x s run cycles z less none w =
    let model = c.args.model.now in
    let m = model_of model in
    let stands = subst (λ (p : WatchPosition). IsWatchedTo s run c.args.t (position_of m p)) c.in-Reset.is w in
    follow_reset m (mapped_of c.args.mapped.now) c.args.cycle.now c.args.t x s run cycles (states_apart model) z less none c.if-t-mapped.true stands

pub returns-in-Some-clause-turn : goal.returns-in-Some-clause-turn
returns-in-Some-clause-turn c x s run cycles z less none w =
    let model = c.args.model.now in
    let m = model_of model in
    let a = c.in_ok-state-in-Reset.state in
    let stands = subst (λ (p : WatchPosition). IsWatchedTo s run c.args.t (position_of m p)) c.in-Reset.is w in
    let found = subst (λ ys. IsFirstOtherStated (states_of m.top) ys (Some c.in-Some.k)) c.values.ensures c.in-Some.ensures in
    follow_initial m (mapped_of c.args.mapped.now) c.args.cycle.now c.args.t x s run cycles (states_apart model) z less none a c.in-Some.k
    c.in_ok-state-in-Reset.ensures.sorted c.in_ok-state-in-Reset.ensures.values (λ l. omega (arith, l, c.if-t-mapped.false)) stands found

pub returns-in_ok-turn-in-None-clause-turn : goal.returns-in_ok-turn-in-None-clause-turn
returns-in_ok-turn-in-None-clause-turn c x s run cycles z less none w =
    let model = c.args.model.now in
    let m = model_of model in
    let e = mapped_of c.args.mapped.now in
    let t = c.args.t in
    let a = c.in_ok-state-in-Reset.state in
    let worths = c.in_ok-state-in-Reset.ensures.values in
    let stands = subst (λ (p : WatchPosition). IsWatchedTo s run t (position_of m p)) c.in-Reset.is w in
    let found = subst (λ ys. IsFirstOtherStated (states_of m.top) ys None) c.values.ensures c.in-None.ensures in
    let idle =
    idle_at_reset m e c.args.cycle.now t x s run cycles (states_apart model) z less none a c.in_ok-state-in-Reset.ensures.sorted worths
    (λ l. omega (arith, l, c.if-t-mapped.false)) stands found in
    c.in_ok-turn-in-None.ensures.turn x s run cycles z less none idle (state_read m e c.args.cycle.now t x s run cycles (states_apart model) z a worths)

pub returns-in_ok-turn-in-Idle-clause-turn : goal.returns-in_ok-turn-in-Idle-clause-turn
returns-in_ok-turn-in-Idle-clause-turn c x s run cycles z less none w =
    let model = c.args.model.now in
    let m = model_of model in
    let e = mapped_of c.args.mapped.now in
    let t = c.args.t in
    let q = c.in-Idle.q in
    let a = c.in_ok-state-in-Idle.state in
    let stands = subst (λ (p : WatchPosition). IsWatchedTo s run t (position_of m p)) c.in-Idle.is w in
    let seen =
    ap (state_valuation m) (other_mapped q a c.other_state-other.result c.other_state-other.ensures)
    ∙ state_read m e c.args.cycle.now t x s run cycles (states_apart model) z a c.in_ok-state-in-Idle.ensures.values in
    c.in_ok-turn-in-Idle.ensures.turn x s run cycles z less none (idle_later s run t c.in-Idle.ended (state_valuation m q) stands) seen

pub returns-in-Running-clause-turn : goal.returns-in-Running-clause-turn
returns-in-Running-clause-turn c x s run cycles z less none w =
    let m = model_of c.args.model.now in
    let stands = subst (λ (p : WatchPosition). IsWatchedTo s run c.args.t (position_of m p)) c.in-Running.is w in
    c.inside.ensures.turn x s run cycles z less none stands
