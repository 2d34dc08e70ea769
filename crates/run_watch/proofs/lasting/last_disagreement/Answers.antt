use Rattle.std.proofs.Common.{Some, None, map, subst, arith}
use Rattle.model_meaning.specs.Model.{states_of}
use Rattle.ila_model.specs.Model.{model_of}
use Rattle.mapped_designs.specs.View.{mapped_of}
use Rattle.watch_laws.specs.Positions.{IsWatchedTo}
use Rattle.run_watch.specs.declared.standing.WatchPosition.{WatchPosition}
use Rattle.run_watch.specs.Comparing.{IsFirstDifference, IsFirstOtherStated}
use Rattle.run_watch.specs.Turns.{IsPosition, position_of}
use Rattle.run_watch.proofs.Names.{states_apart, length_fits, lengths_agree}
use Rattle.run_watch.proofs.Coded.{last_reset, last_initial, last_stated, last_other, last_same, last_running}
use Rattle.run_watch.proofs.lasting.last_disagreement.Goals as goal

pub first_other_stated-requires : goal.first_other_stated-requires
first_other_stated-requires c =
    length_fits (model_of c.args.model.now) c.in_ok-state-in-Reset.state c.values.result.now c.in_ok-state-in-Reset.ensures.sorted c.values.ensures

pub first_difference-requires : goal.first_difference-requires
first_difference-requires c =
    let m = model_of c.args.model.now in
    let stands = subst (IsPosition m (mapped_of c.args.mapped.now) c.args.t) c.in-Idle.is c.requires.position in
    lengths_agree m c.in_ok-state-in-Idle.state c.in-Idle.q c.values-in-Idle.result.now c.values-in-Idle-2.result.now c.in_ok-state-in-Idle.ensures.sorted stands.1
    c.values-in-Idle.ensures c.values-in-Idle-2.ensures

pub returns-then-t-mapped : goal.returns-then-t-mapped
returns-then-t-mapped c x s run cycles z w =
    let model = c.args.model.now in
    last_reset (model_of model) (mapped_of c.args.mapped.now) c.args.cycle.now c.args.t x s run cycles (states_apart model) z c.if-t-mapped.true

pub returns-in-Some : goal.returns-in-Some
returns-in-Some c x s run cycles z w =
    let model = c.args.model.now in
    let m = model_of model in
    let a = c.in_ok-state-in-Reset.state in
    let stands = subst (λ (p : WatchPosition). IsWatchedTo s run c.args.t (position_of m p)) c.in-Reset.is w in
    let found = subst (λ ys. IsFirstOtherStated (states_of m.top) ys (Some c.in-Some.k)) c.values.ensures c.in-Some.ensures in
    last_initial m (mapped_of c.args.mapped.now) c.args.cycle.now c.args.t x s run cycles (states_apart model) z a c.in-Some.k c.in_ok-state-in-Reset.ensures.sorted
    c.in_ok-state-in-Reset.ensures.values (λ l. omega (arith, l, c.if-t-mapped.false)) stands found

pub returns-in-Reset : goal.returns-in-Reset
returns-in-Reset c x s run cycles z w =
    let model = c.args.model.now in
    let m = model_of model in
    let a = c.in_ok-state-in-Reset.state in
    let stands = subst (λ (p : WatchPosition). IsWatchedTo s run c.args.t (position_of m p)) c.in-Reset.is w in
    let found = subst (λ ys. IsFirstOtherStated (states_of m.top) ys None) c.values.ensures c.in-None.ensures in
    last_stated m (mapped_of c.args.mapped.now) c.args.cycle.now c.args.t x s run cycles (states_apart model) z a c.in_ok-state-in-Reset.ensures.sorted
    c.in_ok-state-in-Reset.ensures.values (λ l. omega (arith, l, c.if-t-mapped.false)) stands found

pub returns-in-Some-first_difference : goal.returns-in-Some-first_difference
returns-in-Some-first_difference c x s run cycles z w =
    let model = c.args.model.now in
    let m = model_of model in
    let e = mapped_of c.args.mapped.now in
    let a = c.in_ok-state-in-Idle.state in
    let q = c.in-Idle.q in
    let stands = subst (λ (p : WatchPosition). IsWatchedTo s run c.args.t (position_of m p)) c.in-Idle.is w in
    let sound = subst (IsPosition m e c.args.t) c.in-Idle.is c.requires.position in
    let found =
    subst (λ ys. IsFirstDifference ys q (Some c.in-Some-first_difference.k)) c.values-in-Idle.ensures
    (subst (λ ys. IsFirstDifference c.values-in-Idle.result.now ys (Some c.in-Some-first_difference.k)) c.values-in-Idle-2.ensures c.in-Some-first_difference.ensures) in
    last_other m e c.args.cycle.now c.args.t x s run cycles (states_apart model) z a q _ c.in-Some-first_difference.k c.in_ok-state-in-Idle.ensures.sorted sound.1
    c.in_ok-state-in-Idle.ensures.values stands found

pub returns-in-Idle : goal.returns-in-Idle
returns-in-Idle c x s run cycles z w =
    let model = c.args.model.now in
    let m = model_of model in
    let e = mapped_of c.args.mapped.now in
    let a = c.in_ok-state-in-Idle.state in
    let q = c.in-Idle.q in
    let stands = subst (λ (p : WatchPosition). IsWatchedTo s run c.args.t (position_of m p)) c.in-Idle.is w in
    let sound = subst (IsPosition m e c.args.t) c.in-Idle.is c.requires.position in
    let found =
    subst (λ ys. IsFirstDifference ys q None) c.values-in-Idle.ensures
    (subst (λ ys. IsFirstDifference c.values-in-Idle.result.now ys None) c.values-in-Idle-2.ensures c.in-None-first_difference.ensures) in
    last_same m e c.args.cycle.now c.args.t x s run cycles (states_apart model) z a q _ c.in_ok-state-in-Idle.ensures.sorted sound.1 c.in_ok-state-in-Idle.ensures.values
    stands found

pub returns : goal.returns
returns c x s run cycles z w =
    let model = c.args.model.now in
    let m = model_of model in
    let stands = subst (λ (p : WatchPosition). IsWatchedTo s run c.args.t (position_of m p)) c.in-Running.is w in
    last_running m (mapped_of c.args.mapped.now) c.args.cycle.now c.args.t x s run cycles (states_apart model) z _ _ _ _ stands
