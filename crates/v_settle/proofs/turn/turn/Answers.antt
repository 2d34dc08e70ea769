use Rattle.std.proofs.Common.{◌+◌, [], ◌∷◌, drop, ap, arith}
use Rattle.std.proofs.lemmas.List.{at_drop_all}
use Rattle.v_operators.proofs.Growing.{Grows-refl, Grows-trans}
use Rattle.v_value.specs.Scope.{scope_at}
use Rattle.v_statement.proofs.Runs.{rest_is}
use Rattle.v_lower.specs.Table.{images_at}
use Rattle.v_masks.specs.Masks.{masked}
use Rattle.v_order.specs.Lists.{statement_in, statements_in}
use Rattle.v_loops.proofs.Sharing.{fit-turn}
use Rattle.v_settle.specs.Turns.{state_of}
use Rattle.v_settle.proofs.Rounds.{one-visited}
use Rattle.v_settle.proofs.Walks.{visits-turn, visits-end, sound-turn}
use Rattle.v_settle.proofs.turn.turn.Goals as goal

pub loop-driver-init : goal.loop-driver-init
loop-driver-init c =
    record { grows = Grows-refl c.args.terms.now; opens = c.requires.opens; sound = c.requires.sound; fit = c.requires.fit; left = λ last h. h }

pub visit-requires-clause-opens : goal.visit-requires-clause-opens
visit-requires-clause-opens c = c.loop-driver.invariant.opens

pub visit-requires-clause-sound : goal.visit-requires-clause-sound
visit-requires-clause-sound c =
    let ds = c.args.drivers.now in
    let i = c.loop-driver.driver-index in
    let r = c.driver-item.result in
    (sound-turn (scope_at c.args.scope.now) ds i r (rest_is ds i r (omega arith) c.driver-item.is) c.loop-driver.invariant.sound).0

pub visit-requires-clause-fit : goal.visit-requires-clause-fit
visit-requires-clause-fit c =
    let ds = c.args.drivers.now in
    let i = c.loop-driver.driver-index in
    let r = c.driver-item.result in
    (fit-turn (scope_at c.args.scope.now) ds i r (rest_is ds i r (omega arith) c.driver-item.is) c.loop-driver.invariant.fit).0

pub loop-driver-preserved : goal.loop-driver-preserved
loop-driver-preserved c =
    let s = scope_at c.args.scope.now in
    let ds = c.args.drivers.now in
    let i = c.loop-driver.driver-index in
    let r = c.driver-item.result in
    let e = rest_is ds i r (omega arith) c.driver-item.is in
    let before = state_of (images_at c.loop-driver.table) (images_at c.loop-driver.spare) c.loop-driver.terms (masked c.loop-driver.unsettled) in
    let after = state_of (images_at c.visit.new.table) (images_at c.visit.new.spare) c.visit.new.terms (masked c.visit.new.unsettled) in
    record {
      grows = Grows-trans c.loop-driver.invariant.grows c.in_ok-visit.ensures.grows;
      opens = c.in_ok-visit.ensures.visited.opens;
      sound = (sound-turn s ds i r e c.loop-driver.invariant.sound).1;
      fit = (fit-turn s ds i r e c.loop-driver.invariant.fit).1;
      left = visits-turn s (statements_in ds) (statements_in (drop i ds)) (statement_in r ∷ []) (statements_in (drop (i + 1) ds))
          (state_of (images_at c.args.table.now) (images_at c.args.spare.now) c.args.terms.now (masked c.args.unsettled.now)) before after (ap statements_in e)
          c.loop-driver.invariant.left (one-visited s (statement_in r) before after c.in_ok-visit.ensures.visited);
    }

pub returns-in_err-visit-clause-grows : goal.returns-in_err-visit-clause-grows
returns-in_err-visit-clause-grows c = Grows-trans c.loop-driver.invariant.grows c.visit.ensures.grows

pub returns-clause-grows : goal.returns-clause-grows
returns-clause-grows c = c.loop-driver.invariant.grows

pub returns-clause-visited : goal.returns-clause-visited
returns-clause-visited c =
    let ds = c.args.drivers.now in
    let i = c.loop-driver.driver-index in
    visits-end (scope_at c.args.scope.now) (statements_in ds) (statements_in (drop i ds))
    (state_of (images_at c.args.table.now) (images_at c.args.spare.now) c.args.terms.now (masked c.args.unsettled.now))
    (state_of (images_at c.loop-driver.table) (images_at c.loop-driver.spare) c.loop-driver.terms (masked c.loop-driver.unsettled))
    (at_drop_all statements_in ds i c.loop-driver-test.false) c.loop-driver.invariant.left
