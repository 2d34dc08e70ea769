use Rattle.std.proofs.Common.{refl, inl, inr}
use Rattle.v_places.specs.Views.{spots_of}
use Rattle.v_clocks.specs.Views.{sets_of}
use Rattle.v_judged.specs.Spots.{spots_in}
use Rattle.v_judged.proofs.Sharing.{shared_ready, latches_shared}
use Rattle.v_judged.proofs.Sound.{events_so, blocked_so, waiting_so, latch_so}
use Rattle.v_judged.proofs.blocks.items_refusal.Goals as goal

pub any_latch-requires : goal.any_latch-requires
any_latch-requires c = shared_ready (spots_in c.args.scopes.now) c.args.numbers.now (spots_of c.args.places.now) c.requires.shared c.requires.ready

pub returns-then-events : goal.returns-then-events
returns-then-events c = λ d t h own.
    let events = events_so t (spots_of c.args.places.now) d h c.block_kinds_are_at_places.ensures.events (sets_of c.args.nets.now) own _ c.in_ok-events.ensures in
    inl (refl, events.0 c.if-events.true)

pub returns-then-any_blocking_in_clocked : goal.returns-then-any_blocking_in_clocked
returns-then-any_blocking_in_clocked c = λ d t h own.
    let laws = c.block_kinds_are_at_places.ensures in
    let events = events_so t (spots_of c.args.places.now) d h laws.events (sets_of c.args.nets.now) own _ c.in_ok-events.ensures in
    let blocked = blocked_so t (spots_of c.args.places.now) d h laws.blocking _ c.any_blocking_in_clocked.ensures in
    inr (events.1 c.if-events.false, inl (refl, blocked.0 c.if-any_blocking_in_clocked.true))

pub returns-then-any_nonblocking_in_combinational : goal.returns-then-any_nonblocking_in_combinational
returns-then-any_nonblocking_in_combinational c = λ d t h own.
    let laws = c.block_kinds_are_at_places.ensures in
    let events = events_so t (spots_of c.args.places.now) d h laws.events (sets_of c.args.nets.now) own _ c.in_ok-events.ensures in
    let blocked = blocked_so t (spots_of c.args.places.now) d h laws.blocking _ c.any_blocking_in_clocked.ensures in
    let waiting = waiting_so t (spots_of c.args.places.now) d h laws.nonblocking _ c.any_nonblocking_in_combinational.ensures in
    inr (events.1 c.if-events.false, inr (blocked.1 c.if-any_blocking_in_clocked.false, inl (refl, waiting.0 c.if-any_nonblocking_in_combinational.true)))

pub returns-then-latched : goal.returns-then-latched
returns-then-latched c = λ d t h own.
    let laws = c.block_kinds_are_at_places.ensures in
    let events = events_so t (spots_of c.args.places.now) d h laws.events (sets_of c.args.nets.now) own _ c.in_ok-events.ensures in
    let blocked = blocked_so t (spots_of c.args.places.now) d h laws.blocking _ c.any_blocking_in_clocked.ensures in
    let waiting = waiting_so t (spots_of c.args.places.now) d h laws.nonblocking _ c.any_nonblocking_in_combinational.ensures in
    let latch = latch_so t (spots_of c.args.places.now) d h laws.latches _ (latches_shared (spots_in c.args.scopes.now) c.args.numbers.now (spots_of c.args.places.now) c.requires.shared _ c.in_ok-latched.ensures) in
    inr (
      events.1 c.if-events.false,
      inr (blocked.1 c.if-any_blocking_in_clocked.false, inr (waiting.1 c.if-any_nonblocking_in_combinational.false, inl (refl, latch.0 c.if-latched.true))),
    )

pub returns : goal.returns
returns c = λ d t h own.
    let laws = c.block_kinds_are_at_places.ensures in
    let events = events_so t (spots_of c.args.places.now) d h laws.events (sets_of c.args.nets.now) own _ c.in_ok-events.ensures in
    let blocked = blocked_so t (spots_of c.args.places.now) d h laws.blocking _ c.any_blocking_in_clocked.ensures in
    let waiting = waiting_so t (spots_of c.args.places.now) d h laws.nonblocking _ c.any_nonblocking_in_combinational.ensures in
    let latch = latch_so t (spots_of c.args.places.now) d h laws.latches _ (latches_shared (spots_in c.args.scopes.now) c.args.numbers.now (spots_of c.args.places.now) c.requires.shared _ c.in_ok-latched.ensures) in
    inr (
      events.1 c.if-events.false,
      inr (blocked.1 c.if-any_blocking_in_clocked.false, inr (waiting.1 c.if-any_nonblocking_in_combinational.false, inr (latch.1 c.if-latched.false, refl))),
    )
