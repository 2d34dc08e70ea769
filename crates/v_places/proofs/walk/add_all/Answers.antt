use Rattle.std.proofs.Common.{◌≡◌, ℕ, arith, ap, sym, refl, length}
use Rattle.std.proofs.lemmas.Bool.{false≢true}
use Rattle.v_places.specs.Views.{spot_of, spots_of}
use Rattle.v_places.proofs.Turns.{walk_begun}
use Rattle.v_places.proofs.Joined.{all_counted, all_fit, one_listed, fewer, nearer, none_waits, turn_on, turn_off, turn_end}
use Rattle.v_places.proofs.walk.add_all.Goals as goal

pub loop-place-init : goal.loop-place-init
loop-place-init c =
    let none : length c.args.list.now.items ≡ 0 = ap length c.requires.1 in
    let one : length c.args.queue.now.items ≡ 1 = c.requires.0 in
    (sym none, omega (arith, none, one), omega arith, λ source top knows e. walk_begun source top (spots_of c.args.list.now.items) (spots_of c.args.queue.now.items) (ap spots_of c.requires.1) e)

pub loop-place-preserved : goal.loop-place-preserved
loop-place-preserved c =
    let inv = c.loop-place.invariant in
    let added = c.in_ok-more.ensures (spot_of c.in-Some.place) refl refl in (
      one_listed c.loop-place.number c.loop-place.list.items c.append.new.list.items c.in-Some.place inv.0 c.in_ok-append-in-Some-more.ensures,
      all_counted c.loop-place.count c.in-Some-more.more c.in_ok-more.more c.loop-place.list.items c.append.new.list.items c.loop-place.queue.items c.pop_front.new.self.items c.add_below.new.queue.items c.in-Some.place _
          inv.1 c.in-Some.ensures.items c.in-Some-more.is added c.in_ok-append-in-Some-more.ensures,
      all_fit c.loop-place.count c.in-Some-more.more c.in_ok-more.more c.loop-place.list.items c.append.new.list.items c.loop-place.queue.items c.pop_front.new.self.items c.add_below.new.queue.items c.in-Some.place _
          inv.1 c.in-Some.ensures.items c.in-Some-more.is added c.in_ok-append-in-Some-more.ensures inv.2,
      λ source top knows e.
          turn_on c.args.modules.now c.args.numbers.now source top c.loop-place.number c.loop-place.count c.in_ok-more.more c.loop-place.list.items c.loop-place.queue.items c.pop_front.new.self.items c.add_below.new.queue.items c.in-Some.place
          knows inv.0 (inv.3 source top knows e) c.in-Some.ensures.items added c.in-Some-more.more c.append.new.list.items c.in-Some-more.is c.in_ok-append-in-Some-more.ensures,
    )

pub loop-place-smaller : goal.loop-place-smaller
loop-place-smaller c =
    let inv = c.loop-place.invariant in
    nearer c.loop-place.number (fewer c.loop-place.number c.loop-place.count c.loop-place.list.items c.loop-place.queue.items c.pop_front.new.self.items c.in-Some.place inv.0 inv.1 c.in-Some.ensures.items inv.2)

pub returns-in-None : goal.returns-in-None
returns-in-None c = λ source top knows e.
    let inv = c.loop-place.invariant in
    turn_off c.args.modules.now c.args.numbers.now source top c.loop-place.number c.loop-place.count c.in_ok-more.more c.loop-place.list.items c.loop-place.queue.items c.pop_front.new.self.items c.add_below.new.queue.items c.in-Some.place
    knows inv.0 (inv.3 source top knows e) c.in-Some.ensures.items (c.in_ok-more.ensures (spot_of c.in-Some.place) refl refl) (spots_of c.loop-place.list.items) c.in-None.is inv.1

pub returns : goal.returns
returns c = λ source top knows e.
    let inv = c.loop-place.invariant in
    turn_end source top c.loop-place.number c.loop-place.count c.loop-place.list.items c.loop-place.queue.items inv.0 inv.1 inv.2
    (none_waits c.loop-place.queue.len c.loop-place.queue.items c.loop-place.queue.ok.0 (λ i. false≢true (c.in_default.ensures.variant.1 i))) (inv.3 source top knows e)
