use Rattle.std.proofs.Common.{◌∙◌, ap, sym, subst, refl, inl, inr, length}
use Rattle.std.specs.Prelude.{◌↔◌, IsTrue}
use Rattle.v_places.specs.Views.{spot_of, spots_of}
use Rattle.v_flat.specs.Views.{items_of, lists_of}
use Rattle.place_kinds.specs.Places.{SomeWith, HasBadDriverAt, AreDrivenSpots}
use Rattle.v_judged.proofs.Sound.{sound_places, placing, all_driven, driver_so}
use Rattle.v_judged.proofs.Asking.{as_many}
use Rattle.v_judged.proofs.drivers.driver_refusal.Goals as goal

pub any_bad_driver-requires-clause-as_many : goal.any_bad_driver-requires-clause-as_many
any_bad_driver-requires-clause-as_many c =
    let d = c.requires.sound.0 in
    let h = c.requires.sound.1 in
    let spots = spots_of c.args.places.now in
    let placed = placing _ spots d h c.places_are_placed.ensures.placing in
    let made = c.in_ok-lists.ensures d h.named.interfaces placed in
    let all = all_driven _ spots d h c.bad_drivers_are_at_places.ensures.lists c.places_are_placed.ensures.placing (lists_of c.in_ok-lists.lists.items) made in
    ap length c.deref.ensures.value ∙ as_many items_of spot_of c.in_ok-lists.lists.items c.args.places.now all.as_many

pub any_bad_driver-requires-clause-ready : goal.any_bad_driver-requires-clause-ready
any_bad_driver-requires-clause-ready c =
    let d = c.requires.sound.0 in
    let h = c.requires.sound.1 in
    let spots = spots_of c.args.places.now in
    let placed = placing _ spots d h c.places_are_placed.ensures.placing in
    let made = c.in_ok-lists.ensures d h.named.interfaces placed in
    let all = all_driven _ spots d h c.bad_drivers_are_at_places.ensures.lists c.places_are_placed.ensures.placing (lists_of c.in_ok-lists.lists.items) made in
    subst (λ ls. AreDrivenSpots (lists_of ls) spots) (sym c.deref.ensures.value)
    (c.bad_drivers_are_at_places.ensures.ready d spots (lists_of c.in_ok-lists.lists.items) (sound_places _ spots d h) all)

pub returns-then-bad : goal.returns-then-bad
returns-then-bad c = λ d h.
    let spots = spots_of c.args.places.now in
    let placed = placing _ spots d h c.places_are_placed.ensures.placing in
    let made = c.in_ok-lists.ensures d h.named.interfaces placed in
    let all = all_driven _ spots d h c.bad_drivers_are_at_places.ensures.lists c.places_are_placed.ensures.placing (lists_of c.in_ok-lists.lists.items) made in
    let told = subst (λ ls. IsTrue c.in_ok-bad.bad ↔ SomeWith HasBadDriverAt (lists_of ls) spots) c.deref.ensures.value c.in_ok-bad.ensures in
    inl (refl, (driver_so _ spots d h c.bad_drivers_are_at_places.ensures.drivers (lists_of c.in_ok-lists.lists.items) all c.in_ok-bad.bad told).0 c.if-bad.true)

pub returns : goal.returns
returns c = λ d h.
    let spots = spots_of c.args.places.now in
    let placed = placing _ spots d h c.places_are_placed.ensures.placing in
    let made = c.in_ok-lists.ensures d h.named.interfaces placed in
    let all = all_driven _ spots d h c.bad_drivers_are_at_places.ensures.lists c.places_are_placed.ensures.placing (lists_of c.in_ok-lists.lists.items) made in
    let told = subst (λ ls. IsTrue c.in_ok-bad.bad ↔ SomeWith HasBadDriverAt (lists_of ls) spots) c.deref.ensures.value c.in_ok-bad.ensures in
    inr ((driver_so _ spots d h c.bad_drivers_are_at_places.ensures.drivers (lists_of c.in_ok-lists.lists.items) all c.in_ok-bad.bad told).1 c.if-bad.false, refl)
