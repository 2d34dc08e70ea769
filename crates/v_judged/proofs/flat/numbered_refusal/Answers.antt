use Rattle.std.proofs.Common.{subst, map}
use Rattle.std.specs.Prelude.{◌↔◌, true}
use Rattle.verilog_designs.specs.Drivers.{HasUndriven}
use Rattle.v_syntax.specs.Source.{item_of}
use Rattle.v_value.specs.Scope.{scope_at}
use Rattle.v_undriven.specs.Undriven.{HasUndrivenBit}
use Rattle.v_places.specs.Views.{spots_of}
use Rattle.v_flat.specs.Numbered.{numbered}
use Rattle.v_flat.specs.Whole.{IsFlatDesign}
use Rattle.v_flat.proofs.Numbers.{top_is_plain}
use Rattle.v_judged.proofs.Sound.{sound_places, placing}
use Rattle.v_judged.proofs.flat.numbered_refusal.Goals as goal

pub flat_design-requires : goal.flat_design-requires
flat_design-requires c = c.requires.count

pub flat_refusal-requires : goal.flat_refusal-requires
flat_refusal-requires c =
    let spots = spots_of c.args.places.now in
    let d = c.requires.sound.0 in
    let h = c.requires.sound.1 in
    let p = placing _ spots d h c.places_are_placed.ensures.placing in
    let flat : IsFlatDesign d (numbered true spots) (scope_at c.in_ok-flat.flat.scope) (map item_of c.in_ok-flat.flat.items.items)
    = c.in_ok-flat.ensures d (numbered true spots) h.named.interfaces p (c.requires.called d p) in
    c.flat_kinds_are_kinds_of_the_design.ensures.ready d (numbered true spots) spots _ _ (sound_places _ spots d h) flat

pub returns : goal.returns
returns c = λ d x h is names k.
    let spots = spots_of c.args.places.now in
    let s = scope_at c.in_ok-flat.flat.scope in
    let items = map item_of c.in_ok-flat.flat.items.items in
    let laws = c.flat_kinds_are_kinds_of_the_design.ensures in
    let p = placing _ spots d h c.places_are_placed.ensures.placing in
    let flat : IsFlatDesign d (numbered true spots) s items
    = c.in_ok-flat.ensures d (numbered true spots) h.named.interfaces p (c.requires.called d p) in
    let sound = sound_places _ spots d h in
    c.in_ok-kind.ensures d
    (subst (λ n. HasUndriven d ↔ HasUndrivenBit s c.args.top.now n items) k (laws.undriven d (numbered true spots) spots s items c.args.top.now x sound (top_is_plain spots) flat is names))
    (laws.loops d (numbered true spots) spots s items sound flat)
