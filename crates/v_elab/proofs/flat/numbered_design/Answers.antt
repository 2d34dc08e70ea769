use Rattle.std.proofs.Common.{◌∙◌, false, map, ap, sym, subst}
use Rattle.std.specs.Option.{option_copied}
use Rattle.v_syntax.specs.Source.{item_of}
use Rattle.v_value.specs.Scope.{scope_at}
use Rattle.v_places.specs.Views.{spot_of, spots_of}
use Rattle.v_flat.specs.Numbered.{numbered}
use Rattle.v_flat.specs.Views.{names_in}
use Rattle.v_flat.proofs.Numbers.{front_numbered}
use Rattle.verilog_registers.specs.Order.{members_in}
use Rattle.v_ordered.specs.Order.{AreNamesInOrder}
use Rattle.v_elab.proofs.FlatPlaces.{is_placing, is_ready, names_are_nets, is_called_so, is_the_design, some_place, first_spot, no_spot}
use Rattle.v_elab.proofs.flat.numbered_design.Goals as goal

pub flat_design-requires : goal.flat_design-requires
flat_design-requires c = c.requires.count

pub elements_below-requires : goal.elements_below-requires
elements_below-requires c =
    let spots = spots_of c.args.places.now in
    is_ready c.places_are_placed.ensures.placing c.places_are_placed.ensures.numbered c.args.interfaces.now c.args.clock.now spots
    (scope_at c.in_ok-flat.flat.scope) (map item_of c.in_ok-flat.flat.items.items) (map (λ n. n.now) c.deref.result.now)
    (λ d i h. c.in_ok-flat.ensures d (numbered false spots) i h (c.requires.called d h))
    (λ d top h at.
    subst (λ ns. AreNamesInOrder d (numbered false spots) top (members_in top.of_module) (map (λ n. n.now) ns)) (sym c.deref.ensures.value)
    (c.in_ok-declared.ensures d (numbered false spots) top h (c.requires.called d h).names (front_numbered false spots) at)) (spot_of c.in-Some.top.now)
    (first_spot c.args.places.now c.in-Some.top.now (sym c.first.ensures.value ∙ ap option_copied c.in-Some.is))
    c.requires.stands.0 c.requires.stands.1 c.unbroken_statements_are_sound.ensures

pub told_design-requires : goal.told_design-requires
told_design-requires c =
    let spots = spots_of c.args.places.now in
    let names = map names_in c.args.names.now.places.items in
    let d = c.requires.stands.0 in
    let x = c.requires.stands.1 in
    let placing = is_placing c.args.interfaces.now c.args.clock.now spots d x c.places_are_placed.ensures.placing in
    let are = c.requires.called d placing in (
      d,
      are.naming,
      is_called_so c.places_are_placed.ensures.placing c.places_are_placed.ensures.numbered c.args.interfaces.now c.args.clock.now spots
          (scope_at c.in_ok-flat.flat.scope) (map item_of c.in_ok-flat.flat.items.items) (map (λ n. n.now) c.deref.result.now)
          (λ d i h. c.in_ok-flat.ensures d (numbered false spots) i h (c.requires.called d h))
          (λ d top h at.
          subst (λ ns. AreNamesInOrder d (numbered false spots) top (members_in top.of_module) (map (λ n. n.now) ns)) (sym c.deref.ensures.value)
          (c.in_ok-declared.ensures d (numbered false spots) top h (c.requires.called d h).names (front_numbered false spots) at)) (spot_of c.in-Some.top.now)
          (first_spot c.args.places.now c.in-Some.top.now (sym c.first.ensures.value ∙ ap option_copied c.in-Some.is))
          d x names are,
      names_are_nets c.places_are_placed.ensures.placing c.places_are_placed.ensures.numbered c.args.interfaces.now c.args.clock.now spots
          (scope_at c.in_ok-flat.flat.scope) (map item_of c.in_ok-flat.flat.items.items) (map (λ n. n.now) c.deref.result.now)
          (λ d i h. c.in_ok-flat.ensures d (numbered false spots) i h (c.requires.called d h))
          (λ d top h at.
          subst (λ ns. AreNamesInOrder d (numbered false spots) top (members_in top.of_module) (map (λ n. n.now) ns)) (sym c.deref.ensures.value)
          (c.in_ok-declared.ensures d (numbered false spots) top h (c.requires.called d h).names (front_numbered false spots) at)) (spot_of c.in-Some.top.now)
          (first_spot c.args.places.now c.in-Some.top.now (sym c.first.ensures.value ∙ ap option_copied c.in-Some.is))
          d x _ c.in_ok-elements-in-Some.ensures,
    )

pub unreachable-requires : goal.unreachable-requires
unreachable-requires c =
    some_place c.args.interfaces.now c.args.clock.now (spots_of c.args.places.now) c.requires.stands.0 c.requires.stands.1
    (no_spot c.args.places.now (sym c.first.ensures.value ∙ ap option_copied c.in-None.is))

pub returns : goal.returns
returns c = λ d x.
    let spots = spots_of c.args.places.now in
    let names = map names_in c.args.names.now.places.items in
    let placing = is_placing c.args.interfaces.now c.args.clock.now spots d x c.places_are_placed.ensures.placing in
    is_the_design c.places_are_placed.ensures.placing c.places_are_placed.ensures.numbered c.args.interfaces.now c.args.clock.now spots
    (scope_at c.in_ok-flat.flat.scope) (map item_of c.in_ok-flat.flat.items.items) (map (λ n. n.now) c.deref.result.now)
    (λ d i h. c.in_ok-flat.ensures d (numbered false spots) i h (c.requires.called d h))
    (λ d top h at.
    subst (λ ns. AreNamesInOrder d (numbered false spots) top (members_in top.of_module) (map (λ n. n.now) ns)) (sym c.deref.ensures.value)
    (c.in_ok-declared.ensures d (numbered false spots) top h (c.requires.called d h).names (front_numbered false spots) at)) (spot_of c.in-Some.top.now)
    (first_spot c.args.places.now c.in-Some.top.now (sym c.first.ensures.value ∙ ap option_copied c.in-Some.is))
    d x _ c.in_ok-elements-in-Some.ensures (λ v. c.requires.seen d v placing) _
    (c.in_ok-design-in-Some.ensures d
    (is_called_so c.places_are_placed.ensures.placing c.places_are_placed.ensures.numbered c.args.interfaces.now c.args.clock.now spots
    (scope_at c.in_ok-flat.flat.scope) (map item_of c.in_ok-flat.flat.items.items) (map (λ n. n.now) c.deref.result.now)
    (λ d i h. c.in_ok-flat.ensures d (numbered false spots) i h (c.requires.called d h))
    (λ d top h at.
    subst (λ ns. AreNamesInOrder d (numbered false spots) top (members_in top.of_module) (map (λ n. n.now) ns)) (sym c.deref.ensures.value)
    (c.in_ok-declared.ensures d (numbered false spots) top h (c.requires.called d h).names (front_numbered false spots) at)) (spot_of c.in-Some.top.now)
    (first_spot c.args.places.now c.in-Some.top.now (sym c.first.ensures.value ∙ ap option_copied c.in-Some.is))
    d x names (c.requires.called d placing)))
