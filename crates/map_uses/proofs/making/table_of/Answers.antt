use Rattle.std.proofs.Common.{◌∙◌, ap, sym, subst, map}
use Rattle.std.specs.Prelude.{◌↔◌, true, slice_get, IsTrue}
use Rattle.verilog_designs.specs.Dependence.{is_in}
use Rattle.v_syntax.specs.Source.{item_of}
use Rattle.v_instances.specs.Texts.{texts}
use Rattle.v_value.specs.Scope.{scope_at}
use Rattle.v_masks.specs.Masks.{masked}
use Rattle.v_loops.specs.Turns.{IsRunnable}
use Rattle.v_reach.specs.Coming.{ComesFrom}
use Rattle.v_places.specs.Views.{spots_of}
use Rattle.v_flat.specs.Entries.{naming_of}
use Rattle.v_flat.specs.Numbered.{numbered}
use Rattle.v_flat.specs.Views.{names_in}
use Rattle.v_flat.specs.Whole.{IsFlatDesign}
use Rattle.v_flat.proofs.Numbers.{top_is_plain}
use Rattle.map_paths.specs.Tables.{numbers_in}
use Rattle.map_inputs.specs.Bits.{input_bits}
use Rattle.map_uses.proofs.Leading.{placing, flat_ready, leads, tells}
use Rattle.map_uses.proofs.making.table_of.Goals as goal

pub flat_design-requires : goal.flat_design-requires
flat_design-requires c = c.requires.count

pub comes_from_inputs-requires-clause-objects : goal.comes_from_inputs-requires-clause-objects
comes_from_inputs-requires-clause-objects c =
    let spots = spots_of c.args.places.now in
    let d = c.requires.stands.0 in
    let h = c.requires.stands.1 in
    let p = placing d spots h.stands c.places_are_placed.ensures.placing in
    let flat : IsFlatDesign d (numbered true spots) (scope_at c.in_ok-flat.flat.scope) (map item_of c.in_ok-flat.flat.items.items)
    = c.in_ok-flat.ensures d (numbered true spots) h.are_interfaces p (c.requires.called d p) in
    (flat_ready d spots h.stands c.flat_kinds_are_kinds_of_the_design.ensures.ready (numbered true spots) _ _ flat).objects

pub comes_from_inputs-requires-clause-fit : goal.comes_from_inputs-requires-clause-fit
comes_from_inputs-requires-clause-fit c =
    let spots = spots_of c.args.places.now in
    let d = c.requires.stands.0 in
    let h = c.requires.stands.1 in
    let p = placing d spots h.stands c.places_are_placed.ensures.placing in
    let flat : IsFlatDesign d (numbered true spots) (scope_at c.in_ok-flat.flat.scope) (map item_of c.in_ok-flat.flat.items.items)
    = c.in_ok-flat.ensures d (numbered true spots) h.are_interfaces p (c.requires.called d p) in
    subst (λ xs. IsRunnable (scope_at c.in_ok-flat.flat.scope) (map item_of xs)) (sym c.items_of.ensures)
    (flat_ready d spots h.stands c.flat_kinds_are_kinds_of_the_design.ensures.ready (numbered true spots) _ _ flat).fit.for_loops

pub returns : goal.returns
returns c = λ d h.
    let spots = spots_of c.args.places.now in
    let s = scope_at c.in_ok-flat.flat.scope in
    let items = map item_of c.in_ok-flat.flat.items.items in
    let made = map names_in c.args.names.now.places.items in
    let laws = c.places_are_placed.ensures in
    let p = placing d spots h.stands laws.placing in
    let called = c.requires.called d p in
    let flat : IsFlatDesign d (numbered true spots) s items = c.in_ok-flat.ensures d (numbered true spots) h.are_interfaces p called in
    tells d spots h.stands laws.numbered (numbered true spots) (top_is_plain spots) made called (texts c.in_ok-inputs.inputs.items)
    (λ x z e g. c.in_ok-inputs.ensures x z e (ap (λ ps. slice_get (map names_in ps) 0) c.deref.ensures.value ∙ g))
    c.dotted_names_are_a_naming.ensures s items flat _ (masked c.in_ok-marked.marked)
    (leads d spots h.stands laws.numbered c.located_names_are_dotted_names.ensures.are_located (numbers_in c.in_ok-instances.instances) c.in_ok-instances.ensures
    (numbered true spots) made called _ (c.in_ok-own.ensures ∙ ap (λ ps. map naming_of (map names_in ps)) c.deref-3.ensures.value))
    (λ u there.
    subst (λ ns. IsTrue (is_in (masked c.in_ok-marked.marked) u) ↔ ComesFrom s items (input_bits s (texts ns)) u) c.deref-2.ensures.value
    (subst (λ xs. IsTrue (is_in (masked c.in_ok-marked.marked) u) ↔ ComesFrom s (map item_of xs) (input_bits s (texts c.deref-2.result.now)) u) c.items_of.ensures
    (c.in_ok-marked.ensures u there)))
