use Rattle.std.proofs.Common.{◌≡◌, ◌∙◌, ◌-◌, ◌<◌, List, ap, length, subst, sym, refl, suc, arith, map, ◌++◌}
use Rattle.emitted_modules.specs.Stores.{via_name, via_wire}
use Rattle.emitted_names.specs.declared.words.PartName.{PartName}
use Rattle.emitted_names.specs.Parts.{named_by, parts_named, parts_of, update_of}
use Rattle.std.specs.Prelude.{option_map}
use Rattle.v_syntax.specs.Tree.{tree_of}
use Rattle.emitted_trees.proofs.Loops.{ways_start, ways_more, ways_end}
use Rattle.emitted_trees.proofs.Held.{part_in}
use Rattle.emitted_trees.proofs.ways.ways_so_far.Goals as goal

pub loop-done-init : goal.loop-done-init
loop-done-init c =
    let g = c.args.wires.terms.now in
    ways_start g (update_of g c.args.way.now) c.args.to.0 c.as_slice-parts.result.now _ refl

pub with_ways_from-requires : goal.with_ways_from-requires
with_ways_from-requires c =
    let g = c.args.wires.terms.now in
    let u = update_of g c.args.way.now in
    let named = subst (λ (ps : List PartName). parts_named ps ≡ named_by (via_name u) (parts_of g u.term (suc u.term))) (sym c.as_slice-parts.ensures.value) c.requires.way.named in
    let p = part_in g u.term (suc u.term) (via_name u) c.as_slice-parts.result.now _ c.part_at-part.result.now named c.part_at-part.ensures in
    record { part = omega (arith, p.below, c.requires.way.term_there); named = c.requires.named }

pub loop-done-preserved : goal.loop-done-preserved
loop-done-preserved c =
    let g = c.args.wires.terms.now in
    let u = update_of g c.args.way.now in
    let ps = c.as_slice-parts.result.now in
    let named = subst (λ (qs : List PartName). parts_named qs ≡ named_by (via_name u) (parts_of g u.term (suc u.term))) (sym c.as_slice-parts.ensures.value) c.requires.way.named in
    let p = part_in g u.term (suc u.term) (via_name u) ps _ c.part_at-part.result.now named c.part_at-part.ensures in
    ways_more g u c.args.to.0 ps c.loop-done.done _ c.part_at-part.result.now _ refl c.loop-done-test.true c.part_at-part.ensures
    (c.in_ok-all.ensures u _ p.called c.loop-done.invariant)

pub returns : goal.returns
returns c =
    let g = c.args.wires.terms.now in
    let u = update_of g c.args.way.now in
    let named = subst (λ (qs : List PartName). parts_named qs ≡ named_by (via_name u) (parts_of g u.term (suc u.term))) (sym c.as_slice-parts.ensures.value) c.requires.way.named in
    ways_end g u c.args.to.0 c.as_slice-parts.result.now c.loop-done.done (via_name u) _ (omega (arith, c.loop-done-test.false)) named c.loop-done.invariant
