use Rattle.std.proofs.Common.{◌≡◌, ◌∙◌, ◌-◌, ◌<◌, List, ap, length, subst, sym, refl, suc, arith, map, ◌++◌}
use Rattle.emitted_modules.specs.Stores.{via_name, via_wire}
use Rattle.emitted_names.specs.declared.words.PartName.{PartName}
use Rattle.emitted_names.specs.Parts.{named_by, parts_named, parts_of, update_of}
use Rattle.v_syntax.specs.Source.{item_of}
use Rattle.emitted_trees.specs.Words.{all_back, wires_at}
use Rattle.emitted_trees.proofs.Loops.{back_start, back_more, back_all, part_ids, all_vias}
use Rattle.emitted_trees.proofs.Held.{part_in}
use Rattle.emitted_trees.proofs.ways.with_vias.Goals as goal

pub loop-done-init : goal.loop-done-init
loop-done-init c =
    let g = c.args.wires.terms.now in
    let f = wires_at g (via_wire g (update_of g c.args.way.now)) in
    back_start (λ (ps : List PartName). all_back f (part_ids ps)) (λ (p : PartName). f p.id.0) refl (λ p ps. refl) c.as_slice-parts.result.now (map item_of c.args.items.items)

pub with_via-requires : goal.with_via-requires
with_via-requires c =
    let g = c.args.wires.terms.now in
    let u = update_of g c.args.way.now in
    let named = subst (λ (ps : List PartName). parts_named ps ≡ named_by (via_name u) (parts_of g u.term (suc u.term))) (sym c.as_slice-parts.ensures.value) c.requires.way.named in
    let p = part_in g u.term (suc u.term) (via_name u) c.as_slice-parts.result.now _ c.part_at-part.result.now named c.part_at-part.ensures in
    record { way = c.requires.way; part = omega (arith, p.below, c.requires.way.term_there); name = p.called; named = c.requires.named }

pub loop-done-preserved : goal.loop-done-preserved
loop-done-preserved c =
    let g = c.args.wires.terms.now in
    let f = wires_at g (via_wire g (update_of g c.args.way.now)) in
    back_more (λ (ps : List PartName). all_back f (part_ids ps)) (λ (p : PartName). f p.id.0) refl (λ p ps. refl) c.as_slice-parts.result.now c.loop-done.done _ c.part_at-part.result.now
    (map item_of c.args.items.items) (map item_of c.loop-done.all.items) _ refl c.loop-done-test.true c.part_at-part.ensures c.loop-done.invariant c.in_ok-all.ensures

pub returns : goal.returns
returns c =
    let g = c.args.wires.terms.now in
    let u = update_of g c.args.way.now in
    let f = wires_at g (via_wire g u) in
    let front = map item_of c.args.items.items in
    let named = subst (λ (ps : List PartName). parts_named ps ≡ named_by (via_name u) (parts_of g u.term (suc u.term))) (sym c.as_slice-parts.ensures.value) c.requires.way.named in
    back_all (λ (ps : List PartName). all_back f (part_ids ps)) (λ (p : PartName). f p.id.0) refl (λ p ps. refl) c.as_slice-parts.result.now c.loop-done.done front (map item_of c.loop-done.all.items)
    (omega (arith, c.loop-done-test.false)) c.loop-done.invariant
    ∙ ap (λ xs. front ++ xs) (all_vias g u (via_name u) c.as_slice-parts.result.now named)
