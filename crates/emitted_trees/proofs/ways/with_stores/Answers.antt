use Rattle.std.proofs.Common.{◌≡◌, ◌∙◌, ◌-◌, ◌<◌, List, ap, length, subst, sym, refl, suc, arith, map, ◌++◌}
use Rattle.emitted_modules.specs.Stores.{via_name}
use Rattle.emitted_names.specs.declared.words.PartName.{PartName}
use Rattle.emitted_names.specs.Parts.{named_by, parts_named, parts_of, update_of}
use Rattle.v_syntax.specs.Tree.{statement_of}
use Rattle.emitted_names.proofs.Turns.{onward_by, ended_by}
use Rattle.emitted_trees.specs.Words.{all_at}
use Rattle.emitted_trees.proofs.Loops.{part_ids, stores_made, stores_all}
use Rattle.emitted_trees.proofs.Held.{part_in}
use Rattle.emitted_trees.proofs.ways.with_stores.Goals as goal

pub name-memory-requires : goal.name-memory-requires
name-memory-requires c = c.requires.way.memory_there

pub with_store-requires : goal.with_store-requires
with_store-requires c =
    let g = c.args.wires.terms.now in
    let u = update_of g c.args.way.now in
    let named = subst (λ (ps : List PartName). parts_named ps ≡ named_by (via_name u) (parts_of g u.term (suc u.term))) (sym c.as_slice-parts.ensures.value) c.requires.way.named in
    let p = part_in g u.term (suc u.term) (via_name u) c.as_slice-parts.result.now c.loop-place.place c.part_at.result.now named c.part_at.ensures in
    record { part = omega (arith, p.below, c.requires.way.term_there); named = c.requires.named }

pub loop-place-preserved : goal.loop-place-preserved
loop-place-preserved c =
    let g = c.args.wires.terms.now in
    let u = update_of g c.args.way.now in
    let named = subst (λ (ps : List PartName). parts_named ps ≡ named_by (via_name u) (parts_of g u.term (suc u.term))) (sym c.as_slice-parts.ensures.value) c.requires.way.named in
    let p = part_in g u.term (suc u.term) (via_name u) c.as_slice-parts.result.now c.loop-place.place c.part_at.result.now named c.part_at.ensures in
    onward_by (λ (ps : List PartName). all_at (stores_made g u) (part_ids ps)) (λ (q : PartName). stores_made g u q.id.0) (λ q ps. refl) c.as_slice-parts.result.now c.loop-place.place
    c.part_at.result.now _ (map statement_of c.loop-place.all.items) _ c.part_at.ensures c.loop-place.invariant (c.in_ok-all.ensures u p.called c.name-memory.ensures)

pub returns : goal.returns
returns c =
    let g = c.args.wires.terms.now in
    let u = update_of g c.args.way.now in
    let front = map statement_of c.args.statements.items in
    let named = subst (λ (ps : List PartName). parts_named ps ≡ named_by (via_name u) (parts_of g u.term (suc u.term))) (sym c.as_slice-parts.ensures.value) c.requires.way.named in
    ended_by (λ (ps : List PartName). all_at (stores_made g u) (part_ids ps)) refl c.as_slice-parts.result.now c.loop-place.place _ (map statement_of c.loop-place.all.items)
    (omega (arith, c.loop-place-test.false)) c.loop-place.invariant
    ∙ ap (λ xs. front ++ xs) (stores_all g u (via_name u) c.as_slice-parts.result.now named)
