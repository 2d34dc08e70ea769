use Rattle.std.proofs.Common.{List, arith, length, map, refl, ◌<◌}
use Rattle.wb_terms.specs.declared.nodes.TermId.{TermId}
use Rattle.v_syntax.specs.Source.{item_of}
use Rattle.emitted_names.specs.Ids.{ids_of, kept_by}
use Rattle.emitted_names.proofs.Bounds.{id_below}
use Rattle.emitted_names.proofs.Listing.{id_kept}
use Rattle.emitted_names.proofs.Turns.{onward_by, ended_by}
use Rattle.emitted_trees.specs.Words.{all_at}
use Rattle.emitted_trees.proofs.Loops.{node_items}
use Rattle.emitted_trees.proofs.words.with_nodes.Goals as goal

pub row_at-requires : goal.row_at-requires
row_at-requires c =
    omega (arith, id_below (length c.args.wires.terms.now.nodes) c.args.ids.now c.loop-place.place c.id_at-id.result c.requires.below c.id_at-id.ensures, c.requires.words.many)

pub with_node-requires : goal.with_node-requires
with_node-requires c =
    let g = c.args.wires.terms.now in
    let low : c.id_at-id.result.0 < length g.nodes = id_below (length g.nodes) c.args.ids.now c.loop-place.place c.id_at-id.result c.requires.below c.id_at-id.ensures in
    record {
      ordered = c.requires.ordered;
      id = low;
      named = c.requires.named;
      row = c.row_at.ensures g (kept_by c.args.keep.now) (length g.nodes) c.requires.words low
          (id_kept (kept_by c.args.keep.now) c.args.ids.now c.loop-place.place c.id_at-id.result c.requires.kept c.id_at-id.ensures);
    }

pub loop-place-preserved : goal.loop-place-preserved
loop-place-preserved c =
    let f = node_items c.args.wires.terms.now in
    onward_by (λ (ids : List TermId). all_at f (ids_of ids)) (λ (d : TermId). f d.0) (λ d ids. refl) c.args.ids.now c.loop-place.place c.id_at-id.result _
    (map item_of c.loop-place.all.items) _ c.id_at-id.ensures c.loop-place.invariant c.in_ok-all.ensures

pub returns : goal.returns
returns c =
    let f = node_items c.args.wires.terms.now in
    ended_by (λ (ids : List TermId). all_at f (ids_of ids)) refl c.args.ids.now c.loop-place.place _ (map item_of c.loop-place.all.items)
    (omega (arith, c.loop-place-test.false)) c.loop-place.invariant
