use Rattle.std.proofs.Common.{◌∙◌, ◌++◌, List, ap, map, subst, sym, length}
use Rattle.wb_terms.specs.declared.nodes.TermId.{TermId}
use Rattle.v_syntax.specs.Source.{item_of}
use Rattle.wanted_terms.specs.Wanted.{AreBelow}
use Rattle.emitted_names.specs.Ids.{ids_of, kept_by, AreAllKept}
use Rattle.emitted_trees.specs.Words.{all_at}
use Rattle.emitted_trees.proofs.Loops.{node_items, kept_items}
use Rattle.emitted_trees.proofs.module.with_kept_wires.Goals as goal

pub with_nodes-requires : goal.with_nodes-requires
with_nodes-requires c = record {
  ordered = c.requires.ordered;
  below = subst (λ (xs : List TermId). AreBelow (length c.args.wires.terms.now.nodes) xs) (sym c.as_slice.ensures.value) c.in_ok-ids.ensures.below;
  kept = subst (λ (xs : List TermId). AreAllKept (kept_by c.args.keep.now) xs) (sym c.as_slice.ensures.value) c.in_ok-ids.ensures.kept;
  named = c.requires.named;
  words = c.requires.words;
}

pub returns : goal.returns
returns c =
    let g = c.args.wires.terms.now in
    let front = map item_of c.args.items.items in
    c.in_ok-items.ensures
    ∙ ap (λ (xs : List TermId). front ++ all_at (node_items g) (ids_of xs)) c.as_slice.ensures.value
    ∙ ap (λ ys. front ++ ys) (kept_items g (kept_by c.args.keep.now) c.in_ok-ids.ids.items c.in_ok-ids.ensures.ids)
