use Rattle.std.proofs.Common.{◌∙◌, ◌++◌, ◌∷◌, [], ap, map, subst, sym, length, ◌<◌}
use Rattle.wb_terms.specs.Graph.{Graph}
use Rattle.v_syntax.specs.Source.{item_of}
use Rattle.emitted_trees.specs.Emitted.{ready_from, start_items}
use Rattle.emitted_names.proofs.Bounds.{bounds}
use Rattle.emitted_names.proofs.Turns.{ap2}
use Rattle.emitted_trees.proofs.module.with_last_items.Goals as goal

pub with_ready-requires : goal.with_ready-requires
with_ready-requires c = record {
  valid = subst (λ (g : Graph). c.args.model.now.parts.valid.0 < length g.nodes) (sym c.requires.terms) (bounds c.args.model.now.parts c.args.model.now.well_sorted).condition;
  named = c.requires.named;
}

pub returns : goal.returns
returns c =
    c.in_ok-items-2.ensures
    ∙ ap2 (λ xs x. xs ++ x ∷ [])
    (c.in_ok-items.ensures ∙ ap2 (λ g n. map item_of c.args.items.items ++ start_items (ready_from g c.args.model.now.parts.valid.0 n)) c.requires.terms c.requires.one)
    c.in_ok-block.ensures
