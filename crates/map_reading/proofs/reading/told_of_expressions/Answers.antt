use Rattle.std.proofs.Common.{◌∙◌, refl, sym}
use Rattle.ila_model.specs.Model.{model_of}
use Rattle.v_syntax.specs.Source.{source_of}
use Rattle.map_file.specs.View.{map_view}
use Rattle.map_rules.specs.Case.{case_design}
use Rattle.map_rules.specs.Accepted.{case_of}
use Rattle.map_trees.specs.View.{tree_map_view}
use Rattle.map_reading.proofs.Flaws.{asked_there}
use Rattle.map_reading.proofs.reading.told_of_expressions.Goals as goal

pub expressions_of-requires : goal.expressions_of-requires
expressions_of-requires c = record { written = map_view c.args.tokens.now.map.now; are_tokens = c.requires.tokens; stands = c.requires.stands }

pub known_names-requires : goal.known_names-requires
known_names-requires c =
    (case_design (case_of (map_view c.args.tokens.now.map.now) (model_of c.args.model.now) (source_of c.args.tree.now)), c.requires.places)

pub expressions_passed-requires : goal.expressions_passed-requires
expressions_passed-requires c =
    let k = case_of (map_view c.args.tokens.now.map.now) (model_of c.args.model.now) (source_of c.args.tree.now) in (
      k,
      tree_map_view c.args.trees.now,
      record { is_written = refl; is_source = refl; stands_at = c.requires.places },
      asked_there k (tree_map_view c.args.trees.now) c.in_ok-expressions.expressions.items c.deref.result.now c.deref-2.result.now c.in_ok-known.known
          c.deref.ensures.value c.deref-2.ensures.value c.requires.stands c.in_ok-expressions.ensures
          (c.in_ok-known.ensures (case_design k) c.requires.places refl (sym c.as_str.ensures.value)),
    )

pub returns : goal.returns
returns c =
    let k = case_of (map_view c.args.tokens.now.map.now) (model_of c.args.model.now) (source_of c.args.tree.now) in
    let p = tree_map_view c.args.trees.now in
    c.expressions_passed.ensures k p (record { is_written = refl; is_source = refl; stands_at = c.requires.places })
    (asked_there k p c.in_ok-expressions.expressions.items c.deref.result.now c.deref-2.result.now c.in_ok-known.known c.deref.ensures.value c.deref-2.ensures.value
    c.requires.stands c.in_ok-expressions.ensures (c.in_ok-known.ensures (case_design k) c.requires.places refl (sym c.as_str.ensures.value)))
    (c.deref-3.ensures.value ∙ c.in_ok-asked.ensures (model_of c.args.model.now) (map_view c.args.tokens.now.map.now) p c.requires.tokens c.requires.stands)
