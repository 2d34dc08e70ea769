use Rattle.std.proofs.Common.{refl, [], ◌∷◌}
use Rattle.map_files.specs.Meaning.{BadExpression, WidthMismatch, MapUsesInput}
use Rattle.map_file.specs.View.{map_view}
use Rattle.map_rules.specs.Case.{case_design}
use Rattle.v_places.specs.Views.{spots_of}
use Rattle.v_syntax.specs.Source.{source_of}
use Rattle.map_reading.specs.Judged.{IsPassed}
use Rattle.map_reading.proofs.First.{stopped, all_passed, handed_up, none_before}
use Rattle.map_reading.proofs.Flaws.{flawless, bad_told, users_told, where_none}
use Rattle.map_reading.proofs.expressions.expressions_passed.Goals as goal

pub input_user-user-requires : goal.input_user-user-requires
input_user-user-requires c = (
  case_design c.requires.0,
  flawless c.requires.0 c.requires.1 c.args.expressions.now c.args.known.now c.requires.3 (map_view c.args.map.now) (source_of c.args.tree.now)
      (spots_of c.args.places.now) c.requires.2 c.texts_are_shapely.ensures c.read_expressions_are_of_texts.ensures
      (where_none c.bad_expression-bad.result c.in_ok-passed.ensures.none c.bad_expression-bad.ensures.clean (case_design c.requires.0) c.requires.3.are_known
      c.requires.3.are_named),
)

pub returns-in_err-passed : goal.returns-in_err-passed
returns-in_err-passed c = λ k p at asked flags.
    let bad =
    bad_told k p c.args.expressions.now c.args.known.now asked c.bad_expression-bad.result (map_view c.args.map.now) (source_of c.args.tree.now)
    (spots_of c.args.places.now) at c.bad_expression-bad.ensures.told in
    handed_up (λ r. IsPassed k (BadExpression ∷ WidthMismatch ∷ MapUsesInput ∷ []) r) c.from_residual.result c.in_err-passed.field-0.0 c.from_residual.ensures.1
    (stopped k ([]) (BadExpression ∷ []) (WidthMismatch ∷ MapUsesInput ∷ []) c.in_err-passed.field-0.0 refl (c.in_err-passed.ensures.told k bad))

pub returns-in_err-passed-2 : goal.returns-in_err-passed-2
returns-in_err-passed-2 c = λ k p at asked flags.
    let bad =
    bad_told k p c.args.expressions.now c.args.known.now asked c.bad_expression-bad.result (map_view c.args.map.now) (source_of c.args.tree.now)
    (spots_of c.args.places.now) at c.bad_expression-bad.ensures.told in
    handed_up (λ r. IsPassed k (BadExpression ∷ WidthMismatch ∷ MapUsesInput ∷ []) r) c.from_residual-in_err-passed-2.result c.in_err-passed-2.field-0.0
    c.from_residual-in_err-passed-2.ensures.1
    (stopped k (BadExpression ∷ []) (WidthMismatch ∷ []) (MapUsesInput ∷ []) c.in_err-passed-2.field-0.0 (c.in_ok-passed.ensures.told k bad)
    (c.in_err-passed-2.ensures.told k (c.width_mismatch-differing.ensures k p asked)))

pub returns : goal.returns
returns c = λ k p at asked flags.
    let bad =
    bad_told k p c.args.expressions.now c.args.known.now asked c.bad_expression-bad.result (map_view c.args.map.now) (source_of c.args.tree.now)
    (spots_of c.args.places.now) at c.bad_expression-bad.ensures.told in
    let none =
    where_none c.bad_expression-bad.result c.in_ok-passed.ensures.none c.bad_expression-bad.ensures.clean (case_design k) asked.are_known asked.are_named in
    let free =
    flawless k p c.args.expressions.now c.args.known.now asked (map_view c.args.map.now) (source_of c.args.tree.now) (spots_of c.args.places.now) at
    c.texts_are_shapely.ensures c.read_expressions_are_of_texts.ensures none in
    let users =
    users_told k p c.args.expressions.now c.args.known.now asked c.input_user-user.result c.args.asked.now (source_of c.args.tree.now)
    (spots_of c.args.places.now) c.input_user-user.ensures flags free in
    all_passed k (BadExpression ∷ WidthMismatch ∷ []) (MapUsesInput ∷ []) c.passed-3.result
    (none_before k (BadExpression ∷ []) (WidthMismatch ∷ []) _ (c.in_ok-passed.ensures.told k bad)
    (c.in_ok-passed-2.ensures.told k (c.width_mismatch-differing.ensures k p asked))) (c.passed-3.ensures.told k users)
