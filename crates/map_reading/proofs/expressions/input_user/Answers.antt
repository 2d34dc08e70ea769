use Rattle.std.proofs.Common.{◌∙◌, ap, sym, refl}
use Rattle.std.proofs.lemmas.Bool.{false≢true}
use Rattle.std.specs.Prelude.{is_some}
use Rattle.map_rules.specs.Case.{case_design}
use Rattle.v_places.specs.Views.{spots_of}
use Rattle.v_syntax.specs.Source.{source_of}
use Rattle.map_reading.proofs.Flaws.{user_told, found_told}
use Rattle.map_reading.proofs.expressions.input_user.Goals as goal

pub returns-in-Ok-Some : goal.returns-in-Ok-Some
returns-in-Ok-Some c = λ k p asked flags free.
    let told =
    user_told k p c.args.expressions.now c.args.known.now asked c.args.asked.now c.in-Ok-Some.field-0 c.first_users_break_the_rule.ensures flags
    (found_told c.args.expressions.now c.args.known.now c.args.asked.now (source_of c.args.tree.now) (spots_of c.args.places.now) c.first_user.result
    c.in-Ok-Some.field-0 c.in-Ok-Some.is c.first_user.ensures (case_design k) free) in
    ((λ _. told.1 (ap is_some c.in-Ok-Some.field-0-is)), (λ _. refl))

pub returns-in-Ok-None : goal.returns-in-Ok-None
returns-in-Ok-None c = λ k p asked flags free.
    let told =
    user_told k p c.args.expressions.now c.args.known.now asked c.args.asked.now c.in-Ok-None.field-0 c.first_users_break_the_rule.ensures flags
    (found_told c.args.expressions.now c.args.known.now c.args.asked.now (source_of c.args.tree.now) (spots_of c.args.places.now) c.first_user.result
    c.in-Ok-None.field-0 c.in-Ok-None.is c.first_user.ensures (case_design k) free) in
    ((λ t. absurd (false≢true t)), (λ uses. sym (ap is_some c.in-Ok-None.field-0-is) ∙ told.0 uses))
