use Rattle.std.proofs.Common.{◌≡◌, ◌∙◌, ℕ, true, false, cond, IfOk, sym, ap, subst}
use Rattle.std.specs.Prelude.{is_none}
use Rattle.serde_json.specs.View.{view}
use Rattle.trace_files.specs.Meaning as meaning
use Rattle.v_design.specs.Seen.{parts_of}
use Rattle.obligation_lists.specs.declared.claims.Obligation.{Obligation}
use Rattle.trace_reading.specs.Fitting.{is_full}
use Rattle.trace_reading.specs.Given.{cycles_given, registers_given}
use Rattle.trace_reading.specs.Reading.{answer_view, gives, is_refused}
use Rattle.trace_reading.proofs.Within.{stated}
use Rattle.trace_reading.proofs.reading.judged_place.Goals as goal

pub returns-in-Some : goal.returns-in-Some
returns-in-Some c =
    let e = parts_of c.args.design.now in
    let d = view c.args.file.now in
    let k = c.args.place in
    let g = gives k (registers_given e d) (cycles_given e d) in
    let n = stated c.args.obligations.now k c.index-obligations-place.result c.requires c.index-obligations-place.is ∙ ap (λ (o : Obligation). o.cycles) c.index-obligations-place.is in
    let b = sym c.first_missing.ensures ∙ ap is_none c.in-Some.is in
    subst (λ x. IfOk c.refused.result (λ r. answer_view r ≡ x))
    (sym (ap (λ m. cond (is_full e m d) g (is_refused meaning.MissingValue)) n ∙ ap (λ t. cond t g (is_refused meaning.MissingValue)) b)) c.refused.ensures

pub returns-in-None : goal.returns-in-None
returns-in-None c =
    let e = parts_of c.args.design.now in
    let d = view c.args.file.now in
    let k = c.args.place in
    let g = gives k (registers_given e d) (cycles_given e d) in
    let n = stated c.args.obligations.now k c.index-obligations-place.result c.requires c.index-obligations-place.is ∙ ap (λ (o : Obligation). o.cycles) c.index-obligations-place.is in
    let b = sym c.first_missing.ensures ∙ ap is_none c.in-None.is in
    subst (λ x. IfOk c.trace_given.result (λ r. answer_view r ≡ x))
    (sym (ap (λ m. cond (is_full e m d) g (is_refused meaning.MissingValue)) n ∙ ap (λ t. cond t g (is_refused meaning.MissingValue)) b)) c.trace_given.ensures
