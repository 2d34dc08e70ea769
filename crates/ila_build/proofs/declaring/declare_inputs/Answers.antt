use Rattle.std.proofs.Common.{◌<◌, ◌≤◌, ◌+◌, ◌++◌, length, drop, map, ap, sym, ◌∙◌, subst, arith, refl}
use Rattle.ila_file.specs.View.{input_view}
use Rattle.ila_build.specs.Declaring.{input_entry}
use Rattle.ila_build.proofs.Definitions.{rest_cut_at, rest_end}
use Rattle.ila_build.proofs.Declared.{in_table, names_turn}
use Rattle.ila_build.specs.Refusing.{entry_names}
use Rattle.ila_build.proofs.Fresh.{bring_start, bring_item, sorts_item, declare_lost}
use Rattle.ila_build.specs.Leaving.{IsLeft}
use Rattle.ila_build.proofs.LeavingLemmas.{IsLeaving, leave_start, leave_item, leave_item_lost, leave_end, as_many}
use Rattle.std.proofs.lemmas.Result.{err_from_is_err_and}
use Rattle.ila_build.proofs.declaring.declare_inputs.Goals as goal

pub loop-input-init : goal.loop-input-init
loop-input-init c = (leave_start c.args.terms.now c.args.known.now (entry_names (map input_entry (map input_view c.args.inputs.now))) (length (map input_entry (map input_view c.args.inputs.now))), refl, c.requires, bring_start c.args.known.now (entry_names (map input_entry (map input_view c.args.inputs.now))), λ h. h)

pub loop-input-preserved : goal.loop-input-preserved
loop-input-preserved c =
    let xs = c.args.inputs.now in
    let i = c.loop-input.input-index in
    let h : i < length xs = omega arith in
    let cut = ap (map input_entry) (rest_cut_at input_view xs i _ h) in (
      leave_item c.args.terms.now c.loop-input.terms c.declare.new.terms c.args.known.now c.loop-input.known c.declare.new.known (map input_entry (map input_view (drop (i + 1) xs))) (map input_entry (map input_view (drop i xs))) (map input_entry (map input_view xs)) cut c.loop-input.invariant.0 c.in_ok-declare.ensures.left,
      names_turn c.loop-input.terms.names c.declare.new.terms.names _ (map input_entry (map input_view (drop (i + 1) xs))) _ c.in_ok-declare.ensures.names (ap (λ ns. c.loop-input.terms.names ++ ns) (sym cut) ∙ c.loop-input.invariant.1),
      c.in_ok-declare.ensures.table,
      bring_item c.args.known.now c.loop-input.known c.declare.new.known (map input_entry (map input_view (drop (i + 1) xs))) (map input_entry (map input_view (drop i xs))) (map input_entry (map input_view xs)) cut c.loop-input.invariant.3 c.in_ok-declare.ensures.left.besides,
      sorts_item (map input_entry (map input_view (drop (i + 1) xs))) (map input_entry (map input_view (drop i xs))) (map input_entry (map input_view xs)) cut c.loop-input.invariant.4,
    )

pub returns-in_err-declare-clause-unrefused : goal.returns-in_err-declare-clause-unrefused
returns-in_err-declare-clause-unrefused c =
    let p = err_from_is_err_and c.from_residual.result c.from_residual.ensures.1 in
    let xs = c.args.inputs.now in
    let i = c.loop-input.input-index in
    let h : i < length xs = omega arith in
    let cut = ap (map input_entry) (rest_cut_at input_view xs i _ h) in
    rw (p.1, p.2) (declare_lost c.args.known.now c.loop-input.known (map input_entry (map input_view (drop (i + 1) xs))) (map input_entry (map input_view (drop i xs))) (map input_entry (map input_view xs)) c.in_err-declare.field-0.0 cut c.loop-input.invariant.3 c.loop-input.invariant.4 c.in_err-declare.ensures.unrefused)

pub returns-in_err-declare-clause-left : goal.returns-in_err-declare-clause-left
returns-in_err-declare-clause-left c =
    let xs = c.args.inputs.now in
    let i = c.loop-input.input-index in
    let h : i < length xs = omega arith in
    let cut = ap (map input_entry) (rest_cut_at input_view xs i _ h) in
    subst (IsLeft c.args.terms.now c.args.known.now c.declare.new.terms c.declare.new.known (entry_names (map input_entry (map input_view xs)))) (as_many input_view input_entry xs)
    (leave_item_lost c.args.terms.now c.loop-input.terms c.declare.new.terms c.args.known.now c.loop-input.known c.declare.new.known (map input_entry (map input_view (drop (i + 1) xs))) (map input_entry (map input_view (drop i xs))) (map input_entry (map input_view xs)) cut c.loop-input.invariant.0 c.in_err-declare.ensures.left)

pub returns-clause-left : goal.returns-clause-left
returns-clause-left c =
    let xs = c.args.inputs.now in
    let i = c.loop-input.input-index in
    let h : length xs ≤ i = omega arith in
    let all = map input_entry (map input_view xs) in
    subst (IsLeft c.args.terms.now c.args.known.now c.loop-input.terms c.loop-input.known (entry_names all)) (as_many input_view input_entry xs)
    (leave_end c.args.terms.now c.loop-input.terms c.args.known.now c.loop-input.known (entry_names all) (length all) (in_table c.loop-input.terms c.loop-input.known c.loop-input.invariant.2)
    (subst (λ es. IsLeaving c.args.terms.now c.args.known.now c.loop-input.terms c.loop-input.known (entry_names (map input_entry es)) (length (map input_entry es)) (entry_names all) (length all)) (rest_end input_view xs i h) c.loop-input.invariant.0))
