use Rattle.std.proofs.Common.{◌<◌, ◌≤◌, ◌+◌, ◌++◌, length, drop, map, ap, sym, ◌∙◌, subst, arith, refl}
use Rattle.ila_file.specs.View.{state_view}
use Rattle.ila_build.specs.Declaring.{state_entry}
use Rattle.ila_build.proofs.Definitions.{rest_cut_at, rest_end}
use Rattle.ila_build.proofs.Declared.{in_table, names_turn}
use Rattle.ila_build.specs.Refusing.{entry_names}
use Rattle.ila_build.proofs.Fresh.{bring_start, bring_item, sorts_item, declare_lost}
use Rattle.ila_build.specs.Leaving.{IsLeft}
use Rattle.ila_build.proofs.LeavingLemmas.{IsLeaving, leave_start, leave_item, leave_item_lost, leave_end, as_many}
use Rattle.std.proofs.lemmas.Result.{err_from_is_err_and}
use Rattle.ila_build.proofs.declaring.declare_states.Goals as goal

pub loop-state-init : goal.loop-state-init
loop-state-init c = (leave_start c.args.terms.now c.args.known.now (entry_names (map state_entry (map state_view c.args.states.now))) (length (map state_entry (map state_view c.args.states.now))), refl, c.requires, bring_start c.args.known.now (entry_names (map state_entry (map state_view c.args.states.now))), λ h. h)

pub loop-state-preserved : goal.loop-state-preserved
loop-state-preserved c =
    let xs = c.args.states.now in
    let i = c.loop-state.state-index in
    let h : i < length xs = omega arith in
    let cut = ap (map state_entry) (rest_cut_at state_view xs i _ h) in (
      leave_item c.args.terms.now c.loop-state.terms c.declare.new.terms c.args.known.now c.loop-state.known c.declare.new.known (map state_entry (map state_view (drop (i + 1) xs))) (map state_entry (map state_view (drop i xs))) (map state_entry (map state_view xs)) cut c.loop-state.invariant.0 c.in_ok-declare.ensures.left,
      names_turn c.loop-state.terms.names c.declare.new.terms.names _ (map state_entry (map state_view (drop (i + 1) xs))) _ c.in_ok-declare.ensures.names (ap (λ ns. c.loop-state.terms.names ++ ns) (sym cut) ∙ c.loop-state.invariant.1),
      c.in_ok-declare.ensures.table,
      bring_item c.args.known.now c.loop-state.known c.declare.new.known (map state_entry (map state_view (drop (i + 1) xs))) (map state_entry (map state_view (drop i xs))) (map state_entry (map state_view xs)) cut c.loop-state.invariant.3 c.in_ok-declare.ensures.left.besides,
      sorts_item (map state_entry (map state_view (drop (i + 1) xs))) (map state_entry (map state_view (drop i xs))) (map state_entry (map state_view xs)) cut c.loop-state.invariant.4,
    )

pub returns-in_err-declare-clause-unrefused : goal.returns-in_err-declare-clause-unrefused
returns-in_err-declare-clause-unrefused c =
    let p = err_from_is_err_and c.from_residual.result c.from_residual.ensures.1 in
    let xs = c.args.states.now in
    let i = c.loop-state.state-index in
    let h : i < length xs = omega arith in
    let cut = ap (map state_entry) (rest_cut_at state_view xs i _ h) in
    rw (p.1, p.2) (declare_lost c.args.known.now c.loop-state.known (map state_entry (map state_view (drop (i + 1) xs))) (map state_entry (map state_view (drop i xs))) (map state_entry (map state_view xs)) c.in_err-declare.field-0.0 cut c.loop-state.invariant.3 c.loop-state.invariant.4 c.in_err-declare.ensures.unrefused)

pub returns-in_err-declare-clause-left : goal.returns-in_err-declare-clause-left
returns-in_err-declare-clause-left c =
    let xs = c.args.states.now in
    let i = c.loop-state.state-index in
    let h : i < length xs = omega arith in
    let cut = ap (map state_entry) (rest_cut_at state_view xs i _ h) in
    subst (IsLeft c.args.terms.now c.args.known.now c.declare.new.terms c.declare.new.known (entry_names (map state_entry (map state_view xs)))) (as_many state_view state_entry xs)
    (leave_item_lost c.args.terms.now c.loop-state.terms c.declare.new.terms c.args.known.now c.loop-state.known c.declare.new.known (map state_entry (map state_view (drop (i + 1) xs))) (map state_entry (map state_view (drop i xs))) (map state_entry (map state_view xs)) cut c.loop-state.invariant.0 c.in_err-declare.ensures.left)

pub returns-clause-left : goal.returns-clause-left
returns-clause-left c =
    let xs = c.args.states.now in
    let i = c.loop-state.state-index in
    let h : length xs ≤ i = omega arith in
    let all = map state_entry (map state_view xs) in
    subst (IsLeft c.args.terms.now c.args.known.now c.loop-state.terms c.loop-state.known (entry_names all)) (as_many state_view state_entry xs)
    (leave_end c.args.terms.now c.loop-state.terms c.args.known.now c.loop-state.known (entry_names all) (length all) (in_table c.loop-state.terms c.loop-state.known c.loop-state.invariant.2)
    (subst (λ es. IsLeaving c.args.terms.now c.args.known.now c.loop-state.terms c.loop-state.known (entry_names (map state_entry es)) (length (map state_entry es)) (entry_names all) (length all)) (rest_end state_view xs i h) c.loop-state.invariant.0))
