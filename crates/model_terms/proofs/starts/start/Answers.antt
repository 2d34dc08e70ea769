use Rattle.std.proofs.Common.{◌≡◌, ◌∙◌, ◌+◌, ◌<◌, ◌≤◌, ◌++◌, ◌∷◌, [], List, length, refl, sym, ap, subst, arith}
use Rattle.wb_terms.specs.declared.nodes.TermId.{TermId}
use Rattle.wb_terms.specs.Sort.{as_sort}
use Rattle.ila_model.specs.Scope.{tops}
use Rattle.ila_model.proofs.Declarations.{sorted}
use Rattle.term_copies.specs.Copies.{AreLeaves}
use Rattle.term_copies.proofs.Extending.{extended_trans}
use Rattle.model_terms.proofs.Starting.{IsStarting, starting_start, starting_more, starting_end, private_plain, tops_before}
use Rattle.model_terms.proofs.starts.start.Goals as goal

pub loop-place-init : goal.loop-place-init
loop-place-init c =
    let p = c.args.model.now.parts in
    let s = sorted p c.args.model.now.well_sorted in
    let ids = c.extend_from_slice.new.self.items in
    let made = c.in_ok-extend_from_slice.ensures.items ∙ ap (λ (r : List TermId). r ++ c.args.inputs.now) c.in_ok-point.ensures.items in
    let same : length ids ≡ c.len-place.result = omega (arith, c.len-place.ensures) in
    subst (λ n. IsStarting c.args.terms.now c.args.terms.now p.terms.names (c.args.states.now ++ c.args.inputs.now) ids n) same
    (starting_start c.args.terms.now p.terms.names (length p.initial_values.items) p.inputs c.args.states.now c.args.inputs.now ids s.declared.within c.requires.states c.requires.inputs made)

pub put_zero-requires-clause-plain : goal.put_zero-requires-clause-plain
put_zero-requires-clause-plain c =
    let p = c.args.model.now.parts in
    let s = sorted p c.args.model.now.well_sorted in
    let within : c.loop-place.place < length p.terms.names = omega (arith, c.loop-place-test.true, c.name_count-place-end.ensures.names) in
    let made = c.in_ok-extend_from_slice.ensures.items ∙ ap (λ (r : List TermId). r ++ c.args.inputs.now) c.in_ok-point.ensures.items in
    private_plain p s (tops p) c.loop-place.place (as_sort c.name_sort-sort.result) (omega arith)
    (tops_before c.args.terms.now p s c.args.states.now c.args.inputs.now c.extend_from_slice.new.self.items c.loop-place.place c.requires.states c.requires.inputs made (omega (arith, c.len-place.ensures, c.loop-place.auto.place)))
    within c.name_sort-sort.ensures.sort

pub returns-in_err-id-clause-extended : goal.returns-in_err-id-clause-extended
returns-in_err-id-clause-extended c = extended_trans c.loop-place.invariant.extended c.put_zero.ensures.extended

pub returns-in_err-push-clause-extended : goal.returns-in_err-push-clause-extended
returns-in_err-push-clause-extended c = extended_trans c.loop-place.invariant.extended c.put_zero.ensures.extended

pub loop-place-preserved : goal.loop-place-preserved
loop-place-preserved c =
    let p = c.args.model.now.parts in
    let within : c.loop-place.place < length p.terms.names = omega (arith, c.loop-place-test.true, c.name_count-place-end.ensures.names) in
    subst (λ (ids : List TermId). IsStarting c.args.terms.now c.put_zero.new.terms p.terms.names (c.args.states.now ++ c.args.inputs.now) ids (c.loop-place.place + 1)) (sym c.in_ok-push.ensures.items)
    (starting_more c.args.terms.now c.loop-place.terms c.put_zero.new.terms p.terms.names (c.args.states.now ++ c.args.inputs.now) c.loop-place.point.items c.loop-place.place (as_sort c.name_sort-sort.result) c.in_ok-id.id within
    c.name_sort-sort.ensures.sort c.in_ok-id.ensures.extended c.in_ok-id.ensures.below c.in_ok-id.ensures.sort c.loop-place.invariant)

pub returns-clause-leaves : goal.returns-clause-leaves
returns-clause-leaves c =
    starting_end c.args.terms.now c.loop-place.terms c.args.model.now.parts.terms.names (c.args.states.now ++ c.args.inputs.now) c.loop-place.point.items c.loop-place.place (omega (arith, c.loop-place-test.false, c.name_count-place-end.ensures.names)) c.loop-place.invariant

pub returns-clause-first : goal.returns-clause-first
returns-clause-first c = (c.loop-place.invariant.more, c.loop-place.invariant.is)
