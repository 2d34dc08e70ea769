use Rattle.std.proofs.Common.{◌∙◌, ◌++◌, List, length, take, drop, refl, sym, ap, subst, arith}
use Rattle.std.proofs.lemmas.List.{length-append, take_at}
use Rattle.wb_values.specs.Value as meaning
use Rattle.wb_terms.specs.Environment.{AreOfSorts}
use Rattle.term_evaluation.specs.Links.{valuation_at}
use Rattle.ila_child.specs.Updating.{values_of_updates, with_kept}
use Rattle.ila_child.proofs.Updates.{with_kept-after, with_updates-sorted, length-values_of_updates}
use Rattle.ila_child.proofs.updating.update.Goals as goal

pub put_updates-requires-clause-kept : goal.put_updates-requires-clause-kept
put_updates-requires-clause-kept c =
    let g = c.args.terms.now in
    let us = c.args.updates.now in
    let x = c.args.point.now in
    let vs = values_of_updates g (valuation_at g x.values) us in
    omega (arith, ap (λ (ys : List meaning.Value). length ys) c.in_ok-keep_updates.ensures.aside, length-append x.aside vs, length-values_of_updates g (valuation_at g x.values) us, c.kept-first.ensures)

pub put_updates-requires-clause-fits : goal.put_updates-requires-clause-fits
put_updates-requires-clause-fits c = subst (AreOfSorts c.args.terms.now.names) (sym c.keep_updates.ensures.values) c.requires.fits

pub returns-clause-values : goal.returns-clause-values
returns-clause-values c =
    let g = c.args.terms.now in
    let us = c.args.updates.now in
    let x = c.args.point.now in
    let n = c.kept-first.result in
    let kept = x.aside ++ values_of_updates g (valuation_at g x.values) us in
    c.forget.ensures.values
    ∙ c.put_updates.ensures.values
    ∙ ap (λ (vs : List meaning.Value). with_kept us (drop n vs) c.keep_updates.new.point.values) c.in_ok-keep_updates.ensures.aside
    ∙ ap (λ (xs : List meaning.Value). with_kept us (drop n kept) xs) c.keep_updates.ensures.values
    ∙ with_kept-after g (valuation_at g x.values) us x.aside kept x.values n c.kept-first.ensures refl

pub returns-clause-aside : goal.returns-clause-aside
returns-clause-aside c =
    let g = c.args.terms.now in
    let x = c.args.point.now in
    let n = c.kept-first.result in
    c.forget.ensures.aside
    ∙ ap (take n) c.put_updates.ensures.aside
    ∙ ap (take n) c.in_ok-keep_updates.ensures.aside
    ∙ take_at x.aside (values_of_updates g (valuation_at g x.values) c.args.updates.now) n (omega (arith, c.kept-first.ensures))

pub returns-clause-fits : goal.returns-clause-fits
returns-clause-fits c =
    let g = c.args.terms.now in
    let us = c.args.updates.now in
    let x = c.args.point.now in
    subst (AreOfSorts g.names) (sym (returns-clause-values c)) (with_updates-sorted g (valuation_at g x.values) us x.values c.in_ok-keep_updates.ensures.sorted c.requires.fits)

pub returns-clause-point : goal.returns-clause-point
returns-clause-point c =
    let g = c.args.terms.now in
    c.forget.ensures.point g (c.put_updates.ensures.point g c.keep_updates.ensures.point)
