use Rattle.std.proofs.Common.{◌∙◌, ◌++◌, [], ◌∷◌, List, get_or, take, refl, sym, ap, subst, arith}
use Rattle.std.proofs.lemmas.List.{get_or_default, take_more, take_all}
use Rattle.wb_values.specs.Value as meaning
use Rattle.model_meaning.specs.Term.{sort_of}
use Rattle.wb_terms.specs.Graph.{tree}
use Rattle.wb_terms.specs.Environment.{HasSortOf, AreOfSorts}
use Rattle.term_evaluation.specs.Links.{valuation_at, value_at}
use Rattle.ila_model.specs.declared.parts.Update.{Update}
use Rattle.ila_model.specs.Sorted.{sort_at}
use Rattle.ila_child.specs.Updating.{values_of_updates, AreUpdatesSorted}
use Rattle.ila_child.proofs.Updates.{no_update, update_now, values_kept, updates_sorted-push, HasSort-from, kept_none}
use Rattle.ila_child.proofs.updating.keep_updates.Goals as goal

pub loop-k-init : goal.loop-k-init
loop-k-init c = record { aside = kept_none c.args.point.now.aside; values = refl; sorted = tt; point = c.requires.point }

pub keep-requires-clause-id : goal.keep-requires-clause-id
keep-requires-clause-id c = (update_now c.args.terms.now c.args.updates.now c.loop-k.k no_update c.requires.updates c.loop-k-test.true).term

pub keep-requires-clause-fits : goal.keep-requires-clause-fits
keep-requires-clause-fits c = subst (AreOfSorts c.args.terms.now.names) (sym c.loop-k.invariant.values) c.requires.fits

pub loop-k-preserved : goal.loop-k-preserved
loop-k-preserved c =
    let g = c.args.terms.now in
    let us = c.args.updates.now in
    let k = c.loop-k.k in
    let x = c.args.point.now in
    let y = c.loop-k.point in
    let p = valuation_at g x.values in
    let u = get_or us k no_update in
    let f = update_now g us k no_update c.requires.updates c.loop-k-test.true in
    let sorted = subst (λ (vs : List meaning.Value). HasSortOf (value_at g vs u.term.0) (sort_of (tree g u.term.0))) c.loop-k.invariant.values c.in_ok-keep.ensures.sorted in
    record {
      aside = c.in_ok-keep.ensures.aside
          ∙ ap (λ (vs : List meaning.Value). y.aside ++ value_at g vs u.term.0 ∷ []) c.loop-k.invariant.values
          ∙ values_kept g p us x.aside y.aside k u (value_at g x.values u.term.0) c.loop-k-test.true (get_or_default us k no_update u c.loop-k-test.true) refl c.loop-k.invariant.aside;
      values = c.keep.ensures.values ∙ c.loop-k.invariant.values;
      sorted = subst (AreUpdatesSorted g p) (sym (take_more us k no_update c.loop-k-test.true))
          (updates_sorted-push g p (take k us) u c.loop-k.invariant.sorted (HasSort-from (sort_of (tree g u.term.0)) (sort_at g.names u.state.0) (value_at g x.values u.term.0) f.sort sorted));
      point = c.keep.ensures.point;
    }

pub returns-clause-aside : goal.returns-clause-aside
returns-clause-aside c =
    let g = c.args.terms.now in
    let us = c.args.updates.now in
    let x = c.args.point.now in
    c.loop-k.invariant.aside ∙ ap (λ (vs : List Update). x.aside ++ values_of_updates g (valuation_at g x.values) vs) (take_all c.loop-k.k us (omega (arith, c.loop-k-test.false)))

pub returns-clause-sorted : goal.returns-clause-sorted
returns-clause-sorted c =
    let g = c.args.terms.now in
    subst (AreUpdatesSorted g (valuation_at g c.args.point.now.values)) (take_all c.loop-k.k c.args.updates.now (omega (arith, c.loop-k-test.false))) c.loop-k.invariant.sorted
