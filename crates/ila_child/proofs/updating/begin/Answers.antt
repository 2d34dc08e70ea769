use Rattle.std.proofs.Common.{◌≡◌, ◌+◌, ◌∙◌, set, drop, get_or, sym, ap, subst, arith}
use Rattle.wb_values.specs.Value.{HasSort}
use Rattle.wb_terms.specs.Environment.{as_value, AreOfSorts}
use Rattle.ila_model.specs.Sorted.{sort_at}
use Rattle.ila_child.specs.Values.{beginning}
use Rattle.ila_child.specs.Updating.{with_initial}
use Rattle.ila_child.proofs.Initial.{private_has_sort, private-at}
use Rattle.ila_child.proofs.Updates.{with_initial-turn, AreOfSorts-length, AreOfSorts-set}
use Rattle.ila_child.proofs.updating.begin.Goals as goal

pub set-requires-clause-place : goal.set-requires-clause-place
set-requires-clause-place c =
    let ns = c.args.terms.now.names in
    omega (arith, AreOfSorts-length ns c.loop-k.point.values c.loop-k.invariant.fits)

pub set-requires-clause-sort : goal.set-requires-clause-sort
set-requires-clause-sort c =
    let ns = c.args.terms.now.names in
    let is = c.args.initial_values.now in
    let k = c.loop-k.k in
    let first = c.args.first in
    let d = c.index-initial_values-k.result in
    let same : as_value c.in_ok-value.value ≡ beginning (sort_at ns (first + k)) (get_or is k d) =
    c.in_ok-value.ensures ∙ ap (λ s. beginning s d) c.name_sort-sort.ensures.sort ∙ ap (beginning (sort_at ns (first + k))) c.index-initial_values-k.is in
    let sorted = private_has_sort (sort_at ns (first + k)) (get_or is k d) (private-at ns is first k d c.requires.states c.loop-k-test.true (omega arith)) in
    subst (λ s. HasSort (as_value c.in_ok-value.value) s) (sym c.name_sort-sort.ensures.sort) (subst (λ v. HasSort v (sort_at ns (first + k))) (sym same) sorted)

pub loop-k-preserved : goal.loop-k-preserved
loop-k-preserved c =
    let ns = c.args.terms.now.names in
    let is = c.args.initial_values.now in
    let k = c.loop-k.k in
    let first = c.args.first in
    let d = c.index-initial_values-k.result in
    let xs = c.loop-k.point.values in
    let v = c.in_ok-value.value in
    let same : as_value v ≡ beginning (sort_at ns (first + k)) (get_or is k d) =
    c.in_ok-value.ensures ∙ ap (λ s. beginning s d) c.name_sort-sort.ensures.sort ∙ ap (beginning (sort_at ns (first + k))) c.index-initial_values-k.is in
    let made = c.in_ok-set.ensures.values ∙ ap (set xs (first + k)) same in
    let sorted = private_has_sort (sort_at ns (first + k)) (get_or is k d) (private-at ns is first k d c.requires.states c.loop-k-test.true (omega arith)) in
    record {
      values =
          ap (with_initial ns (first + (k + 1)) (drop (k + 1) is)) made
          ∙ with_initial-turn ns first is k d xs c.loop-k-test.true
          ∙ c.loop-k.invariant.values;
      fits = subst (AreOfSorts ns) (sym made) (AreOfSorts-set ns xs (first + k) (beginning (sort_at ns (first + k)) (get_or is k d)) c.loop-k.invariant.fits sorted);
      aside = c.set.ensures.aside ∙ c.loop-k.invariant.aside;
      point = c.set.ensures.point c.args.terms.now c.loop-k.invariant.point;
    }
