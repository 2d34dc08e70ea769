use Rattle.std.proofs.Common.{◌≡◌, ◌∙◌, ◌+◌, ◌<◌, ◌≤◌, length, map, get_or, set, drop, refl, sym, ap, subst, arith}
use Rattle.std.proofs.lemmas.List.{length-map, get_or-map}
use Rattle.wb_values.specs.Value.{HasSort, number}
use Rattle.wb_terms.specs.Environment.{AreOfSorts, as_value}
use Rattle.ila_model.specs.Sorted.{sort_at}
use Rattle.ila_model.proofs.Declarations.{sorted}
use Rattle.ila_child.specs.Runs.{with_values}
use Rattle.ila_child.proofs.Updates.{AreOfSorts-length, AreOfSorts-set}
use Rattle.ila_child.proofs.Starts.{inputs_table}
use Rattle.ila_child.proofs.Movement.{AreOfSorts-short, input_sort, values_left, with_values-turn}
use Rattle.ila_child.proofs.runs.set_inputs.Goals as goal

pub loop-k-init : goal.loop-k-init
loop-k-init c = record {
  values = ap (λ j. with_values j (map as_value c.args.values.now) c.args.point.now.values) (omega arith);
  fits = c.requires.fits;
  aside = refl;
  point = c.requires.point;
}

pub name_sort-requires : goal.name_sort-requires
name_sort-requires c =
    let p = c.args.model.now.parts in
    let ns = p.terms.names in
    let within = (sorted p c.args.model.now.well_sorted).declared.within in
    let n = length p.initial_values.items in
    let w = map as_value c.args.values.now in
    let inputs = subst (λ t. AreOfSorts t w) (inputs_table p.inputs (drop n ns)) c.requires.inputs in
    let many : length w ≤ p.inputs = AreOfSorts-short ns n p.inputs w inputs in
    omega (arith, c.loop-k-test.true, many, length-map c.args.values.now as_value, within, c.state_count-first.ensures.place)

pub set-requires-clause-place : goal.set-requires-clause-place
set-requires-clause-place c =
    let p = c.args.model.now.parts in
    let ns = p.terms.names in
    let within = (sorted p c.args.model.now.well_sorted).declared.within in
    let n = length p.initial_values.items in
    let w = map as_value c.args.values.now in
    let inputs = subst (λ t. AreOfSorts t w) (inputs_table p.inputs (drop n ns)) c.requires.inputs in
    let many : length w ≤ p.inputs = AreOfSorts-short ns n p.inputs w inputs in
    omega (arith, c.loop-k-test.true, many, length-map c.args.values.now as_value, within, AreOfSorts-length ns c.loop-k.point.values c.loop-k.invariant.fits, c.state_count-first.ensures.place)

pub set-requires-clause-sort : goal.set-requires-clause-sort
set-requires-clause-sort c =
    let p = c.args.model.now.parts in
    let ns = p.terms.names in
    let n = length p.initial_values.items in
    let k = c.loop-k.k in
    let vs = c.args.values.now in
    let w = map as_value vs in
    let r = c.index-values-k.result in
    let inputs = subst (λ t. AreOfSorts t w) (inputs_table p.inputs (drop n ns)) c.requires.inputs in
    let same : get_or w k (number 0) ≡ as_value r = get_or-map as_value vs k r (number 0) c.loop-k-test.true ∙ ap as_value (sym c.index-values-k.is) in
    let there = input_sort ns n p.inputs w k inputs (omega (arith, c.loop-k-test.true, length-map vs as_value)) in
    subst (λ s. HasSort (as_value r) s) (sym c.name_sort.ensures.sort)
    (subst (λ j. HasSort (as_value r) (sort_at ns (j + k))) (sym c.state_count-first.ensures.place) (subst (λ v. HasSort v (sort_at ns (n + k))) same there))

pub loop-k-preserved : goal.loop-k-preserved
loop-k-preserved c =
    let p = c.args.model.now.parts in
    let ns = p.terms.names in
    let n = length p.initial_values.items in
    let k = c.loop-k.k in
    let first = c.state_count-first.result in
    let vs = c.args.values.now in
    let w = map as_value vs in
    let xs = c.loop-k.point.values in
    let r = c.index-values-k.result in
    let low : k < length w = omega (arith, c.loop-k-test.true, length-map vs as_value) in
    let inputs = subst (λ t. AreOfSorts t w) (inputs_table p.inputs (drop n ns)) c.requires.inputs in
    let same : as_value r ≡ get_or w k (number 0) = sym (get_or-map as_value vs k r (number 0) c.loop-k-test.true ∙ ap as_value (sym c.index-values-k.is)) in
    let there = subst (λ j. HasSort (get_or w k (number 0)) (sort_at ns (j + k))) (sym c.state_count-first.ensures.place) (input_sort ns n p.inputs w k inputs low) in
    let made = c.in_ok-set.ensures.values ∙ ap (set xs (first + k)) same in
    record {
      values = ap (with_values (first + (k + 1)) (drop (k + 1) w)) made ∙ with_values-turn first k w xs (number 0) low ∙ c.loop-k.invariant.values;
      fits = subst (AreOfSorts ns) (sym made) (AreOfSorts-set ns xs (first + k) (get_or w k (number 0)) c.loop-k.invariant.fits there);
      aside = c.set.ensures.aside ∙ c.loop-k.invariant.aside;
      point = c.set.ensures.point p.terms c.loop-k.invariant.point;
    }

pub returns-clause-values : goal.returns-clause-values
returns-clause-values c =
    let w = map as_value c.args.values.now in
    values_left (c.state_count-first.result + c.loop-k.k) c.loop-k.k w c.loop-k.point.values (omega (arith, c.loop-k-test.false, length-map c.args.values.now as_value))
    ∙ c.loop-k.invariant.values ∙ ap (λ j. with_values j w c.args.point.now.values) c.state_count-first.ensures.place
