use Rattle.std.proofs.Common.{◌≡◌, ◌∙◌, ◌<◌, List, [], ◌∷◌, ◌++◌, map, length, get_or, take, sym, ap, subst, arith}
use Rattle.std.proofs.lemmas.List.{length-map, length-take, get_or-map, get_or-take, take_more, take_all}
use Rattle.wb_values.specs.Value as meaning
use Rattle.wb_values.specs.Value.{HasSort, number, truth, Name, Sort}
use Rattle.wb_terms.specs.Environment.{as_value}
use Rattle.ila_model.specs.Sorted.{sort_at}
use Rattle.ila_child.proofs.Updates.{AreOfSorts-length, AreOfSorts-at}
use Rattle.ila_child.proofs.states.shared_values.Goals as goal

pub name_sort-requires : goal.name_sort-requires
name_sort-requires c =
    let ns = c.args.terms.now.names in
    let vs = c.args.values.now in
    omega (arith, c.loop-k-test.true, length-map vs as_value, AreOfSorts-length (take (length vs) ns) (map as_value vs) c.requires, length-take (length vs) ns)

pub push-requires-clause-sort : goal.push-requires-clause-sort
push-requires-clause-sort c =
    let ns = c.args.terms.now.names in
    let vs = c.args.values.now in
    let k = c.loop-k.k in
    let r = c.index-values-k.result in
    let low : k < length (take (length vs) ns) = omega (arith, c.loop-k-test.true, length-map vs as_value, AreOfSorts-length (take (length vs) ns) (map as_value vs) c.requires) in
    let there = AreOfSorts-at (take (length vs) ns) (map as_value vs) k c.requires low in
    let at : HasSort (get_or (map as_value vs) k (number 0)) (sort_at ns k) = subst (λ (e : Name × Sort). HasSort (get_or (map as_value vs) k (number 0)) e.1) (get_or-take (length vs) ns k ([], truth) c.loop-k-test.true) there in
    let same : get_or (map as_value vs) k (number 0) ≡ as_value r = get_or-map as_value vs k r (number 0) c.loop-k-test.true ∙ ap as_value (sym c.index-values-k.is) in
    subst (λ s. HasSort (as_value r) s) (sym c.name_sort.ensures.sort) (subst (λ v. HasSort v (sort_at ns k)) same at)

pub loop-k-preserved : goal.loop-k-preserved
loop-k-preserved c =
    let vs = c.args.values.now in
    let k = c.loop-k.k in
    let r = c.index-values-k.result in
    let all = map as_value vs in
    let low : k < length all = omega (arith, c.loop-k-test.true, length-map vs as_value) in
    let same : get_or all k (number 0) ≡ as_value r = get_or-map as_value vs k r (number 0) c.loop-k-test.true ∙ ap as_value (sym c.index-values-k.is) in
    c.in_ok-push.ensures.ok
    ∙ ap (λ (xs : List meaning.Value). xs ++ as_value r ∷ []) c.loop-k.invariant
    ∙ ap (λ (x : meaning.Value). take k all ++ x ∷ []) (sym same)
    ∙ sym (take_more all k (number 0) low)

pub returns : goal.returns
returns c =
    let vs = c.args.values.now in
    c.loop-k.invariant ∙ take_all c.loop-k.k (map as_value vs) (omega (arith, c.loop-k-test.false, length-map vs as_value))
