use Rattle.std.proofs.Common.{◌≡◌, ◌∙◌, ◌+◌, ◌-◌, ◌&&◌, map, length, get_or, take, drop, sym, ap, arith}
use Rattle.std.proofs.lemmas.Bool.{and_left}
use Rattle.std.proofs.lemmas.List.{length-take, length-drop, length-map}
use Rattle.wb_values.specs.Value.{is_of_sort}
use Rattle.wb_terms.specs.Sort.{as_sort}
use Rattle.wb_terms.specs.declared.values.Value.{Value}
use Rattle.wb_terms.specs.Environment.{as_value}
use Rattle.ila_model.specs.Sorted.{sort_at}
use Rattle.ila_child.specs.Values.{are_of_sorts}
use Rattle.ila_child.proofs.Checked.{of_sorts-count, of_sorts-turn}
use Rattle.ila_child.proofs.values.are_of_sorts.Goals as goal

pub returns-then-values-count : goal.returns-then-values-count
returns-then-values-count c =
    let ns = c.args.terms.now.names in
    let vs = c.args.values.now in
    sym (of_sorts-count (take c.args.count (drop c.args.first ns)) (map as_value vs)
    (λ e. c.if-values-count.true (omega (arith, e, length-map vs as_value, length-take c.args.count (drop c.args.first ns), length-drop c.args.first ns))))

pub returns-then-not-is_of_sort : goal.returns-then-not-is_of_sort
returns-then-not-is_of_sort c =
    let ns = c.args.terms.now.names in
    let vs = c.args.values.now in
    let k = c.loop-k.k in
    let first = c.args.first in
    let d = c.index-values-k.result in
    let at = ap (λ s. is_of_sort s (as_value (get_or vs k d))) (sym c.name_sort.ensures.sort)
    ∙ ap (λ (v : Value). is_of_sort (as_sort c.name_sort.result) (as_value v)) (sym c.index-values-k.is)
    ∙ sym c.is_of_sort.ensures ∙ c.if-not-is_of_sort.true in
    sym (c.loop-k.invariant ∙ of_sorts-turn ns vs first c.args.count k d c.loop-k-test.true (omega arith) (omega arith) ∙ and_left _ _ at)

pub loop-k-preserved : goal.loop-k-preserved
loop-k-preserved c =
    let ns = c.args.terms.now.names in
    let vs = c.args.values.now in
    let k = c.loop-k.k in
    let first = c.args.first in
    let d = c.index-values-k.result in
    let at = ap (λ s. is_of_sort s (as_value (get_or vs k d))) (sym c.name_sort.ensures.sort)
    ∙ ap (λ (v : Value). is_of_sort (as_sort c.name_sort.result) (as_value v)) (sym c.index-values-k.is)
    ∙ sym c.is_of_sort.ensures ∙ c.if-not-is_of_sort.false in
    c.loop-k.invariant ∙ of_sorts-turn ns vs first c.args.count k d c.loop-k-test.true (omega arith) (omega arith)
    ∙ ap (λ b. b && are_of_sorts (take (c.args.count - (k + 1)) (drop (first + (k + 1)) ns)) (map as_value (drop (k + 1) vs))) at
