use Rattle.std.proofs.Common.{◌≡◌, ◌∙◌, refl, sym, ap}
use Rattle.wb_values.specs.Value.{as_truth, truth, truth_value}
use Rattle.model_meaning.specs.Term.{sort_of, val}
use Rattle.wb_terms.specs.Graph.{tree}
use Rattle.wb_terms.specs.declared.nodes.Node.TheVariants.{And}
use Rattle.term_copies.proofs.Extending.{extended_by, extended_same}
use Rattle.model_terms.proofs.Choosing.{test_put, put_value, both_sort, both_value, is_some_of}
use Rattle.model_terms.proofs.choices.put_both.Goals as goal

pub put-requires-clause-over : goal.put-requires-clause-over
put-requires-clause-over c = record { operands = (c.requires.test.below, (c.requires.condition.below, tt)); names = tt }

pub put-requires-clause-sorted : goal.put-requires-clause-sorted
put-requires-clause-sorted c =
    let g = c.args.terms.now in
    is_some_of _ truth (both_sort (sort_of (tree g c.args.x.0)) (sort_of (tree g c.args.y.0)) c.requires.test.sort c.requires.condition.sort)

pub returns-clause-test : goal.returns-clause-test
returns-clause-test c =
    let g = c.args.terms.now in
    test_put g c.put.new.terms (And c.args.x c.args.y) c.in_ok-id.id.0 c.in_ok-id.ensures.id c.in_ok-id.ensures.ok
    (both_sort (sort_of (tree g c.args.x.0)) (sort_of (tree g c.args.y.0)) c.requires.test.sort c.requires.condition.sort)
    (λ v. let e = both_value (val (tree g c.args.x.0) v) (val (tree g c.args.y.0) v) (c.requires.test.value v) in e ∙ ap (λ z. truth_value (as_truth z)) (sym e))

pub returns-clause-value : goal.returns-clause-value
returns-clause-value c v =
    let g = c.args.terms.now in
    ap as_truth (put_value g c.put.new.terms (And c.args.x c.args.y) c.in_ok-id.id.0 v c.in_ok-id.ensures.id c.in_ok-id.ensures.ok
    ∙ both_value (val (tree g c.args.x.0) v) (val (tree g c.args.y.0) v) (c.requires.test.value v))
