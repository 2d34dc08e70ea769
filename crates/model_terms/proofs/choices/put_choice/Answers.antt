use Rattle.std.proofs.Common.{◌≡◌, ◌∙◌, ◌<◌, length, refl, sym, ap, subst}
use Rattle.wb_values.specs.Value.{as_truth, truth}
use Rattle.model_meaning.specs.Term.{sort_of, val}
use Rattle.wb_terms.specs.Graph.{tree}
use Rattle.wb_terms.specs.declared.nodes.Node.TheVariants.{Ite}
use Rattle.term_copies.proofs.Extending.{extended_by, extended_same, extended_refl, last_below}
use Rattle.model_terms.specs.Symbolic.{is_true}
use Rattle.model_terms.proofs.Choosing.{put_value, put_sort, ite_same, same_both, some_sort}
use Rattle.model_terms.proofs.choices.put_choice.Goals as goal

pub returns-then-x-y-clause-value : goal.returns-then-x-y-clause-value
returns-then-x-y-clause-value c v =
    let g = c.args.terms.now in
    same_both (is_true g c.args.condition.0 v) (val (tree g c.args.x.0) v) (val (tree g c.args.y.0) v) (ap (λ k. val (tree g k) v) (sym c.if-x-y.true))

pub returns-clause-sort : goal.returns-clause-sort
returns-clause-sort c =
    let g = c.args.terms.now in
    put_sort g c.put.new.terms (Ite c.args.condition c.args.x c.args.y) c.in_ok-id.id.0 c.in_ok-id.ensures.id c.in_ok-id.ensures.ok
    ∙ ite_same (sort_of (tree g c.args.condition.0)) (sort_of (tree g c.args.x.0)) (sort_of (tree g c.args.y.0)) c.requires.condition.sort c.requires.sorted c.requires.same

pub returns-clause-value : goal.returns-clause-value
returns-clause-value c v = put_value c.args.terms.now c.put.new.terms (Ite c.args.condition c.args.x c.args.y) c.in_ok-id.id.0 v c.in_ok-id.ensures.id c.in_ok-id.ensures.ok

pub put-requires-clause-over : goal.put-requires-clause-over
put-requires-clause-over c = record { operands = (c.requires.condition.below, (c.requires.first, (c.requires.second, tt))); names = tt }

pub put-requires-clause-sorted : goal.put-requires-clause-sorted
put-requires-clause-sorted c =
    let g = c.args.terms.now in
    some_sort _ (sort_of (tree g c.args.x.0)) (ite_same (sort_of (tree g c.args.condition.0)) (sort_of (tree g c.args.x.0)) (sort_of (tree g c.args.y.0)) c.requires.condition.sort c.requires.sorted c.requires.same) c.requires.sorted
