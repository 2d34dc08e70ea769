use Rattle.std.proofs.Common.{ap}
use Rattle.std.specs.Prelude.{is_some}
use Rattle.wb_values.specs.Value.{truth}
use Rattle.model_meaning.specs.Term.{eq}
use Rattle.wb_terms.specs.Graph.{tree}
use Rattle.ob_mem.proofs.Counting.{one_counted}
use Rattle.ob_mem.proofs.Growing.{one_more, last_tree, last_plain}
use Rattle.ob_mem.proofs.Choosing.{eq_words, blastable_two}
use Rattle.ob_mem.proofs.loads.put_test.Goals as goal

pub put-requires-clause-over : goal.put-requires-clause-over
put-requires-clause-over c = record { operands = (c.requires.x.below, (c.requires.y.below, tt)); names = tt }

pub put-requires-clause-sorted : goal.put-requires-clause-sorted
put-requires-clause-sorted c = ap is_some (eq_words (tree c.args.terms.now c.args.x.0) (tree c.args.terms.now c.args.y.0) 1 c.requires.x.sort c.requires.y.sort)

pub returns-clause-grows : goal.returns-clause-grows
returns-clause-grows c = one_more c.args.terms.now c.put.new.terms (eq (tree c.args.terms.now c.args.x.0) (tree c.args.terms.now c.args.y.0)) c.in_ok-id.ensures.names c.in_ok-id.ensures.trees

pub returns-clause-plain : goal.returns-clause-plain
returns-clause-plain c =
    let g = c.args.terms.now in
    last_plain g c.put.new.terms (eq (tree g c.args.x.0) (tree g c.args.y.0)) c.in_ok-id.id.0 truth c.in_ok-id.ensures.id c.in_ok-id.ensures.trees
    (eq_words (tree g c.args.x.0) (tree g c.args.y.0) 1 c.requires.x.sort c.requires.y.sort) (blastable_two (tree g c.args.x.0) (tree g c.args.y.0) c.requires.x.blastable c.requires.y.blastable)

pub returns-clause-tree : goal.returns-clause-tree
returns-clause-tree c =
    last_tree c.args.terms.now c.put.new.terms (eq (tree c.args.terms.now c.args.x.0) (tree c.args.terms.now c.args.y.0)) c.in_ok-id.id.0 c.in_ok-id.ensures.id c.in_ok-id.ensures.trees

pub returns-clause-count : goal.returns-clause-count
returns-clause-count c = one_counted c.args.terms.now c.put.new.terms _ c.in_ok-id.ensures.trees
