use Rattle.std.proofs.Common.{ap}
use Rattle.std.specs.Prelude.{is_some}
use Rattle.wb_values.specs.Value.{word}
use Rattle.model_meaning.specs.Term.{extract}
use Rattle.wb_terms.specs.Graph.{tree}
use Rattle.ob_mem.proofs.Counting.{one_counted}
use Rattle.ob_mem.proofs.Growing.{one_more, last_tree, last_plain}
use Rattle.ob_mem.proofs.Choosing.{extract_word}
use Rattle.ob_mem.proofs.loads.put_part.Goals as goal

pub put-requires-clause-over : goal.put-requires-clause-over
put-requires-clause-over c = record { operands = (c.requires.1.below, tt); names = tt }

pub put-requires-clause-sorted : goal.put-requires-clause-sorted
put-requires-clause-sorted c = ap is_some (extract_word (tree c.args.terms.now c.args.address.0) c.args.bit c.requires.0 c.requires.2 c.requires.1.sort)

pub returns-clause-grows : goal.returns-clause-grows
returns-clause-grows c = one_more c.args.terms.now c.put.new.terms (extract c.args.bit c.args.bit (tree c.args.terms.now c.args.address.0)) c.in_ok-id.ensures.names c.in_ok-id.ensures.trees

pub returns-clause-plain : goal.returns-clause-plain
returns-clause-plain c =
    let t = extract c.args.bit c.args.bit (tree c.args.terms.now c.args.address.0) in
    last_plain c.args.terms.now c.put.new.terms t c.in_ok-id.id.0 (word 1) c.in_ok-id.ensures.id c.in_ok-id.ensures.trees
    (extract_word (tree c.args.terms.now c.args.address.0) c.args.bit c.requires.0 c.requires.2 c.requires.1.sort) c.requires.1.blastable

pub returns-clause-tree : goal.returns-clause-tree
returns-clause-tree c =
    last_tree c.args.terms.now c.put.new.terms (extract c.args.bit c.args.bit (tree c.args.terms.now c.args.address.0)) c.in_ok-id.id.0 c.in_ok-id.ensures.id c.in_ok-id.ensures.trees

pub returns-clause-count : goal.returns-clause-count
returns-clause-count c = one_counted c.args.terms.now c.put.new.terms _ c.in_ok-id.ensures.trees
