use Rattle.std.proofs.Common.{refl}
use Rattle.wb_values.specs.Value.{word}
use Rattle.model_meaning.specs.Term.{const}
use Rattle.ob_mem.proofs.Counting.{one_counted}
use Rattle.ob_mem.proofs.Growing.{one_more, last_tree, last_plain}
use Rattle.ob_mem.proofs.loads.put_one.Goals as goal

pub put-requires-clause-over : goal.put-requires-clause-over
put-requires-clause-over c = record { operands = tt; names = tt }

pub put-requires-clause-sorted : goal.put-requires-clause-sorted
put-requires-clause-sorted c = refl

pub returns-clause-grows : goal.returns-clause-grows
returns-clause-grows c = one_more c.args.terms.now c.put.new.terms (const 1 1) c.in_ok-id.ensures.names c.in_ok-id.ensures.trees

pub returns-clause-plain : goal.returns-clause-plain
returns-clause-plain c = last_plain c.args.terms.now c.put.new.terms (const 1 1) c.in_ok-id.id.0 (word 1) c.in_ok-id.ensures.id c.in_ok-id.ensures.trees refl refl

pub returns-clause-tree : goal.returns-clause-tree
returns-clause-tree c = last_tree c.args.terms.now c.put.new.terms (const 1 1) c.in_ok-id.id.0 c.in_ok-id.ensures.id c.in_ok-id.ensures.trees

pub returns-clause-count : goal.returns-clause-count
returns-clause-count c = one_counted c.args.terms.now c.put.new.terms _ c.in_ok-id.ensures.trees
