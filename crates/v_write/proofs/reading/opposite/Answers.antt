use Rattle.v_operators.proofs.Forms.{some, formed}
use Rattle.wb_values.specs.Value.{truth}
use Rattle.v_write.proofs.Lowered.{opposite_sort, opposite_worth}
use Rattle.v_write.proofs.reading.opposite.Goals as goal

pub put-requires-clause-over : goal.put-requires-clause-over
put-requires-clause-over c = record { operands = (c.requires.below, tt); names = tt }

pub put-requires-clause-sorted : goal.put-requires-clause-sorted
put-requires-clause-sorted c = some _ _ (opposite_sort c.args.terms.now c.args.said.0 c.requires)

pub returns-clause-of_sort : goal.returns-clause-of_sort
returns-clause-of_sort c = formed c.put.new.terms c.in_ok-id.id.0 _ truth c.in_ok-id.ensures.below c.in_ok-id.ensures.tree (opposite_sort c.args.terms.now c.args.said.0 c.requires)

pub returns-clause-value : goal.returns-clause-value
returns-clause-value c = opposite_worth c.args.terms.now c.put.new.terms c.args.said.0 c.in_ok-id.id.0 c.in_ok-id.ensures.tree
