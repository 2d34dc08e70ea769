use Rattle.v_operators.proofs.Growing.{below_kept}
use Rattle.v_operators.proofs.Testing.{some_bits, at_most_128, nonzero_made}
use Rattle.v_operators.proofs.truths.is_above_zero.Goals as goal

pub constant-requires-clause-some_bits : goal.constant-requires-clause-some_bits
constant-requires-clause-some_bits c = some_bits c.args.terms.now c.args.operand.0 c.args.width c.requires

pub constant-requires-clause-at_most_128 : goal.constant-requires-clause-at_most_128
constant-requires-clause-at_most_128 c = at_most_128 c.args.terms.now c.args.operand.0 c.args.width c.requires

pub put-requires-clause-over : goal.put-requires-clause-over
put-requires-clause-over c =
    record {
      operands = (c.in_ok-zero.ensures.of_sort.below, (below_kept c.args.operand.0 c.in_ok-zero.ensures.grows c.requires.below, tt));
      names = tt;
    }

pub returns-clause-made : goal.returns-clause-made
returns-clause-made c =
    nonzero_made c.args.terms.now c.constant.new.terms c.put.new.terms c.in_ok-id.id.0 c.args.operand.0 c.in_ok-zero.zero.0 c.args.width c.requires
    c.in_ok-zero.ensures.grows c.in_ok-zero.ensures.of_sort c.in_ok-zero.ensures.value c.in_ok-id.ensures.below c.in_ok-id.ensures.tree
