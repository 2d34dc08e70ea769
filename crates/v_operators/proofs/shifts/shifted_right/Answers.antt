use Rattle.wb_values.specs.Value.{word}
use Rattle.wb_values.specs.Number.{word_lshr}
use Rattle.v_operators.proofs.Growing.{IsOfSort-kept, below_kept}
use Rattle.v_operators.proofs.Forms.{lshr_made}
use Rattle.v_operators.proofs.Testing.{some_bits, at_most_128}
use Rattle.v_operators.proofs.Spreading.{shift_by_amount, lshr_by}
use Rattle.v_operators.proofs.shifts.shifted_right.Goals as goal

pub amount-requires-clause-some_bits : goal.amount-requires-clause-some_bits
amount-requires-clause-some_bits c = some_bits c.args.terms.now c.args.operand.0 c.args.width c.requires.operand

pub amount-requires-clause-at_most_128 : goal.amount-requires-clause-at_most_128
amount-requires-clause-at_most_128 c = at_most_128 c.args.terms.now c.args.operand.0 c.args.width c.requires.operand

pub put-requires-clause-over : goal.put-requires-clause-over
put-requires-clause-over c =
    record {
      operands = (below_kept c.args.operand.0 c.in_ok-places.ensures.grows c.requires.operand.below, (c.in_ok-places.ensures.made.of_sort.below, tt));
      names = tt;
    }

pub returns-clause-made : goal.returns-clause-made
returns-clause-made c =
    shift_by_amount (word_lshr c.args.width) c.args.terms.now c.amount.new.terms c.put.new.terms c.in_ok-id.id.0 c.args.operand.0 c.args.width c.args.count.0 c.args.count_width c.in_ok-places.places.0
    (λ m n y e. lshr_by c.args.width m n y e) c.requires.operand c.in_ok-places.ensures.grows c.in_ok-places.ensures.made
    (lshr_made c.amount.new.terms c.put.new.terms c.in_ok-id.id.0 c.args.operand.0 c.in_ok-places.places.0 c.args.width
    (IsOfSort-kept c.args.operand.0 (word c.args.width) c.in_ok-places.ensures.grows c.requires.operand) c.in_ok-places.ensures.made.of_sort c.in_ok-id.ensures.below c.in_ok-id.ensures.tree)
