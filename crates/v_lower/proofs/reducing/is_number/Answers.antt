use Rattle.wb_values.specs.Value.{word}
use Rattle.v_operators.proofs.Growing.{IsOfSort-kept}
use Rattle.v_operators.proofs.Testing.{some_bits, at_most_128}
use Rattle.v_lower.proofs.Wholes.{number_test}
use Rattle.v_lower.proofs.reducing.is_number.Goals as goal

pub constant-requires-clause-some_bits : goal.constant-requires-clause-some_bits
constant-requires-clause-some_bits c = some_bits c.args.terms.now c.args.operand.0 c.args.width c.requires.operand

pub constant-requires-clause-at_most_128 : goal.constant-requires-clause-at_most_128
constant-requires-clause-at_most_128 c = at_most_128 c.args.terms.now c.args.operand.0 c.args.width c.requires.operand

pub is_equal-requires-clause-left : goal.is_equal-requires-clause-left
is_equal-requires-clause-left c = IsOfSort-kept c.args.operand.0 (word c.args.width) c.in_ok-other.ensures.grows c.requires.operand

pub returns-clause-made : goal.returns-clause-made
returns-clause-made c =
    number_test c.args.terms.now c.constant.new.terms c.is_equal.new.terms c.args.operand.0 c.args.width c.args.number c.in_ok-other.other.0 c.in_ok-id.id.0 c.requires.operand c.in_ok-other.ensures.grows
    c.in_ok-other.ensures.value c.in_ok-id.ensures.made
