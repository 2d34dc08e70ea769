use Rattle.wb_values.specs.Value.{truth, word}
use Rattle.v_operators.proofs.Growing.{Grows-trans, IsOfSort-kept}
use Rattle.v_operators.proofs.Testing.{one_fits, bit_made}
use Rattle.v_operators.proofs.truths.bit.Goals as goal

pub constant-requires-clause-fits : goal.constant-requires-clause-fits
constant-requires-clause-fits c = one_fits c.args.width c.requires.some_bits

pub choice-requires-clause-condition : goal.choice-requires-clause-condition
choice-requires-clause-condition c = IsOfSort-kept c.args.condition.0 truth (Grows-trans c.in_ok-one.ensures.grows c.in_ok-zero.ensures.grows) c.requires.condition

pub choice-requires-clause-chosen : goal.choice-requires-clause-chosen
choice-requires-clause-chosen c = IsOfSort-kept c.in_ok-one.one.0 (word c.args.width) c.in_ok-zero.ensures.grows c.in_ok-one.ensures.of_sort

pub returns-clause-made : goal.returns-clause-made
returns-clause-made c =
    bit_made c.args.terms.now c.constant.new.terms c.constant-2.new.terms c.choice.new.terms c.in_ok-id.id.0 c.args.condition.0 c.in_ok-one.one.0 c.in_ok-zero.zero.0 c.args.width c.requires.condition
    c.in_ok-one.ensures.grows c.in_ok-zero.ensures.grows c.in_ok-one.ensures.of_sort c.in_ok-one.ensures.value c.in_ok-zero.ensures.value c.in_ok-id.ensures.made
