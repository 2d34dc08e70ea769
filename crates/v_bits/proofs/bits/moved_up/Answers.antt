use Rattle.std.proofs.Common.{◌-◌}
use Rattle.wb_values.specs.Value.{word}
use Rattle.v_operators.proofs.Growing.{IsOfSort-kept}
use Rattle.v_bits.proofs.Places.{up_made}
use Rattle.v_bits.proofs.bits.moved_up.Goals as goal

pub beside-requires-clause-high : goal.beside-requires-clause-high
beside-requires-clause-high c = IsOfSort-kept c.in_ok-low.low.0 (word (c.args.count - c.args.places)) c.in_ok-zeros.ensures.grows c.in_ok-low.ensures.made.of_sort

pub returns-clause-made : goal.returns-clause-made
returns-clause-made c =
    up_made c.args.terms.now c.resized.new.terms c.constant.new.terms c.beside.new.terms c.args.operand.0 c.args.width c.in_ok-low.low.0 c.in_ok-zeros.zeros.0 c.in_ok-id.id.0 c.args.places c.args.count c.requires.fewer
    c.in_ok-low.ensures.made.of_sort c.in_ok-zeros.ensures.grows c.in_ok-low.ensures.made c.in_ok-zeros.ensures.value c.in_ok-id.ensures.made
