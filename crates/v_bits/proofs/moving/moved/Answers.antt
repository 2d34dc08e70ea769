use Rattle.std.proofs.Common.{◌≤◌, arith}
use Rattle.wb_values.specs.Value.{word}
use Rattle.v_operators.proofs.Growing.{IsOfSort-kept}
use Rattle.v_operators.proofs.Testing.{at_most_128}
use Rattle.v_bits.proofs.Placing.{moved_made}
use Rattle.v_bits.proofs.moving.moved.Goals as goal

pub shifted-requires-clause-place : goal.shifted-requires-clause-place
shifted-requires-clause-place c = IsOfSort-kept c.args.place.0 (word 64) c.in_ok-wide.ensures.grows c.requires.place

pub returns-clause-made : goal.returns-clause-made
returns-clause-made c =
    moved_made c.args.terms.now c.widened.new.terms c.shifted.new.terms c.resized.new.terms c.args.operand.0 c.args.width c.max-most.result c.args.place.0
    c.in_ok-wide.wide.0 c.in_ok-both.both.0 c.in_ok-id.id.0 c.args.count c.requires.place c.max-most.ensures c.in_ok-wide.ensures.grows c.in_ok-wide.ensures.made c.in_ok-both.ensures.made c.in_ok-id.ensures.made

pub widened-requires-clause-at_most_128 : goal.widened-requires-clause-at_most_128
widened-requires-clause-at_most_128 c =
    let l : c.args.width ≤ 128 = at_most_128 c.args.terms.now c.args.operand.0 c.args.width c.requires.operand in
    omega (arith, l, c.requires.at_most_128, c.max-most.ensures)
