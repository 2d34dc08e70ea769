use Rattle.std.proofs.Common.{rules, ◌≡◌, arith}
use Rattle.wb_values.specs.Value.{word}
use Rattle.v_operators.proofs.Growing.{Grows-trans, IsOfSort-kept}
use Rattle.v_lower.proofs.Parity.{parity_begins, parity_goes_on, parity_ends}
use Rattle.v_lower.proofs.reducing.parity.Goals as goal

pub loop-i-init : goal.loop-i-init
loop-i-init c =
    record {
      grows = c.in_ok-top.ensures.grows;
      some = omega arith;
      made = parity_begins c.args.terms.now c.one_bit.new.terms c.args.operand.0 c.args.width c.in_ok-top.top.0 c.requires.some_bits c.in_ok-top.ensures.made;
    }

pub loop-i-preserved : goal.loop-i-preserved
loop-i-preserved c =
    let l = c.loop-i in
    record {
      grows = Grows-trans l.invariant.grows (Grows-trans c.in_ok-bit.ensures.grows c.in_ok-sum.ensures.grows);
      some = omega arith;
      made = parity_goes_on c.args.terms.now l.terms c.one_bit-in-loop-i.new.terms c.exclusive_or.new.terms c.args.operand.0 c.args.width l.sum.0 c.in_ok-bit.bit.0 c.in_ok-sum.sum.0 l.i l.invariant.some (search rules) c.requires.operand
          l.invariant.grows l.invariant.made c.in_ok-bit.ensures.grows c.in_ok-bit.ensures.made c.in_ok-sum.ensures.made;
    }

pub returns-clause-made : goal.returns-clause-made
returns-clause-made c =
    let l = c.loop-i in
    let e : l.i ≡ c.args.width = search rules in
    parity_ends c.args.terms.now l.terms c.args.operand.0 c.args.width l.sum.0 l.i e l.invariant.made

pub exclusive_or-requires-clause-left : goal.exclusive_or-requires-clause-left
exclusive_or-requires-clause-left c = IsOfSort-kept c.loop-i.sum.0 (word 1) c.in_ok-bit.ensures.grows c.loop-i.invariant.made.of_sort
