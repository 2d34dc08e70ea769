use Rattle.std.proofs.Common.{◌-◌, ◌^◌, sym, subst}
use Rattle.v_operators.specs.Meaning.{Tests}
use Rattle.v_operators.proofs.Testing.{some_bits}
use Rattle.v_lower.specs.Deciding.{reduced}
use Rattle.v_lower.proofs.Wholes.{number_so, other_so}
use Rattle.v_lower.proofs.reducing.reduced.Goals as goal

pub returns-in_ok-id-in-IsZero-clause-made : goal.returns-in_ok-id-in-IsZero-clause-made
returns-in_ok-id-in-IsZero-clause-made c =
    subst (λ o. Tests c.args.terms.now c.is_number.new.terms c.args.operand.0 c.args.width c.in_ok-id-in-IsZero.id.0 (reduced o c.args.width)) (sym c.in-IsZero.is)
    c.in_ok-id-in-IsZero.ensures.made

pub returns-in_ok-id-in-AllOnes-clause-made : goal.returns-in_ok-id-in-AllOnes-clause-made
returns-in_ok-id-in-AllOnes-clause-made c =
    subst (λ o. Tests c.args.terms.now c.is_number-in-AllOnes.new.terms c.args.operand.0 c.args.width c.in_ok-id-in-AllOnes.id.0 (reduced o c.args.width)) (sym c.in-AllOnes.is)
    (number_so c.args.terms.now c.is_number-in-AllOnes.new.terms c.args.operand.0 c.args.width c.ones.result (2 ^ c.args.width - 1) c.in_ok-id-in-AllOnes.id.0 c.ones.ensures.value c.in_ok-id-in-AllOnes.ensures.made)

pub returns-in_ok-id-in-NotAllOnes-clause-made : goal.returns-in_ok-id-in-NotAllOnes-clause-made
returns-in_ok-id-in-NotAllOnes-clause-made c =
    subst (λ o. Tests c.args.terms.now c.is_other.new.terms c.args.operand.0 c.args.width c.in_ok-id-in-NotAllOnes.id.0 (reduced o c.args.width)) (sym c.in-NotAllOnes.is)
    (other_so c.args.terms.now c.is_other.new.terms c.args.operand.0 c.args.width c.ones-in-NotAllOnes.result (2 ^ c.args.width - 1) c.in_ok-id-in-NotAllOnes.id.0 c.ones-in-NotAllOnes.ensures.value c.in_ok-id-in-NotAllOnes.ensures.made)

pub returns-in_ok-id-in-AnyOne-clause-made : goal.returns-in_ok-id-in-AnyOne-clause-made
returns-in_ok-id-in-AnyOne-clause-made c =
    subst (λ o. Tests c.args.terms.now c.is_nonzero.new.terms c.args.operand.0 c.args.width c.in_ok-id-in-AnyOne.id.0 (reduced o c.args.width)) (sym c.in-AnyOne.is)
    c.in_ok-id-in-AnyOne.ensures.made

pub returns-in_ok-id-in-NoOne-clause-made : goal.returns-in_ok-id-in-NoOne-clause-made
returns-in_ok-id-in-NoOne-clause-made c =
    subst (λ o. Tests c.args.terms.now c.is_number-in-NoOne.new.terms c.args.operand.0 c.args.width c.in_ok-id-in-NoOne.id.0 (reduced o c.args.width)) (sym c.in-NoOne.is)
    c.in_ok-id-in-NoOne.ensures.made

pub has_parity-requires-clause-some_bits : goal.has_parity-requires-clause-some_bits
has_parity-requires-clause-some_bits c = some_bits c.args.terms.now c.args.operand.0 c.args.width c.requires.operand

pub returns-in_ok-id-in-OddOnes-clause-made : goal.returns-in_ok-id-in-OddOnes-clause-made
returns-in_ok-id-in-OddOnes-clause-made c =
    subst (λ o. Tests c.args.terms.now c.has_parity.new.terms c.args.operand.0 c.args.width c.in_ok-id-in-OddOnes.id.0 (reduced o c.args.width)) (sym c.in-OddOnes.is)
    c.in_ok-id-in-OddOnes.ensures.made

pub has_parity-requires-in-EvenOnes-clause-some_bits : goal.has_parity-requires-in-EvenOnes-clause-some_bits
has_parity-requires-in-EvenOnes-clause-some_bits c = some_bits c.args.terms.now c.args.operand.0 c.args.width c.requires.operand

pub returns-in_ok-id-in-EvenOnes-clause-made : goal.returns-in_ok-id-in-EvenOnes-clause-made
returns-in_ok-id-in-EvenOnes-clause-made c =
    subst (λ o. Tests c.args.terms.now c.has_parity-in-EvenOnes.new.terms c.args.operand.0 c.args.width c.in_ok-id-in-EvenOnes.id.0 (reduced o c.args.width)) (sym c.in-EvenOnes.is)
    c.in_ok-id-in-EvenOnes.ensures.made
