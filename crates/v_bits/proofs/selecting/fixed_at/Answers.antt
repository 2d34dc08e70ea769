use Rattle.std.proofs.Common.{ap, ◌∙◌, pos, ◌-ℤ◌}
use Rattle.verilog_meaning.specs.Expression.{place_of_bit, integer_from, bits_from}
use Rattle.v_value.specs.Scope.{object_of}
use Rattle.v_value.specs.Index.{integer_at}
use Rattle.v_bits.specs.Moving.{taken_from}
use Rattle.v_bits.proofs.Places.{makes_so}
use Rattle.v_bits.proofs.selecting.fixed_at.Goals as goal

pub returns-clause-made : goal.returns-clause-made
returns-clause-made c =
    makes_so c.args.terms.now c.fixed_bits.new.terms c.args.operand.0 c.args.width c.in_ok-id.id.0 c.args.wanted.count
    (λ x. bits_from (integer_at c.place_of_bit.result -ℤ pos c.args.wanted.back) c.args.wanted.count x)
    (taken_from (object_of c.args.wanted.object) c.args.wanted.back c.args.wanted.count (integer_from c.args.signed c.args.index.width c.args.index.value))
    (λ x l. ap (λ z. bits_from (z -ℤ pos c.args.wanted.back) c.args.wanted.count x) (c.place_of_bit.ensures ∙ ap (place_of_bit (object_of c.args.wanted.object)) c.integer_of.ensures.value))
    c.in_ok-id.ensures.made
