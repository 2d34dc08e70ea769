use Rattle.std.proofs.Common.{ap, ◌∙◌}
use Rattle.verilog_meaning.specs.Expression.{integer_from}
use Rattle.v_value.specs.Scope.{object_of}
use Rattle.v_operators.proofs.Testing.{some_bits, at_most_128}
use Rattle.v_bits.specs.Moving.{taken_from}
use Rattle.v_bits.proofs.Places.{makes_so}
use Rattle.v_bits.proofs.AtIndexes.{known_joined, known_bound}
use Rattle.v_bits.proofs.selecting.bits_at.Goals as goal

pub new-word-requires-clause-some_bits : goal.new-word-requires-clause-some_bits
new-word-requires-clause-some_bits c = some_bits c.args.terms.now c.args.index.id.0 c.args.index.width c.requires.index

pub new-word-requires-clause-at_most_128 : goal.new-word-requires-clause-at_most_128
new-word-requires-clause-at_most_128 c = at_most_128 c.args.terms.now c.args.index.id.0 c.args.index.width c.requires.index

pub new-word-requires-clause-fits : goal.new-word-requires-clause-fits
new-word-requires-clause-fits c = known_bound c.args.terms.now c.args.index.id.0 c.args.index.width c.in-Some.number c.in-Some.ensures

pub returns-in_ok-id-in-Some-clause-made : goal.returns-in_ok-id-in-Some-clause-made
returns-in_ok-id-in-Some-clause-made c =
    known_joined c.args.terms.now c.fixed_at.new.terms c.args.operand.0 c.args.width c.args.index.id.0 c.args.index.width c.in_ok-id-in-Some.id.0 c.args.wanted.count c.in-Some.number
    (λ x i. taken_from (object_of c.args.wanted.object) c.args.wanted.back c.args.wanted.count (integer_from c.args.index.signed c.args.index.width i) x) c.in-Some.ensures
    (makes_so c.args.terms.now c.fixed_at.new.terms c.args.operand.0 c.args.width c.in_ok-id-in-Some.id.0 c.args.wanted.count
    (taken_from (object_of c.args.wanted.object) c.args.wanted.back c.args.wanted.count (integer_from c.args.index.signed c.new-word.result.width c.new-word.result.value))
    (λ x. taken_from (object_of c.args.wanted.object) c.args.wanted.back c.args.wanted.count (integer_from c.args.index.signed c.args.index.width c.in-Some.number) x)
    (λ x l. ap (λ k. taken_from (object_of c.args.wanted.object) c.args.wanted.back c.args.wanted.count (integer_from c.args.index.signed k c.new-word.result.value) x) c.new-word.ensures.width
    ∙ ap (λ k. taken_from (object_of c.args.wanted.object) c.args.wanted.back c.args.wanted.count (integer_from c.args.index.signed c.args.index.width k) x) c.new-word.ensures.value)
    c.in_ok-id-in-Some.ensures.made)
