use Rattle.std.proofs.Common.{ap, ◌∙◌}
use Rattle.v_value.specs.Scope.{object_of}
use Rattle.v_operators.proofs.Testing.{some_bits, at_most_128}
use Rattle.v_bits.specs.Writing.{written_from}
use Rattle.v_bits.proofs.AtIndexes.{known_bound}
use Rattle.v_bits.proofs.Written.{known_united, joins_so}
use Rattle.v_bits.proofs.writing.bits_written.Goals as goal

pub new-word-requires-clause-some_bits : goal.new-word-requires-clause-some_bits
new-word-requires-clause-some_bits c = some_bits c.args.terms.now c.args.index.id.0 c.args.index.width c.requires.index

pub new-word-requires-clause-at_most_128 : goal.new-word-requires-clause-at_most_128
new-word-requires-clause-at_most_128 c = at_most_128 c.args.terms.now c.args.index.id.0 c.args.index.width c.requires.index

pub new-word-requires-clause-fits : goal.new-word-requires-clause-fits
new-word-requires-clause-fits c = known_bound c.args.terms.now c.args.index.id.0 c.args.index.width c.in-Some.known c.in-Some.ensures

pub returns-in_ok-id-in-Some-clause-made : goal.returns-in_ok-id-in-Some-clause-made
returns-in_ok-id-in-Some-clause-made c =
    known_united c.args.terms.now c.fixed_at.new.terms c.args.old.0 c.args.width c.args.number.0 c.args.wanted.count c.args.index.id.0 c.args.index.width c.in_ok-id-in-Some.id.0 c.in-Some.known
    (written_from (object_of c.args.wanted.object) c.args.wanted.back c.args.wanted.count c.args.index.signed c.args.index.width c.args.width) c.in-Some.ensures
    (joins_so c.args.terms.now c.fixed_at.new.terms c.args.old.0 c.args.width c.args.number.0 c.args.wanted.count c.in_ok-id-in-Some.id.0 c.args.width
    (λ a x. written_from (object_of c.args.wanted.object) c.args.wanted.back c.args.wanted.count c.args.index.signed c.new-word.result.width c.args.width a x c.new-word.result.value)
    (λ a x. written_from (object_of c.args.wanted.object) c.args.wanted.back c.args.wanted.count c.args.index.signed c.args.index.width c.args.width a x c.in-Some.known)
    (λ a x. ap (λ k. written_from (object_of c.args.wanted.object) c.args.wanted.back c.args.wanted.count c.args.index.signed k c.args.width a x c.new-word.result.value) c.new-word.ensures.width
    ∙ ap (λ k. written_from (object_of c.args.wanted.object) c.args.wanted.back c.args.wanted.count c.args.index.signed c.args.index.width c.args.width a x k) c.new-word.ensures.value)
    c.in_ok-id-in-Some.ensures.made)
