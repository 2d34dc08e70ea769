use Rattle.std.proofs.Common.{◌∙◌, ◌-◌, sym}
use Rattle.v_value.specs.Scope.{object_of, scope_at}
use Rattle.v_syntax.specs.Tree.{select_of}
use Rattle.v_flow.proofs.Places as places
use Rattle.v_flow.proofs.place.one_place.Goals as goal

pub bits_meant-requires-clause-count : goal.bits_meant-requires-clause-count
bits_meant-requires-clause-count c =
    places.count-one (scope_at c.args.scope.now) c.args.name.now (select_of c.args.select.now) (object_of c.object-object.result) c.object-object.ensures (sym c.is_some.ensures ∙ c.if-is_some.false) c.requires.narrow

pub returns-then-is_some : goal.returns-then-is_some
returns-then-is_some c =
    places.word-place (scope_at c.args.scope.now) (record { name = c.args.name; from_word = c.words_meant-words.result.from; to_word = c.words_meant-words.result.to; bits = c.all_bits.result }) (object_of c.object-object.result) (select_of c.args.select.now) c.object-object.ensures (sym c.is_some.ensures ∙ c.if-is_some.true) c.words_meant-words.ensures c.all_bits.ensures

pub returns : goal.returns
returns c =
    places.bit-place (scope_at c.args.scope.now) (record { name = c.args.name; from_word = c.all_words-words.result.from; to_word = c.all_words-words.result.to; bits = c.bits_meant.result }) (object_of c.object-object.result) (select_of c.args.select.now) c.object-object.ensures (sym c.is_some.ensures ∙ c.if-is_some.false) c.all_words-words.ensures.from c.all_words-words.ensures.to c.bits_meant.ensures
