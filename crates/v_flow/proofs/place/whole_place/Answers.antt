use Rattle.v_value.specs.Scope.{object_of, scope_at}
use Rattle.v_flow.proofs.Places as places
use Rattle.v_flow.proofs.place.whole_place.Goals as goal

pub returns : goal.returns
returns c =
    places.whole-place (scope_at c.args.scope.now) (record { name = c.args.name; from_word = c.all_words-words.result.from; to_word = c.all_words-words.result.to; bits = c.all_bits.result }) (object_of c.object-object.result) c.object-object.ensures c.all_words-words.ensures.from c.all_words-words.ensures.to c.all_bits.ensures
