use Rattle.std.proofs.Common.{◌-◌}
use Rattle.v_value.specs.Scope.{object_of, scope_at}
use Rattle.v_syntax.specs.Tree.{select_of}
use Rattle.v_flow.proofs.Places as places
use Rattle.v_flow.proofs.place.two_place.Goals as goal

pub bits_meant-requires-clause-count : goal.bits_meant-requires-clause-count
bits_meant-requires-clause-count c =
    places.count-two (scope_at c.args.scope.now) c.args.name.now (select_of c.args.index.now) (select_of c.args.select.now) (object_of c.object-object.result) c.object-object.ensures c.requires.narrow

pub returns : goal.returns
returns c =
    places.two-place (scope_at c.args.scope.now) (record { name = c.args.name; from_word = c.words_meant-words.result.from; to_word = c.words_meant-words.result.to; bits = c.bits_meant.result }) (object_of c.object-object.result) (select_of c.args.index.now) (select_of c.args.select.now) c.object-object.ensures c.words_meant-words.ensures c.bits_meant.ensures
