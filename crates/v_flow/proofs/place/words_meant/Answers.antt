use Rattle.std.proofs.Common.{◌∙◌, ◌-◌}
use Rattle.v_value.specs.Scope.{object_of, scope_at}
use Rattle.v_syntax.specs.Tree.{select_of}
use Rattle.v_value.specs.Index.{integer_at}
use Rattle.v_flow.proofs.Places as places
use Rattle.v_flow.proofs.place.words_meant.Goals as goal

pub returns-then-is_constant_select : goal.returns-then-is_constant_select
returns-then-is_constant_select c k =
    c.word_at.ensures k ∙ places.constant-word (scope_at c.args.scope.now) (object_of c.args.object) (select_of c.args.select.now) (integer_at c.select_index.result) c.is_constant_select.result c.if-is_constant_select.true c.is_constant_select.ensures c.select_index.ensures k

pub returns-else-is_constant_select : goal.returns-else-is_constant_select
returns-else-is_constant_select c k =
    places.variable-word (scope_at c.args.scope.now) (object_of c.args.object) (select_of c.args.select.now) _ _ c.is_constant_select.result c.if-is_constant_select.false c.is_constant_select.ensures c.all_words.ensures.from c.all_words.ensures.to k
