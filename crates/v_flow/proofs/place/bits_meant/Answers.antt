use Rattle.std.proofs.Common.{◌∙◌, ◌-◌}
use Rattle.v_value.specs.Scope.{object_of, scope_at}
use Rattle.v_syntax.specs.Tree.{select_of}
use Rattle.v_value.specs.Index.{span_of}
use Rattle.v_flow.proofs.Places as places
use Rattle.v_flow.proofs.place.bits_meant.Goals as goal

pub select_bits-requires-clause-count : goal.select_bits-requires-clause-count
select_bits-requires-clause-count c = places.counted (scope_at c.args.scope.now) (object_of c.args.object) (select_of c.args.select.now) c.requires.count

pub returns-then-is_constant_select : goal.returns-then-is_constant_select
returns-then-is_constant_select c b =
    c.bits_within.ensures b ∙ places.constant-bit (scope_at c.args.scope.now) (object_of c.args.object) (select_of c.args.select.now) c.object_width.result (span_of c.select_bits.result) c.is_constant_select.result c.if-is_constant_select.true c.is_constant_select.ensures c.object_width.ensures c.select_bits.ensures b

pub returns-else-is_constant_select : goal.returns-else-is_constant_select
returns-else-is_constant_select c b =
    c.all_bits.ensures b ∙ places.variable-bit (scope_at c.args.scope.now) (object_of c.args.object) (select_of c.args.select.now) c.is_constant_select.result c.if-is_constant_select.false c.is_constant_select.ensures b
