use Rattle.std.proofs.Common.{◌∙◌, ◌-◌, ap}
use Rattle.std.proofs.lemmas.Result.{on_ok_weaker}
use Rattle.v_value.specs.Scope.{scope_at}
use Rattle.v_syntax.specs.Tree.{selects_of}
use Rattle.v_flow.proofs.Sets.{nothing}
use Rattle.v_flow.specs.Spans.{bits_in}
use Rattle.verilog_designs.specs.Reads.{or_in}
use Rattle.std.specs.Prelude.{is_some}
use Rattle.verilog_meaning.specs.Expression.{Object}
use Rattle.v_flow.proofs.Places as places
use Rattle.v_flow.proofs.read.add_name.Goals as goal

pub returns-then-is_some : goal.returns-then-is_some
returns-then-is_some c = nothing _ _ (places.parameter (scope_at c.args.scope.now) c.args.name.now (selects_of c.args.selects.now) c.is_some.result (c.is_some.ensures ∙ ap (λ (o : Object). is_some o.constant) c.object.ensures) c.if-is_some.true)

pub returns-then-are_constant_selects : goal.returns-then-are_constant_selects
returns-then-are_constant_selects c = on_ok_weaker c.add_meant.result (λ k. k ∙ ap (or_in (bits_in c.args.found.now.items)) (places.constant-name (scope_at c.args.scope.now) c.args.name.now (selects_of c.args.selects.now) c.is_some.result (c.is_some.ensures ∙ ap (λ (o : Object). is_some o.constant) c.object.ensures) c.if-is_some.false c.are_constant_selects.result c.if-are_constant_selects.true c.are_constant_selects.ensures)) c.add_meant.ensures

pub returns-else-are_constant_selects : goal.returns-else-are_constant_selects
returns-else-are_constant_selects c = on_ok_weaker c.add_whole.result (λ k. k ∙ ap (or_in (bits_in c.args.found.now.items)) (places.variable-name (scope_at c.args.scope.now) c.args.name.now (selects_of c.args.selects.now) c.is_some.result (c.is_some.ensures ∙ ap (λ (o : Object). is_some o.constant) c.object.ensures) c.if-is_some.false c.are_constant_selects.result c.if-are_constant_selects.false c.are_constant_selects.ensures)) c.add_whole.ensures
