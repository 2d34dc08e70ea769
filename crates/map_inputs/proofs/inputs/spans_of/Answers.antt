use Rattle.std.proofs.Common.{arith, drop, map}
use Rattle.std.proofs.lemmas.List.{at_drop_all}
use Rattle.v_value.specs.Scope.{scope_at}
use Rattle.v_flow.specs.Spans.{bits_in}
use Rattle.map_inputs.specs.Bits.{input_bits}
use Rattle.map_inputs.proofs.InputBits.{names-begun, names-at, names-end}
use Rattle.map_inputs.proofs.inputs.spans_of.Goals as goal

pub loop-name-init : goal.loop-name-init
loop-name-init c = names-begun (scope_at c.args.scope.now) (map (λ n. n.now) c.args.names.now) c.new-found.result.items c.new-found.ensures.items

pub loop-name-preserved : goal.loop-name-preserved
loop-name-preserved c =
    names-at (scope_at c.args.scope.now) c.args.names.now c.loop-name.name-index _ _ _ _ (omega arith) c.loop-name.invariant c.in_ok-add_name.ensures

pub returns : goal.returns
returns c =
    names-end (scope_at c.args.scope.now) (map (λ n. n.now) (drop c.loop-name.name-index c.args.names.now)) (input_bits (scope_at c.args.scope.now) (map (λ n. n.now) c.args.names.now))
    (bits_in c.loop-name.found.items) (at_drop_all (map (λ n. n.now)) c.args.names.now c.loop-name.name-index c.loop-name-test.false) c.loop-name.invariant
