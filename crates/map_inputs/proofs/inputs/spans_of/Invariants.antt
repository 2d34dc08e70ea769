use Rattle.std.proofs.Common.{◌≡◌, drop, map}
use Rattle.verilog_designs.specs.Reads.{or_in}
use Rattle.v_value.specs.Scope.{scope_at}
use Rattle.v_flow.specs.Spans.{bits_in}
use Rattle.map_inputs.specs.Bits.{input_bits}
use Rattle.map_inputs.proofs.inputs.spans_of.Given as goal

abbrev pub invariant-loop-name : goal.invariant-loop-name
invariant-loop-name l =
    input_bits (scope_at l.scope) (map (λ n. n.now) l.names) ≡ or_in (bits_in l.found.items) (input_bits (scope_at l.scope) (map (λ n. n.now) (drop l.name-index l.names)))
