use Rattle.std.proofs.Common.{◌≡◌, map, length}
use Rattle.v_token.specs.View.{tokens_of}
use Rattle.v_expr.proofs.Repeat.{with_front}
use Rattle.verilog_text.specs.Token.{comma}
use Rattle.v_expr.specs.Reading.{after_mark}
use Rattle.v_parse.specs.Reading.{wire_at, wires_at}
use Rattle.v_parse.specs.View.{wire_of}
use Rattle.v_parse.specs.Lists.{others_at}
use Rattle.v_expr.specs.Flat.{Each}
use Rattle.v_parse.specs.Flat.{IsFlatWire}
use Rattle.v_parse.proofs.declaration.wires.Given as goal

abbrev pub invariant-loop-wires : goal.invariant-loop-wires
invariant-loop-wires l = (with_front (map wire_of l.wires.items) (others_at (after_mark comma) wire_at (tokens_of l.rest)) ≡ wires_at (tokens_of l.tokens)) × Each IsFlatWire l.wires.items

abbrev pub decreases-loop-wires : goal.decreases-loop-wires
decreases-loop-wires l = length (tokens_of l.rest)
