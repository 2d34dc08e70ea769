use Rattle.std.proofs.Common.{◌≡◌, map, length}
use Rattle.v_token.specs.View.{tokens_of}
use Rattle.v_expr.proofs.Repeat.{with_front}
use Rattle.verilog_text.specs.Token.{comma}
use Rattle.v_expr.specs.Reading.{after_mark}
use Rattle.v_parse.specs.Reading.{port_at, port_list_at}
use Rattle.v_syntax.specs.Source.{port_of}
use Rattle.v_parse.specs.Lists.{others_at}
use Rattle.v_expr.specs.Flat.{Each}
use Rattle.v_parse.specs.Flat.{IsFlatPort}
use Rattle.v_parse.proofs.module.port_list.Given as goal

abbrev pub invariant-loop-ports : goal.invariant-loop-ports
invariant-loop-ports l = (with_front (map port_of l.ports.items) (others_at (after_mark comma) port_at (tokens_of l.rest)) ≡ port_list_at (tokens_of l.tokens)) × Each IsFlatPort l.ports.items

abbrev pub decreases-loop-ports : goal.decreases-loop-ports
decreases-loop-ports l = length (tokens_of l.rest)
