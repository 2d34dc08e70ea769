use Rattle.std.proofs.Common.{◌≡◌, map, length}
use Rattle.v_token.specs.View.{tokens_of}
use Rattle.v_expr.proofs.Repeat.{with_front}
use Rattle.verilog_text.specs.Token.{comma}
use Rattle.v_expr.specs.Reading.{after_mark}
use Rattle.v_parse.specs.Reading.{header_parameter_at, parameter_list_at}
use Rattle.v_syntax.specs.Source.{parameter_of}
use Rattle.v_parse.specs.Lists.{others_at}
use Rattle.v_expr.specs.Flat.{Each}
use Rattle.v_parse.specs.Flat.{IsFlatParameter}
use Rattle.v_parse.proofs.module.parameter_list.Given as goal

abbrev pub invariant-loop-parameters : goal.invariant-loop-parameters
invariant-loop-parameters l = (with_front (map parameter_of l.parameters.items) (others_at (after_mark comma) header_parameter_at (tokens_of l.rest)) ≡ parameter_list_at (tokens_of l.tokens)) × Each IsFlatParameter l.parameters.items

abbrev pub decreases-loop-parameters : goal.decreases-loop-parameters
decreases-loop-parameters l = length (tokens_of l.rest)
