use Rattle.std.proofs.Common.{◌≡◌, map, length}
use Rattle.v_token.specs.View.{tokens_of}
use Rattle.v_expr.proofs.Repeat.{with_front}
use Rattle.verilog_text.specs.Token.{comma}
use Rattle.v_expr.specs.Reading.{after_mark}
use Rattle.v_parse.specs.Reading.{variable_at, variables_at}
use Rattle.v_parse.specs.View.{variable_of}
use Rattle.v_parse.specs.Lists.{others_at}
use Rattle.v_expr.specs.Flat.{Each}
use Rattle.v_parse.specs.Flat.{IsFlatVariable}
use Rattle.v_parse.proofs.declaration.variables.Given as goal

abbrev pub invariant-loop-variables : goal.invariant-loop-variables
invariant-loop-variables l = (with_front (map variable_of l.variables.items) (others_at (after_mark comma) variable_at (tokens_of l.rest)) ≡ variables_at (tokens_of l.tokens)) × Each IsFlatVariable l.variables.items

abbrev pub decreases-loop-variables : goal.decreases-loop-variables
decreases-loop-variables l = length (tokens_of l.rest)
