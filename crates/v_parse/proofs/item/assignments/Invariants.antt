use Rattle.std.proofs.Common.{◌≡◌, map, length}
use Rattle.v_token.specs.View.{tokens_of}
use Rattle.v_expr.proofs.Repeat.{with_front}
use Rattle.verilog_text.specs.Token.{comma, equals}
use Rattle.v_expr.specs.Reading.{after_mark}
use Rattle.v_body.specs.Targets.{assignment_at}
use Rattle.v_parse.specs.View.{assignment_of}
use Rattle.v_parse.specs.Lists.{others_at}
use Rattle.v_parse.specs.Reading.{assignments_at}
use Rattle.v_expr.specs.Flat.{Each}
use Rattle.v_parse.specs.Flat.{IsFlatAssignment}
use Rattle.v_parse.proofs.item.assignments.Given as goal

abbrev pub invariant-loop-assignments : goal.invariant-loop-assignments
invariant-loop-assignments l = (with_front (map assignment_of l.assignments.items) (others_at (after_mark comma) (assignment_at equals) (tokens_of l.rest)) ≡ assignments_at (tokens_of l.tokens)) × Each IsFlatAssignment l.assignments.items

abbrev pub decreases-loop-assignments : goal.decreases-loop-assignments
decreases-loop-assignments l = length (tokens_of l.rest)
