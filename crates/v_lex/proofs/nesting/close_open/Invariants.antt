use Rattle.std.proofs.Common.{◌≡◌, [], length}
use Rattle.verilog_text.specs.Text.{or_all, behind_nearest}
use Rattle.v_lex.specs.Nesting.{opening_of, openings_of}
use Rattle.v_lex.proofs.nesting.close_open.Given as goal

abbrev pub invariant-loop-top : goal.invariant-loop-top
invariant-loop-top l = or_all [] (behind_nearest (opening_of l.opening) (openings_of l.fn.stack.items)) ≡ or_all [] (behind_nearest (opening_of l.opening) (openings_of l.stack.items))

abbrev pub decreases-loop-top : goal.decreases-loop-top
decreases-loop-top l = length (openings_of l.stack.items)
