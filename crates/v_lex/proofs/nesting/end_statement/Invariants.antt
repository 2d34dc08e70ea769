use Rattle.std.proofs.Common.{◌≡◌, length}
use Rattle.verilog_text.specs.Text.{without_statements}
use Rattle.v_lex.specs.Nesting.{openings_of}
use Rattle.v_lex.proofs.nesting.end_statement.Given as goal

abbrev pub invariant-loop-top : goal.invariant-loop-top
invariant-loop-top l = without_statements (openings_of l.fn.stack.items) ≡ without_statements (openings_of l.stack.items)

abbrev pub decreases-loop-top : goal.decreases-loop-top
decreases-loop-top l = length (openings_of l.stack.items)
