use Rattle.std.proofs.Common.{◌≡◌, ◌+◌, drop}
use Rattle.verilog_text.specs.Lexical.{run_length}
use Rattle.v_lex.specs.View.{passes}
use Rattle.v_lex.proofs.run.run_length.Given as goal

abbrev pub invariant-loop-i : goal.invariant-loop-i
invariant-loop-i l = run_length (passes l.run) l.text ≡ l.i + run_length (passes l.run) (drop l.i l.text)
