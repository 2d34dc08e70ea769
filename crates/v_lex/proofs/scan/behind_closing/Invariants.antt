use Rattle.std.proofs.Common.{◌≡◌, false, drop}
use Rattle.verilog_text.specs.Lexical.{closing_length}
use Rattle.v_lex.specs.View.{rest_after}
use Rattle.v_lex.proofs.scan.behind_closing.Given as goal

abbrev pub invariant-loop-i : goal.invariant-loop-i
invariant-loop-i l = rest_after l.text (closing_length l.first l.second false l.text) ≡ rest_after (drop l.i l.text) (closing_length l.first l.second l.is_behind_first (drop l.i l.text))
