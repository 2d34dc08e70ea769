use Rattle.std.proofs.Common.{◌≡◌, false, drop}
use Rattle.verilog_text.specs.Lexical.{string_length}
use Rattle.v_lex.specs.View.{rest_after}
use Rattle.v_lex.proofs.scan.behind_string.Given as goal

abbrev pub invariant-loop-i : goal.invariant-loop-i
invariant-loop-i l = rest_after l.text (string_length false l.text) ≡ rest_after (drop l.i l.text) (string_length l.escaped (drop l.i l.text))
