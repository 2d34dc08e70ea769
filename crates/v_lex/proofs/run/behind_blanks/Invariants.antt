use Rattle.std.proofs.Common.{◌≡◌, drop}
use Rattle.verilog_text.specs.Lexical.{blank_length}
use Rattle.v_lex.proofs.run.behind_blanks.Given as goal

abbrev pub invariant-loop-i : goal.invariant-loop-i
invariant-loop-i l = drop (blank_length l.is_macro l.text) l.text ≡ drop (blank_length l.is_macro (drop l.i l.text)) (drop l.i l.text)
