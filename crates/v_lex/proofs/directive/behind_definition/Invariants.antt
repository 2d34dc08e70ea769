use Rattle.std.proofs.Common.{◌≡◌, length}
use Rattle.std.specs.Prelude.{IsTrue}
use Rattle.verilog_text.specs.Lexical.{definition_length}
use Rattle.v_lex.specs.Quotes.{are_alone}
use Rattle.v_lex.specs.View.{rest_after}
use Rattle.v_lex.proofs.directive.behind_definition.Given as goal

abbrev pub invariant-loop-first : goal.invariant-loop-first
invariant-loop-first l = (rest_after l.fn.text (definition_length 0 l.fn.text) ≡ rest_after l.rest (definition_length 0 l.rest)) × IsTrue (are_alone l.alone l.rest)

abbrev pub decreases-loop-first : goal.decreases-loop-first
decreases-loop-first l = length l.rest
