-- What it is that files read as an expression.
use Rattle.std.specs.Prelude.{◌≡◌, ℕ, List, [], Ok}
use Rattle.verilog_text.specs.Token.{Token}
use Rattle.verilog_text.specs.Text.{tokens_in}
use Rattle.verilog_text.specs.Grammar.{IsWhole}
use Rattle.verilog_trees.specs.Syntax.{Expression}

-- All tokens of the files spell this expression.
pub record IsExpressionOf (files : List (List ℕ)) (e : Expression) : Type 0 where
  pub tokens : List Token
  pub are_tokens : tokens_in files ≡ Ok tokens
  pub is_expression : IsWhole e tokens []
