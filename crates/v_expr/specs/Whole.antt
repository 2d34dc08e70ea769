-- Reading a whole expression, or the selects behind a name, as deep as the tokens can be.
use Rattle.std.specs.Prelude.{suc, List, length}
use Rattle.verilog_text.specs.Token.{Token}
use Rattle.verilog_trees.specs.Syntax.{Selects}
use Rattle.v_expr.specs.Repeat.{Read}
use Rattle.v_expr.specs.Reading.{Reader, selects_at, expression_at}

-- each level of nesting takes a token, so there are no more levels than tokens
unfoldable pub whole_at : Reader
whole_at ts = expression_at (suc (length ts)) ts

unfoldable pub whole_selects_at : List Token → Read Token Selects
whole_selects_at ts = selects_at (expression_at (length ts)) ts
