-- Dotted names as the reader joins them, and expressions that tokens spell as a whole.
use Rattle.std.specs.Prelude.{ℕ, cond, List, [], ◌∷◌, map, Option, Some, None, Result, Ok, Err}
use Rattle.std.specs.String.{string_bytes}
use Rattle.wb_values.specs.Value.{Name}
use Rattle.wb_values.specs.ReservedWords.{is_reserved}
use Rattle.verilog_text.specs.Token as pure
use Rattle.verilog_text.specs.Token.{dot, word}
use Rattle.verilog_trees.specs.Syntax.{Expression as PureExpression}
use Rattle.verilog_text.specs.Grammar.{IsWhole}
use Rattle.v_token.specs.View.{token_of_kind}
use Rattle.v_syntax.specs.declared.tree.Expression.{Expression}
use Rattle.v_syntax.specs.Tree.{tree_of}
use Rattle.v_expr.specs.Repeat.{◌>>=◌}
use Rattle.v_expr.specs.Reading.{after_mark}
use Rattle.v_expr.specs.declared.stop.ExpressionStop.{ExpressionStop}
use Rattle.v_expr.specs.declared.stop.ExpressionStop.TheVariants.{NoMemory, Refused}
use Rattle.v_place.specs.Place.{IsExpressionText, IsFirstWrong}
use Rattle.v_dotted.specs.declared.dotted.OwnedToken.{OwnedToken}

-- an identifier, and what stands behind it
unfoldable pub identifier_at : List pure.Token → Option (Name × List pure.Token)
identifier_at (word m ∷ rest) = cond (is_reserved m) None (Some (m, rest))
identifier_at _ = None

-- a dot with an identifier, and what stands behind it
unfoldable pub further_name_at : List pure.Token → Option (Name × List pure.Token)
further_name_at ts = after_mark dot ts >>= identifier_at

-- the pure token of one whose text is its own
abbrev pub owned_of : OwnedToken → pure.Token
owned_of t = token_of_kind t.kind (string_bytes t.text)

abbrev pub owned_tokens_of : List OwnedToken → List pure.Token
owned_tokens_of ts = map owned_of ts

-- The expression that all of the tokens spell; refused only where they spell none.
abbrev pub IsOnly : Result Expression ExpressionStop → List pure.Token → Type 0
IsOnly (Ok e) ts = IsWhole (tree_of e) ts []
IsOnly (Err NoMemory) ts = Unit {0}
IsOnly (Err (Refused left)) ts = (e : PureExpression) → IsWhole e ts [] → ⊥

-- The place of a refusal is the first token with which no expression goes on.
abbrev pub IsPlace : Result Expression ExpressionStop → List pure.Token → Type 0
IsPlace (Ok e) ts = Unit {0}
IsPlace (Err NoMemory) ts = Unit {0}
IsPlace (Err (Refused left)) ts = IsFirstWrong IsExpressionText left ts
