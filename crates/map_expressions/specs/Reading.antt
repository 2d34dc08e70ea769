-- What the code's tokens of a text are, and what is read of them.
use Rattle.std.specs.Prelude.{◌≡◌, List, [], ◌∷◌, ℕ, Result, Ok, Err, Vec, ⊤}
use Rattle.wb_values.specs.Value.{Name}
use Rattle.std.specs.Global.{Global}
use Rattle.verilog_trees.specs.Syntax.{Expression as PureExpression}
use Rattle.verilog_text.specs.Token.{Token, word}
use Rattle.verilog_text.specs.Text.{tokens_in}
use Rattle.verilog_text.specs.Grammar.{with_dotted_names}
use Rattle.map_files.specs.Written.{Text}
use Rattle.map_rules.specs.Expressions.{ReadsAs}
use Rattle.v_syntax.specs.declared.tree.Expression.{Expression}
use Rattle.v_syntax.specs.Tree.{tree_of}
use Rattle.v_dotted.specs.Dotted.{owned_tokens_of}
use Rattle.v_dotted.specs.declared.dotted.OwnedToken.{OwnedToken}
use Rattle.map_expressions.specs.declared.stop.TextStop.{TextStop}
use Rattle.map_expressions.specs.declared.stop.TextStop.TheVariants.{Refused, NoMemory}
use Rattle.map_expressions.specs.declared.text.TokenText.{TokenText}

-- the tokens of these files, with dotted names joined
pub record AreTokensOf (files : List (List ℕ)) (joined : List Token) : Type 0 where
  pub tokens : List Token
  pub are_tokens : tokens_in files ≡ Ok tokens
  pub are_joined : joined ≡ with_dotted_names tokens

-- the joined tokens of files, or there are no tokens
abbrev pub AreJoined : Result (Vec OwnedToken Global) TextStop → List (List ℕ) → Type 0
AreJoined (Ok v) files = AreTokensOf files (owned_tokens_of v.items)
AreJoined (Err (Refused n)) files = (ts : List Token) → ¬ (tokens_in files ≡ Ok ts)
AreJoined (Err NoMemory) files = ⊤

-- it is the text with its tokens
abbrev pub HasTokens : TokenText → Text → Type 0
HasTokens x t = AreTokensOf (t ∷ []) (owned_tokens_of x.tokens.items)

-- the text with its tokens, or it is read as no expression
abbrev pub IsTokenText : Result TokenText TextStop → Text → Type 0
IsTokenText (Ok x) t = HasTokens x t
IsTokenText (Err (Refused n)) t = (e : PureExpression) → ¬ ReadsAs t e
IsTokenText (Err NoMemory) t = ⊤

-- The expression that the text is read as, or it is read as none.
abbrev pub IsRead : Result Expression TextStop → Text → Type 0
IsRead (Ok e) t = ReadsAs t (tree_of e)
IsRead (Err (Refused n)) t = (e : PureExpression) → ¬ ReadsAs t e
IsRead (Err NoMemory) t = ⊤

-- the words of tokens; those of an expression are its names, in their order
abbrev pub words_of : List Token → List Name
words_of [] = []
words_of (word n ∷ ts) = n ∷ words_of ts
words_of (_ ∷ ts) = words_of ts
