-- The place of a refusal: the first token with which no source, or no expression, goes on.
use Rattle.std.specs.Prelude.{◌≡◌, ℕ, List, [], ◌∷◌, ◌++◌, length}
use Rattle.verilog_trees.specs.Syntax.{Expression, Source}
use Rattle.verilog_text.specs.Token.{Token}
use Rattle.verilog_text.specs.Grammar.{IsWhole, IsSource}

-- Tokens that spell a source; tokens that spell an expression.
abbrev pub IsSourceText : List Token → Type 0
IsSourceText text = (ms : Source) × IsSource ms text

abbrev pub IsExpressionText : List Token → Type 0
IsExpressionText text = (e : Expression) × IsWhole e text []

-- Some text of the kind begins with these tokens.
abbrev pub Begins : (IsText : List Token → Type 0) → List Token → Type 0
Begins IsText front = (rest : List Token) × IsText (front ++ rest)

-- No text of the kind begins with these tokens and the next one, where there is one.
abbrev pub EndsThere : (IsText : List Token → Type 0) → List Token → List Token → Type 0
EndsThere IsText front [] = Unit {0}
EndsThere IsText front (t ∷ ts) = Begins IsText (front ++ t ∷ []) → ⊥

-- The place at which so many tokens are left: some text of the kind begins with the tokens before it, and none with these and the
-- token there. It is their end where some such text begins with all of them.
abbrev pub IsFirstWrong : (IsText : List Token → Type 0) → (left : ℕ) → List Token → Type 0
IsFirstWrong IsText left text = (front behind : List Token) × (text ≡ front ++ behind) × (left ≡ length behind) × Begins IsText front × EndsThere IsText front behind
