-- Tokens as texts have them.
use Rattle.std.specs.Prelude.{◌≡◌, ℕ, Bool, true, false, ◌&&◌, ◌||◌, ◌==◌, List, [], ◌∷◌}
use Rattle.std.specs.List.{list_all}
use Prim.Native.Char.{code}
use Rattle.verilog_text.specs.Token.{Token, word, system, decimal, based, mark}
use Rattle.verilog_text.specs.Lexical.{is_decimal_byte, is_base, is_digit_of}
use Rattle.verilog_text.specs.Spelling.{is_silent}
use Rattle.verilog_text.specs.Text.{is_zero}
use Rattle.v_print.specs.Reads.{is_printed}
use Rattle.v_print.specs.Whole.{begins_based}

-- digits of a base, with what says nothing between them
abbrev pub is_digit_or_silent : (base : ℕ) → ℕ → Bool
is_digit_or_silent base b = is_silent b || is_digit_of base b

-- from the base on
abbrev pub IsBased : List ℕ → Type 0
IsBased [] = ⊥
IsBased (b ∷ digits) = (is_base b ≡ true) × (list_all (is_digit_or_silent b) digits ≡ true)

abbrev pub is_sign : ℕ → Bool
is_sign b = b == code "s" || b == code "S"

-- the quote, perhaps s, the base, digits
pub data IsQuoted : List ℕ → Type 0 where
  behind_sign : (quote s : ℕ) (text : List ℕ) → is_sign s ≡ true → IsBased text → IsQuoted (quote ∷ s ∷ text)
  without_sign : (quote b : ℕ) (text : List ℕ) → is_sign b ≡ false → IsBased (b ∷ text) → IsQuoted (quote ∷ b ∷ text)

abbrev pub IsLexed : Token → Type 0
IsLexed (word n) = is_printed (word n) ≡ true
IsLexed (system n) = Unit {0}
IsLexed (decimal text) = list_all is_decimal_byte text ≡ true
IsLexed (based text) = IsQuoted text
IsLexed (mark m) = Unit {0}

abbrev pub AreLexed : List Token → Type 0
AreLexed [] = Unit {0}
AreLexed (t ∷ ts) = IsLexed t × ((is_zero t && begins_based ts) ≡ false) × AreLexed ts

pub behind : (t : Token) (ts : List Token) → AreLexed (t ∷ ts) → AreLexed ts
behind t ts l = l.2

-- What was spelled is so, and what is left are such tokens.
pub record Leaves (P : Type 0) (rest : List Token) : Type 0 where
  pub is : P
  pub lexed : AreLexed rest
