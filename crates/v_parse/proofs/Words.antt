-- Words, names and marks in front of tokens.
use Rattle.std.proofs.Common.{◌≡◌, suc, true, List, ◌∷◌, length, Some, None, refl, ap}
use Rattle.wb_values.specs.Value.{Name}
use Rattle.wb_values.specs.ReservedWords.{is_reserved}
use Rattle.verilog_text.specs.Token.{Mark, Token, word}
use Rattle.verilog_text.specs.Spelling.{IsIdentifier}
use Rattle.v_expr.specs.Reading.{after_mark}
use Rattle.v_expr.proofs.Places.{mark_spelled}
use Rattle.v_body.specs.Words.{after_word, name_at}
use Rattle.v_body.proofs.Words as body
use Rattle.v_body.proofs.Words.{word_spelled, not_reserved}

pub word_length : (w : Name) (ts : List Token) {rest : List Token} → after_word w ts ≡ Some rest → length ts ≡ suc (length rest)
word_length w ts e = ap (λ (us : List Token). length us) (word_spelled w e)

pub mark_length : (m : Mark) (ts : List Token) {rest : List Token} → after_mark m ts ≡ Some rest → length ts ≡ suc (length rest)
mark_length m ts e = ap (λ (us : List Token). length us) (mark_spelled m e)

-- an identifier is no word of the grammar
pub other_word : (w n : Name) (rest : List Token) → IsIdentifier n → is_reserved w ≡ true → after_word w (word n ∷ rest) ≡ None
other_word w n rest named reserved = body.other_word w n rest (not_reserved n w named reserved)

-- a word of the grammar is no name
pub no_name : (w : Name) (rest : List Token) → is_reserved w ≡ true → name_at (word w ∷ rest) ≡ None
unfolding name_at
no_name w rest reserved = rw reserved refl
