-- Words and names in front of tokens.
use Rattle.std.proofs.Common.{◌≡◌, Bool, true, false, cond, List, [], ◌∷◌, Some, None, refl, ap, ◌∙◌, subst}
use Rattle.std.specs.Prelude.{codes}
use Rattle.std.specs.Str.{bytes_eq}
use Rattle.std.proofs.lemmas.Slice.Eq.{bytes_eq-Decides}
use Rattle.wb_values.specs.Value.{Name}
use Rattle.wb_values.specs.ReservedWords.{is_reserved}
use Rattle.verilog_text.specs.Token.{Mark, Token, word, system, decimal, based, mark}
use Rattle.verilog_text.specs.Spelling.{IsIdentifier}
use Rattle.v_expr.specs.Reading.{after_mark}
use Rattle.v_expr.proofs.Repeat.{some_is}
use Rattle.v_body.specs.Words.{is_word, after_word, name_at}

word_is : (w : Name) (t : Token) → is_word w t ≡ true → t ≡ word w
word_is w (word n) e = ap word ((bytes_eq-Decides n w).0 e)
word_is w (system n) e = absurd cc
word_is w (decimal n) e = absurd cc
word_is w (based n) e = absurd cc
word_is w (mark m) e = absurd cc

word_by : (w : Name) (t : Token) (ts rest : List Token) (b : Bool) → is_word w t ≡ b → cond b (Some ts) None ≡ Some rest → t ∷ ts ≡ word w ∷ rest
word_by w t ts rest true e f = ap (λ (u : Token). u ∷ ts) (word_is w t e) ∙ ap (λ (us : List Token). word w ∷ us) (some_is ts rest f)
word_by w t ts rest false e f = absurd cc

pub word_spelled : (w : Name) {ts rest : List Token} → after_word w ts ≡ Some rest → ts ≡ word w ∷ rest
unfolding after_word
word_spelled w {ts = []} e = absurd cc
word_spelled w {ts = t ∷ ts} {rest = rest} e = word_by w t ts rest (is_word w t) refl e

pub word_again : (w : Name) (rest : List Token) → after_word w (word w ∷ rest) ≡ Some rest
unfolding after_word
word_again w rest = let e : bytes_eq w w ≡ true = (bytes_eq-Decides w w).1 refl in rw e refl

pub other_word : (w n : Name) (rest : List Token) → bytes_eq n w ≡ false → after_word w (word n ∷ rest) ≡ None
unfolding after_word
other_word w n rest e = rw e refl

pub no_word_at_mark : (w : Name) (m : Mark) (rest : List Token) → after_word w (mark m ∷ rest) ≡ None
unfolding after_word
no_word_at_mark w m rest = refl

pub no_word_at_system : (w n : Name) (rest : List Token) → after_word w (system n ∷ rest) ≡ None
unfolding after_word
no_word_at_system w n rest = refl

pub no_word_at_decimal : (w : Name) (text : Name) (rest : List Token) → after_word w (decimal text ∷ rest) ≡ None
unfolding after_word
no_word_at_decimal w text rest = refl

pub no_word_at_based : (w : Name) (text : Name) (rest : List Token) → after_word w (based text ∷ rest) ≡ None
unfolding after_word
no_word_at_based w text rest = refl

pub no_mark_at_word : (m : Mark) (n : Name) (rest : List Token) → after_mark m (word n ∷ rest) ≡ None
unfolding after_mark
no_mark_at_word m n rest = refl

pub is_false : (b : Bool) → (b ≡ true → ⊥) → b ≡ false
is_false true h = absurd (h refl)
is_false false h = refl

-- an identifier is no reserved word
pub not_reserved : (n w : Name) → IsIdentifier n → is_reserved w ≡ true → bytes_eq n w ≡ false
not_reserved n w free taken = is_false (bytes_eq n w) (λ h. let e : is_reserved n ≡ is_reserved w = ap is_reserved ((bytes_eq-Decides n w).0 h) in cc)

pub else_reserved : is_reserved (codes "else") ≡ true
unfolding is_reserved
else_reserved = refl

pub end_reserved : is_reserved (codes "end") ≡ true
unfolding is_reserved
end_reserved = refl

pub endcase_reserved : is_reserved (codes "endcase") ≡ true
unfolding is_reserved
endcase_reserved = refl

pub default_reserved : is_reserved (codes "default") ≡ true
unfolding is_reserved
default_reserved = refl

pub if_reserved : is_reserved (codes "if") ≡ true
unfolding is_reserved
if_reserved = refl

pub begin_reserved : is_reserved (codes "begin") ≡ true
unfolding is_reserved
begin_reserved = refl

pub case_reserved : is_reserved (codes "case") ≡ true
unfolding is_reserved
case_reserved = refl

pub casez_reserved : is_reserved (codes "casez") ≡ true
unfolding is_reserved
casez_reserved = refl

-- a name that was read
pub record IsNameThen (ts : List Token) (y : Name × List Token) : Type 0 where
  pub parts : ts ≡ word y.0 ∷ y.1
  pub is_identifier : IsIdentifier y.0

name_by : (n : Name) (ts : List Token) (y : Name × List Token) (b : Bool) → is_reserved n ≡ b → cond b None (Some (n, ts)) ≡ Some y → IsNameThen (word n ∷ ts) y
name_by n ts y true e h = absurd cc
name_by n ts y false e h = subst (IsNameThen (word n ∷ ts)) (some_is (n, ts) y h) (record { parts = refl; is_identifier = e })

pub name_spelled : (ts : List Token) (y : Name × List Token) → name_at ts ≡ Some y → IsNameThen ts y
unfolding name_at
name_spelled (word n ∷ ts) y h = name_by n ts y (is_reserved n) refl h
name_spelled _ y h = absurd cc

pub name_again : (n : Name) (rest : List Token) → IsIdentifier n → name_at (word n ∷ rest) ≡ Some (n, rest)
unfolding name_at
name_again n rest h = rw h refl
