-- Reading what may be left out, and lists.
use Rattle.std.specs.Prelude.{Bool, true, false, List, [], ◌∷◌, Option, Some, None}
use Rattle.wb_values.specs.Value.{Name}
use Rattle.verilog_text.specs.Token.{Mark, comma, Token}
use Rattle.v_expr.specs.Repeat.{◌>>=◌, choose, Read, repeated}
use Rattle.v_expr.specs.Reading.{after_mark}
use Rattle.v_body.specs.Words.{after_word, name_at}

-- what reads one of a kind
abbrev pub ReaderOf : Type 0 → Type 0
ReaderOf A = List Token → Read Token A

-- what stands behind something that is passed
abbrev pub Passes : Type 0
Passes = List Token → Option (List Token)

-- ---- what may be left out

-- a word, or nothing
unfoldable pub flag_at : Name → ReaderOf Bool
flag_at w ts = choose (after_word w ts) (λ rest. Some (true, rest)) (Some (false, ts))

unfoldable pub given_at : {A : Type 0} → ReaderOf A → ReaderOf (Option A)
given_at one ts = one ts >>= λ x. Some (Some x.0, x.1)

-- one of a kind behind a mark, or nothing
unfoldable pub perhaps_at : {A : Type 0} → Mark → ReaderOf A → ReaderOf (Option A)
perhaps_at m one ts = choose (after_mark m ts) (given_at one) (Some (None, ts))

-- ---- lists

-- nothing passed, where a name stands there
unfoldable pub at_name : Passes
at_name ts = choose (name_at ts) (λ n. Some ts) None

-- a comma, where a name stands behind it
unfoldable pub before_name : Passes
before_name ts = after_mark comma ts >>= at_name

-- nothing, where a list does not go on
unfoldable pub past : Passes → Passes
past next ts = choose (next ts) (λ more. None) (Some ts)

unfoldable pub next_part : {A : Type 0} → Passes → ReaderOf A → ReaderOf A
next_part next one ts = next ts >>= one

-- parts, each behind what goes on with the list
unfoldable pub others_at : {A : Type 0} → Passes → ReaderOf A → ReaderOf (List A)
others_at next one ts = repeated (past next) (next_part next one) ts

-- behind the first part
unfoldable pub more_at : {A : Type 0} → Passes → ReaderOf A → A → ReaderOf (List A)
more_at next one x ts = others_at next one ts >>= λ xs. Some (x ∷ xs.0, xs.1)

-- one or more parts, with what `next` passes between them
unfoldable pub parted_at : {A : Type 0} → Passes → ReaderOf A → ReaderOf (List A)
parted_at next one ts = one ts >>= λ x. more_at next one x.0 x.1

-- the end of the tokens
unfoldable pub at_end : Passes
at_end [] = Some []
at_end (t ∷ ts) = None
