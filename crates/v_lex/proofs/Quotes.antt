-- Quotes without partners.
use Rattle.std.proofs.Common.{◌≡◌, ℕ, zero, suc, ◌≤◌, ◌<◌, Bool, true, false, cond, not, ◌&&◌, ◌||◌, ◌==◌, List, [], ◌∷◌, length, drop, Option, Some, None, refl, sym, ap, ◌∙◌, subst, arith}
use Rattle.std.proofs.lemmas.Bool.Decides.{nat_tests}
use Rattle.std.specs.Prelude.{option_map, is_some, nat_lt}
use Rattle.verilog_text.specs.Lexical.{string_length, run_length, is_line_feed}
use Rattle.verilog_text.specs.Lexical.{Piece, Front}
use Rattle.v_lex.specs.View.{after, at_front}
use Rattle.v_lex.specs.Quotes.{is_alone, are_alone}

both : (a b : Bool) → a ≡ true → b ≡ true → (a && b) ≡ true
both _ _ h g = rw (h, g) refl

first : (a b : Bool) → (a && b) ≡ true → a ≡ true
first true _ h = refl
first false _ h = h

second : (a b : Bool) → (a && b) ≡ true → b ≡ true
second true _ h = h
second false _ h = absurd cc

-- bytes that are passed over
pub skipped : (last n : ℕ) (text : List ℕ) → are_alone last text ≡ true → are_alone last (drop n text) ≡ true
unfolding are_alone
skipped last zero text h = h
skipped last (suc n) [] h = h
skipped last (suc n) (b ∷ bs) h = skipped last n bs (second (is_alone last b bs) _ h)

within : (n m : ℕ) (p q : Bool) → n < m → (p || nat_lt n m || q) ≡ true
within n m p q h = grind (arith, nat_tests)

-- nothing is said of any
pub nothing_said : (last : ℕ) (text : List ℕ) → length text ≤ last → are_alone last text ≡ true
unfolding are_alone is_alone
nothing_said last [] h = refl
nothing_said last (b ∷ bs) h =
    both _ _ (within (length bs) last (not (b == 34)) (not (is_some (string_length false bs))) (omega (arith, h))) (nothing_said last bs (omega (arith, h)))

none_by : (n m : ℕ) (o : Option ℕ) → m ≤ n → (false || nat_lt n m || not (is_some o)) ≡ true → o ≡ None
none_by n m None h e = refl
none_by n m (Some k) h e = absurd (grind (arith, nat_tests))

-- what is said of a quote
pub alone : (last : ℕ) (bs : List ℕ) → are_alone last (34 ∷ bs) ≡ true → last ≤ length bs → string_length false bs ≡ None
unfolding are_alone is_alone
alone last bs h le = none_by (length bs) last (string_length false bs) le (first _ (are_alone last bs) h)

not_some : (n m : ℕ) (p : Bool) (o : Option ℕ) → o ≡ None → (p || nat_lt n m || not (is_some o)) ≡ true
not_some n m p o e = rw e (last_true p (nat_lt n m))
  where
    last_true : (p q : Bool) → (p || q || true) ≡ true
    last_true true q = refl
    last_true false true = refl
    last_true false false = refl

no_more : (o : Option ℕ) → option_map suc o ≡ None → o ≡ None
no_more None e = refl
no_more (Some n) e = absurd cc

on_by : (t : Bool) (o : Option ℕ) → cond t (Some 1) (option_map suc o) ≡ None → (t ≡ false) × (o ≡ None)
on_by true o h = absurd cc
on_by false o h = (refl, no_more o h)

-- what a string without end says of the byte at the front
string_on : (escaped : Bool) (b : ℕ) (bs : List ℕ) → (b == 10) ≡ false → string_length escaped (b ∷ bs) ≡ None
    → ((not escaped && b == 34) ≡ false) × (string_length (not escaped && b == 92) bs ≡ None)
unfolding string_length
string_on escaped b bs e h =
    on_by (not escaped && b == 34) (string_length (not escaped && b == 92) bs)
    (ap (λ (t : Bool). cond t None (cond (not escaped && b == 34) (Some 1) (option_map suc (string_length (not escaped && b == 92) bs)))) (sym e) ∙ h)

front_alone : (last : ℕ) (escaped : Bool) (b : ℕ) (bs : List ℕ) → (not escaped && b == 34) ≡ false → string_length (not escaped && b == 92) bs ≡ None → is_alone last b bs ≡ true
unfolding is_alone
front_alone last true b bs f h = not_some (length bs) last (not (b == 34)) (string_length false bs) h
front_alone last false b bs f h = rw f refl

line_by : (escaped : Bool) (b : ℕ) (bs : List ℕ) (t : Bool) → (b == 10) ≡ t
    → ((e : Bool) → string_length e bs ≡ None → are_alone (length (drop (run_length (λ c. not (is_line_feed c)) bs) bs)) bs ≡ true)
    → string_length escaped (b ∷ bs) ≡ None
    → are_alone (length (drop (cond (not t) (suc (run_length (λ c. not (is_line_feed c)) bs)) 0) (b ∷ bs))) (b ∷ bs) ≡ true
unfolding are_alone
line_by escaped b bs true e more h = nothing_said (suc (length bs)) (b ∷ bs) (omega arith)
line_by escaped b bs false e more h =
    let on = string_on escaped b bs e h in
    both _ _ (front_alone _ escaped b bs on.0 on.1) (more _ on.1)

-- behind a quote without a partner no quote on its line has one
pub alone_on_line : (escaped : Bool) (text : List ℕ) → string_length escaped text ≡ None
    → are_alone (length (drop (run_length (λ c. not (is_line_feed c)) text) text)) text ≡ true
unfolding are_alone run_length
alone_on_line escaped [] h = refl
alone_on_line escaped (b ∷ bs) h = line_by escaped b bs (b == 10) refl (λ e. alone_on_line e bs) h

-- what is said of what stands behind a byte, and behind some bytes of that
pub behind_byte : (last b : ℕ) (more : List ℕ) → are_alone last (b ∷ more) ≡ true → are_alone last more ≡ true
behind_byte last b more h = skipped last 1 (b ∷ more) h

pub behind_bytes : (last b : ℕ) (more rest : List ℕ) (n : ℕ) → are_alone last (b ∷ more) ≡ true → rest ≡ drop n more → are_alone last rest ≡ true
behind_bytes last b more rest n h e = subst (λ (r : List ℕ). are_alone last r ≡ true) (sym e) (skipped last n more (behind_byte last b more h))

pub behind_closed : (last b : ℕ) (more behind rest : List ℕ) (n m : ℕ) → are_alone last (b ∷ more) ≡ true → behind ≡ drop n more → rest ≡ drop m behind → are_alone last rest ≡ true
behind_closed last b more behind rest n m h e f = subst (λ (r : List ℕ). are_alone last r ≡ true) (sym f) (skipped last m behind (behind_bytes last b more behind n h e))

-- what stands behind a piece
rest_of_front : (bs rest : List ℕ) (p : Piece) (f : Front) → Some (p, rest) ≡ after bs f → (n : ℕ) × (rest ≡ drop n bs)
rest_of_front bs rest p None e = absurd cc
rest_of_front bs rest p (Some f) e = (f.1, ap (second_or rest) e)
  where
    second_or : List ℕ → Option (Piece × List ℕ) → List ℕ
    second_or d (Some x) = x.1
    second_or d None = d

pub behind_front : (last b : ℕ) (text more rest : List ℕ) (p : Piece) (f : Front) → are_alone last text ≡ true → text ≡ b ∷ more → Some (p, rest) ≡ after more f → are_alone last rest ≡ true
behind_front last b text more rest p f h e g =
    let n = rest_of_front more rest p f g in
    behind_bytes last b more rest n.0 (ap (are_alone last) (sym e) ∙ h) n.1

pub behind_run : (last b : ℕ) (text more rest : List ℕ) (n : ℕ) → are_alone last text ≡ true → text ≡ b ∷ more → rest ≡ drop n more → are_alone last rest ≡ true
behind_run last b text more rest n h e g = behind_bytes last b more rest n (ap (are_alone last) (sym e) ∙ h) g

pub behind_at_front : (last : ℕ) (text rest : List ℕ) (p : Piece) (f : ℕ → List ℕ → Front) → are_alone last text ≡ true → Some (p, rest) ≡ at_front f text → are_alone last rest ≡ true
behind_at_front last [] rest p f h e = absurd cc
behind_at_front last (b ∷ bs) rest p f h e = behind_front last b (b ∷ bs) bs rest p (f b bs) h refl e
