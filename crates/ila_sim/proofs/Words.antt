-- The first word and the first line of a text.
use Rattle.std.proofs.Common.{◌≡◌, ℕ, zero, suc, ◌<◌, ◌≤◌, ◌-◌, List, [], ◌∷◌, length, take, drop, get_or, true, false, cond, Bool, arith, refl, ap, sym, ◌∙◌, ◌≢◌, ◌&&◌}
use Rattle.std.proofs.lemmas.Bool.{false≢true}
use Rattle.std.proofs.lemmas.Bool.Decides.{nat_tests}
use Rattle.std.specs.Prelude.{◌==◌}
use Rattle.std.proofs.lemmas.List.{take_all, length-drop}
use Rattle.scripts.specs.Script.{is_space_or_tab, is_return, is_line_end, words_of, lines_of, without_returns, pieces_at, with_byte, without_empty}
use Rattle.ila_sim.specs.Cuts.{length_before, after_blanks, without_last_return}

words_front : (b : ℕ) (bs : List ℕ) (t : Bool) → is_space_or_tab b ≡ t → words_of bs ≡ words_of (after_blanks bs) → words_of (b ∷ bs) ≡ words_of (cond t (after_blanks bs) (b ∷ bs))
words_front b bs true e h = rw e h
words_front b bs false e h = refl

pub after_words : (xs : List ℕ) → words_of xs ≡ words_of (after_blanks xs)
unfolding after_blanks
after_words [] = refl
after_words (b ∷ bs) = words_front b bs (is_space_or_tab b) refl (after_words bs)

pub after_shorter : (xs : List ℕ) → length (after_blanks xs) ≤ length xs
unfolding after_blanks
after_shorter [] = omega arith
after_shorter (b ∷ bs) = shown (is_space_or_tab b) (after_shorter bs) where
  shown : (t : Bool) → length (after_blanks bs) ≤ length bs → length (cond t (after_blanks bs) (b ∷ bs)) ≤ suc (length bs)
  shown true h = omega arith
  shown false h = omega arith

-- what does not begin with a blank
pub after_front : (xs : List ℕ) (b : ℕ) (bs : List ℕ) → after_blanks xs ≡ b ∷ bs → is_space_or_tab b ≡ false
unfolding after_blanks
after_front [] b bs e = cc
after_front (x ∷ xs) b bs e = shown (is_space_or_tab x) refl e (after_front xs b bs) where
  shown : (t : Bool) → is_space_or_tab x ≡ t → cond t (after_blanks xs) (x ∷ xs) ≡ b ∷ bs → (after_blanks xs ≡ b ∷ bs → is_space_or_tab b ≡ false) → is_space_or_tab b ≡ false
  shown true k h f = f h
  shown false k h f = let same : x ≡ b = cc in rw (sym same) k

pieces_behind : (ℕ → Bool) → List ℕ → List (List ℕ)
pieces_behind p [] = []
pieces_behind p (b ∷ bs) = pieces_at p bs

front_piece : (p : ℕ → Bool) (b : ℕ) (bs : List ℕ) (t : Bool) → p b ≡ t → pieces_at p bs ≡ take (length_before p bs) bs ∷ pieces_behind p (drop (length_before p bs) bs)
    → pieces_at p (b ∷ bs) ≡ take (cond t 0 (suc (length_before p bs))) (b ∷ bs) ∷ pieces_behind p (drop (cond t 0 (suc (length_before p bs))) (b ∷ bs))
unfolding length_before pieces_behind
front_piece p b bs true e h = rw e refl
front_piece p b bs false e h = rw e (ap (with_byte b) h)

first_piece : (p : ℕ → Bool) (xs : List ℕ) → pieces_at p xs ≡ take (length_before p xs) xs ∷ pieces_behind p (drop (length_before p xs) xs)
unfolding length_before pieces_behind
first_piece p [] = refl
first_piece p (b ∷ bs) = front_piece p b bs (p b) refl (first_piece p bs)

rest_front : (b : ℕ) (bs : List ℕ) (t : Bool) → is_space_or_tab b ≡ t
    → words_of (drop (length_before is_space_or_tab bs) bs) ≡ without_empty (pieces_behind is_space_or_tab (drop (length_before is_space_or_tab bs) bs))
    → words_of (drop (cond t 0 (suc (length_before is_space_or_tab bs))) (b ∷ bs)) ≡ without_empty (pieces_behind is_space_or_tab (drop (cond t 0 (suc (length_before is_space_or_tab bs))) (b ∷ bs)))
unfolding length_before pieces_behind
rest_front b bs true e h = rw e refl
rest_front b bs false e h = h

rest_words : (xs : List ℕ) → words_of (drop (length_before is_space_or_tab xs) xs) ≡ without_empty (pieces_behind is_space_or_tab (drop (length_before is_space_or_tab xs) xs))
unfolding length_before pieces_behind
rest_words [] = refl
rest_words (b ∷ bs) = rest_front b bs (is_space_or_tab b) refl (rest_words bs)

filled : (n b : ℕ) (bs : List ℕ) (ps : List (List ℕ)) → n ≡ suc (length_before is_space_or_tab bs) → without_empty (take n (b ∷ bs) ∷ ps) ≡ take n (b ∷ bs) ∷ without_empty ps
filled n b bs ps e = rw e refl

front_length : (b : ℕ) (bs : List ℕ) → is_space_or_tab b ≡ false → length_before is_space_or_tab (b ∷ bs) ≡ suc (length_before is_space_or_tab bs)
unfolding length_before
front_length b bs e = ap (λ t. cond t 0 (suc (length_before is_space_or_tab bs))) e

first_word : (b : ℕ) (bs : List ℕ) → is_space_or_tab b ≡ false
    → words_of (b ∷ bs) ≡ take (length_before is_space_or_tab (b ∷ bs)) (b ∷ bs) ∷ words_of (drop (length_before is_space_or_tab (b ∷ bs)) (b ∷ bs))
first_word b bs e =
    let n : ℕ = length_before is_space_or_tab (b ∷ bs) in
    ap without_empty (first_piece is_space_or_tab (b ∷ bs))
    ∙ (filled n b bs (pieces_behind is_space_or_tab (drop n (b ∷ bs))) (front_length b bs e)
    ∙ ap (λ ws. take n (b ∷ bs) ∷ ws) (sym (rest_words (b ∷ bs))))

-- the first word of a line, and those behind it
pub next_words : (line xs : List ℕ) → xs ≡ after_blanks line → 1 ≤ length xs
    → words_of line ≡ take (length_before is_space_or_tab xs) xs ∷ words_of (drop (length_before is_space_or_tab xs) xs)
next_words line [] e h = absurd (omega arith)
next_words line (b ∷ bs) e h = (after_words line ∙ ap words_of (sym e)) ∙ first_word b bs (after_front line b bs (sym e))

pub no_words : (line xs : List ℕ) → xs ≡ after_blanks line → xs ≡ [] → words_of line ≡ []
no_words line xs e h = (after_words line ∙ ap words_of (sym e)) ∙ ap words_of h

pub word_is_long : (line xs : List ℕ) → xs ≡ after_blanks line → 1 ≤ length xs → 1 ≤ length_before is_space_or_tab xs
word_is_long line [] e h = absurd (omega arith)
word_is_long line (b ∷ bs) e h = rw (front_length b bs (after_front line b bs (sym e))) (omega arith)

pub before_within : (p : ℕ → Bool) (xs : List ℕ) → length_before p xs ≤ length xs
unfolding length_before
before_within p [] = omega arith
before_within p (b ∷ bs) = shown (p b) (before_within p bs) where
  shown : (t : Bool) → length_before p bs ≤ length bs → cond t 0 (suc (length_before p bs)) ≤ suc (length bs)
  shown true h = omega arith
  shown false h = omega arith

-- ---- lines

is_feed-return : (b : ℕ) → is_line_end b ≡ true → is_return b ≡ false
is_feed-return b e = grind (arith, nat_tests)

feed_first : (b : ℕ) (rest : List ℕ) → is_line_end b ≡ true → without_returns (b ∷ rest) ≡ b ∷ without_returns rest
feed_first b [] e = refl
feed_first b (c ∷ cs) e = rw (is_feed-return b e) refl

kept_first : (a b : ℕ) (rest : List ℕ) → is_line_end b ≡ false → without_returns (a ∷ b ∷ rest) ≡ a ∷ without_returns (b ∷ rest)
kept_first a b rest e = shown (is_return a) where
  shown : (t : Bool) → cond (t && is_line_end b) (without_returns (b ∷ rest)) (a ∷ without_returns (b ∷ rest)) ≡ a ∷ without_returns (b ∷ rest)
  shown true = rw e refl
  shown false = refl

-- a text with no further line
pub one_line : (text : List ℕ) → length_before is_line_end text ≡ length text → lines_of text ≡ text ∷ []
unfolding length_before
one_line [] e = refl
one_line (a ∷ []) e = shown (is_line_end a) refl e where
  shown : (t : Bool) → is_line_end a ≡ t → ◌≡◌ {A = ℕ} (cond t 0 1) 1 → lines_of (a ∷ []) ≡ (a ∷ []) ∷ []
  shown true k h = absurd (omega (arith, h))
  shown false k h = rw k refl
one_line (a ∷ b ∷ rest) e = shown (is_line_end a) (is_line_end b) refl refl e (one_line (b ∷ rest)) where
  shown : (t u : Bool) → is_line_end a ≡ t → is_line_end b ≡ u → cond t 0 (suc (cond u 0 (suc (length_before is_line_end rest)))) ≡ suc (suc (length rest))
      → (cond u 0 (suc (length_before is_line_end rest)) ≡ suc (length rest) → lines_of (b ∷ rest) ≡ (b ∷ rest) ∷ []) → lines_of (a ∷ b ∷ rest) ≡ (a ∷ b ∷ rest) ∷ []
  shown true u j k h f = absurd (omega (arith, h))
  shown false true j k h f = absurd (omega (arith, h))
  shown false false j k h f =
      ap (pieces_at is_line_end) (kept_first a b rest k)
      ∙ (ap (λ t. cond t ([] ∷ lines_of (b ∷ rest)) (with_byte a (lines_of (b ∷ rest)))) j
      ∙ ap (with_byte a) (f (omega (arith, h))))

-- the first line of a text that has a further one
pub further_line : (text : List ℕ) (n : ℕ) → n ≡ length_before is_line_end text → n < length text
    → lines_of text ≡ without_last_return (take n text) ∷ lines_of (drop (suc n) text)
unfolding length_before without_last_return
further_line [] n e h = absurd (omega (arith, h))
further_line (a ∷ []) n e h = shown (is_line_end a) refl e where
  shown : (t : Bool) → is_line_end a ≡ t → ◌≡◌ {A = ℕ} n (cond t 0 1) → lines_of (a ∷ []) ≡ without_last_return (take n (a ∷ [])) ∷ lines_of (drop (suc n) (a ∷ []))
  shown true k g = rw (g, k) refl
  shown false k g = absurd (omega (arith, g, h))
further_line (a ∷ b ∷ rest) n e h = shown (is_line_end a) (is_line_end b) refl refl e (further_line (b ∷ rest)) where
  shown : (t u : Bool) → is_line_end a ≡ t → is_line_end b ≡ u → n ≡ cond t 0 (suc (cond u 0 (suc (length_before is_line_end rest))))
      → ((k : ℕ) → k ≡ cond u 0 (suc (length_before is_line_end rest)) → k < suc (length rest) → lines_of (b ∷ rest) ≡ without_last_return (take k (b ∷ rest)) ∷ lines_of (drop (suc k) (b ∷ rest)))
      → lines_of (a ∷ b ∷ rest) ≡ without_last_return (take n (a ∷ b ∷ rest)) ∷ lines_of (drop (suc n) (a ∷ b ∷ rest))
  shown true u j k g f = rw (g, ap (pieces_at is_line_end) (feed_first a (b ∷ rest) j), j) refl
  shown false true j k g f = rw g (ends (is_return a) refl) where
    ends : (r : Bool) → is_return a ≡ r → lines_of (a ∷ b ∷ rest) ≡ cond (is_return a) [] (a ∷ []) ∷ lines_of rest
    ends true m = rw (m, k, ap (pieces_at is_line_end) (feed_first b rest k), k) refl
    ends false m = rw (m, j, ap (pieces_at is_line_end) (feed_first b rest k), k) refl
  shown false false j k g f =
      let m : ℕ = length_before is_line_end rest in
      let l : n ≡ suc (suc m) = g in
      rw l (ap (pieces_at is_line_end) (kept_first a b rest k)
      ∙ (ap (λ t. cond t ([] ∷ lines_of (b ∷ rest)) (with_byte a (lines_of (b ∷ rest)))) j
      ∙ ap (with_byte a) (f (suc m) refl (omega (arith, h, l)))))

-- a line's last byte
pub return_last : (line : List ℕ) (k d : ℕ) → suc k ≡ length line → get_or line k d ≡ 13 → without_last_return line ≡ take k line
unfolding without_last_return
return_last [] k d h e = absurd (omega (arith, h))
return_last (b ∷ []) zero d h e = rw e refl
return_last (b ∷ []) (suc k) d h e = absurd (omega (arith, h))
return_last (a ∷ b ∷ bs) zero d h e = absurd (omega (arith, h))
return_last (a ∷ b ∷ bs) (suc k) d h e = ap (λ xs. a ∷ xs) (return_last (b ∷ bs) k d (omega (arith, h)) e)

no_return : (x : ℕ) → x ≢ 13 → is_return x ≡ false
no_return x h = grind (arith, nat_tests)

pub other_last : (line : List ℕ) (k d : ℕ) → suc k ≡ length line → get_or line k d ≢ 13 → without_last_return line ≡ line
unfolding without_last_return
other_last [] k d h e = refl
other_last (b ∷ []) zero d h e = ap (λ t. cond t [] (b ∷ [])) (no_return b e)
other_last (b ∷ []) (suc k) d h e = absurd (omega (arith, h))
other_last (a ∷ b ∷ bs) zero d h e = absurd (omega (arith, h))
other_last (a ∷ b ∷ bs) (suc k) d h e = ap (λ xs. a ∷ xs) (other_last (b ∷ bs) k d (omega (arith, h)) e)

is_some_count : (n : ℕ) → (suc n == 0) ≡ false
is_some_count n = grind (arith, nat_tests)

pub is_empty : (xs : List ℕ) (t : Bool) → t ≡ (length xs == 0) → t ≡ true → xs ≡ []
is_empty [] t e h = refl
is_empty (x ∷ xs) t e h = absurd (false≢true (sym (e ∙ is_some_count (length xs)) ∙ h))

pub is_full : (xs : List ℕ) (t : Bool) → t ≡ (length xs == 0) → t ≡ false → 1 ≤ length xs
is_full [] t e h = absurd (false≢true (sym h ∙ e))
is_full (x ∷ xs) t e h = omega arith

pub empty_line : (xs : List ℕ) → xs ≡ [] → xs ≡ without_last_return xs
unfolding without_last_return
empty_line [] e = refl
empty_line (x ∷ xs) e = cc

pub from_there : (xs : List ℕ) (k : ℕ) → take (length xs - k) (drop k xs) ≡ drop k xs
from_there xs k = take_all (length xs - k) (drop k xs) (omega (arith, length-drop k xs))

pub rest_shorter : (line xs : List ℕ) → xs ≡ after_blanks line → 1 ≤ length xs → length (drop (length_before is_space_or_tab xs) xs) < length line
rest_shorter line xs e h =
    let long : 1 ≤ length_before is_space_or_tab xs = word_is_long line xs e h in
    let most : length (after_blanks line) ≤ length line = after_shorter line in
    let same : length xs ≡ length (after_blanks line) = ap length e in
    omega (arith, long, most, same, h, length-drop (length_before is_space_or_tab xs) xs)
