-- The longest mark at the front of a text is found by the number of characters.
use Rattle.std.proofs.Common.{◌≡◌, ℕ, suc, ◌-◌, ◌≤◌, Bool, true, false, List, [], ◌∷◌, ◌++◌, length, Option, Some, None, refl, sym, ap, ◌∙◌, arith, lt-ltb, le-ltb}
use Rattle.std.proofs.lemmas.Bool.{and_parts, leb-true, ltb-true, eqb-true}
use Rattle.std.specs.Prelude.{cond, ◌&&◌, ◌==◌, nat_lt, nat_le, IfSome}
use Rattle.verilog_text.specs.Token.{Mark, spelling_of, marks, mark}
use Rattle.verilog_text.specs.Lexical.{token, is_prefix, or_longer, longest_of, mark_front, mark_at}
use Rattle.v_lex.specs.View.{after, at_front}
use Rattle.v_lex.specs.Marks.{triples, doubles, singles, first_of, mark_of_three, mark_of_two, mark_of_one, or_shorter, mark_by_length}

abbrev size : Mark → ℕ
size m = length (spelling_of m)

false_right : (x : Bool) → (x && false) ≡ false
false_right true = refl
false_right false = refl

-- no mark is longer than the one before it
abbrev are_sorted : ℕ → List Mark → Bool
are_sorted n [] = true
are_sorted n (m ∷ ms) = nat_le (size m) n && are_sorted (size m) ms

not_longer : (m : Mark) (o : Option Mark) → IfSome o (λ k. size k ≤ size m) → or_longer m o ≡ m
not_longer m None h = refl
not_longer m (Some k) h = ap (λ (t : Bool). cond t k m) (le-ltb (size m) (size k) h)

smaller : (a b c : ℕ) → a ≤ b → b ≤ c → a ≤ c
smaller a b c h l = omega (arith, h, l)

weaker : (o : Option Mark) (m n : ℕ) → m ≤ n → IfSome o (λ k. size k ≤ m) → IfSome o (λ k. size k ≤ n)
weaker None m n l h = tt
weaker (Some k) m n l h = smaller (size k) m n h l

step : (t : Bool) (m : Mark) (n : ℕ) (l f : Option Mark) → l ≡ f → IfSome f (λ k. size k ≤ size m) → size m ≤ n
    → (cond t (Some (or_longer m l)) l ≡ cond t (Some m) f) × IfSome (cond t (Some m) f) (λ k. size k ≤ n)
step true m n l f e h s = (ap (λ (o : Option Mark). Some (or_longer m o)) e ∙ ap (λ (k : Mark). Some k) (not_longer m f h), s)
step false m n l f e h s = (e, weaker f (size m) n s h)

-- of sorted marks the first one is the longest
is_first : (n : ℕ) (ms : List Mark) (text : List ℕ) → are_sorted n ms ≡ true → (longest_of ms text ≡ first_of ms text) × IfSome (first_of ms text) (λ k. size k ≤ n)
unfolding longest_of
is_first n [] text s = (refl, tt)
is_first n (m ∷ ms) text s =
    let sorted = and_parts (nat_le (size m) n) (are_sorted (size m) ms) s in
    let later = is_first (size m) ms text sorted.1 in
    step (is_prefix (spelling_of m) text) m n (longest_of ms text) (first_of ms text) later.0 later.1 (leb-true (size m) n sorted.0)

abbrev or_other : Option Mark → Option Mark → Option Mark
or_other (Some m) o = Some m
or_other None o = o

other_first : (t : Bool) (m : Mark) (f g h : Option Mark) → h ≡ or_other f g → cond t (Some m) h ≡ or_other (cond t (Some m) f) g
other_first true m f g h e = refl
other_first false m f g h e = e

first_joined : (ms ns : List Mark) (text : List ℕ) → first_of (ms ++ ns) text ≡ or_other (first_of ms text) (first_of ns text)
first_joined [] ns text = refl
first_joined (m ∷ ms) ns text =
    other_first (is_prefix (spelling_of m) text) m (first_of ms text) (first_of ns text) (first_of (ms ++ ns) text) (first_joined ms ns text)

-- marks that are longer than the text
abbrev are_longer : ℕ → List Mark → Bool
are_longer n [] = true
are_longer n (m ∷ ms) = nat_lt n (size m) && are_longer n ms

too_long : (cs text : List ℕ) → nat_lt (length text) (length cs) ≡ true → is_prefix cs text ≡ false
too_long [] text l = absurd (none (length text) l)
  where
    none : (n : ℕ) → nat_lt n 0 ≡ true → ⊥
    none n e = let h = ltb-true n 0 e in omega (arith, h)
too_long (c ∷ cs) [] l = refl
too_long (c ∷ cs) (b ∷ bs) l = ap (λ (t : Bool). b == c && t) (too_long cs bs (shorter l)) ∙ false_right (b == c)
  where
    shorter : nat_lt (suc (length bs)) (suc (length cs)) ≡ true → nat_lt (length bs) (length cs) ≡ true
    shorter e = let h = ltb-true (suc (length bs)) (suc (length cs)) e in lt-ltb (length bs) (length cs) (omega (arith, h))

none_fits : (ms : List Mark) (text : List ℕ) → are_longer (length text) ms ≡ true → first_of ms text ≡ None
none_fits [] text l = refl
none_fits (m ∷ ms) text l =
    let longer = and_parts (nat_lt (length text) (size m)) (are_longer (length text) ms) l in
    ap (λ (t : Bool). cond t (Some m) (first_of ms text)) (too_long (spelling_of m) text longer.0) ∙ none_fits ms text longer.1

-- marks of one length
abbrev are_of_size : ℕ → List Mark → Bool
are_of_size n [] = true
are_of_size n (m ∷ ms) = size m == suc n && are_of_size n ms

fronted : (t : Bool) (m : Mark) (n : ℕ) (f g : Option Mark) → size m ≡ suc n → mark_front (or_other f g) ≡ or_shorter f n (mark_front g)
    → mark_front (or_other (cond t (Some m) f) g) ≡ or_shorter (cond t (Some m) f) n (mark_front g)
fronted true m n f g s e = ap (λ (k : ℕ). Some (token (mark m), k)) (one_less (size m) s)
  where
    one_less : (k : ℕ) → k ≡ suc n → k - 1 ≡ n
    one_less k h = omega (arith, h)
fronted false m n f g s e = e

front_of_size : (n : ℕ) (ms : List Mark) (text : List ℕ) (g : Option Mark) → are_of_size n ms ≡ true → mark_front (or_other (first_of ms text) g) ≡ or_shorter (first_of ms text) n (mark_front g)
front_of_size n [] text g s = refl
front_of_size n (m ∷ ms) text g s =
    let sized = and_parts (size m == suc n) (are_of_size n ms) s in
    fronted (is_prefix (spelling_of m) text) m n (first_of ms text) g (eqb-true (size m) (suc n) sized.0) (front_of_size n ms text g sized.1)

in_three : (text : List ℕ) → mark_front (longest_of marks text) ≡ or_shorter (first_of triples text) 2 (or_shorter (first_of doubles text) 1 (or_shorter (first_of singles text) 0 None))
unfolding marks
in_three text =
    ap mark_front ((is_first 3 marks text refl).0 ∙ first_joined triples (doubles ++ singles) text ∙ ap (or_other (first_of triples text)) (first_joined doubles singles text))
    ∙ front_of_size 2 triples text (or_other (first_of doubles text) (first_of singles text)) refl
    ∙ ap (or_shorter (first_of triples text) 2) (front_of_size 1 doubles text (first_of singles text) refl ∙ ap (or_shorter (first_of doubles text) 1) (in_one text))
  where
    or_none : (o : Option Mark) → or_other o None ≡ o
    or_none (Some m) = refl
    or_none None = refl

    in_one : (q : List ℕ) → mark_front (first_of singles q) ≡ or_shorter (first_of singles q) 0 None
    in_one q = ap mark_front (sym (or_none (first_of singles q))) ∙ front_of_size 0 singles q None refl

pub by_length : (b : ℕ) (bs : List ℕ) → mark_at b bs ≡ mark_by_length b bs
unfolding mark_at mark_by_length mark_of_one mark_of_two mark_of_three
by_length b [] =
    in_three (b ∷ []) ∙ ap (λ (o : Option Mark). or_shorter o 2 (or_shorter (first_of doubles (b ∷ [])) 1 (or_shorter (mark_of_one b) 0 None))) (none_fits triples (b ∷ []) refl)
    ∙ ap (λ (o : Option Mark). or_shorter o 1 (or_shorter (mark_of_one b) 0 None)) (none_fits doubles (b ∷ []) refl)
by_length b (c ∷ []) =
    in_three (b ∷ c ∷ []) ∙ ap (λ (o : Option Mark). or_shorter o 2 (or_shorter (mark_of_two b c) 1 (or_shorter (mark_of_one b) 0 None))) (none_fits triples (b ∷ c ∷ []) refl)
by_length b (c ∷ d ∷ bs) = in_three (b ∷ c ∷ d ∷ bs)

pub front_by_length : (text : List ℕ) → at_front mark_by_length text ≡ at_front mark_at text
front_by_length [] = refl
front_by_length (b ∷ bs) = ap (after bs) (sym (by_length b bs))
