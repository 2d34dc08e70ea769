-- The numbers that lists of bits and chains of cells give.
use Rattle.std.proofs.Common.{◌≡◌, ◌∙◌, ℕ, zero, suc, ◌+◌, ◌-◌, ◌*◌, ◌/◌, ◌%◌, ◌^◌, ◌<◌, ◌≤◌, Bool, true, false, not, cond, ◌&&◌, ◌||◌, List, [], ◌∷◌, ◌++◌, length, take, drop, replicate, get_or, bit_and, bit_or, bit_xor, eqb, ltb, arith, refl, sym, ap, subst, inl, inr}
use Rattle.std.specs.Prelude.{nat_le}
use Rattle.std.proofs.Math.Nat.{pow-succ'}
use Rattle.std.proofs.lemmas.Nat.{and_block, or_block, xor_block, mod-mul-add, shr_high, mod_low, pow_below, pow-add}
use Rattle.std.proofs.lemmas.Bool.{cases_eq, eq-eqb, ne_eqb, cases_lt, lt-ltb, le-ltb, le-leb, lt-leb}
use Rattle.std.proofs.lemmas.List.{take-append-drop, length-take-le, drop_all, take_all, take_more, nil_from_length}
use Rattle.wb_values.specs.Number.{top_bit}
use Rattle.gate_base.specs.Circuit.{exactly_one}
use Rattle.gate_words.specs.declared.chains.Cell.{Cell}
use Rattle.gate_words.specs.declared.chains.Cell.TheVariants.{Not, And, Or, Xor, Choose, Sum, Difference, Same, Below}
use Rattle.gate_words.specs.Binary.{digit, number_of}
use Rattle.gate_words.specs.Cells.{cell_output, cell_carry, outputs, last_carry}

pub digit_below : (b : Bool) → digit b < 2
digit_below true = omega arith
digit_below false = omega arith

pub number_below : (bs : List Bool) → number_of bs < 2 ^ length bs
number_below [] = omega arith
number_below (b ∷ bs) = omega (arith, pow-succ' 2 (length bs), number_below bs, digit_below b)

pub length-outputs : (k : Cell) (c : Bool) (xs ys : List Bool) → length xs ≡ length ys → length (outputs k c xs ys) ≡ length xs
length-outputs k c [] [] e = refl
length-outputs k c [] (y ∷ ys) e = refl
length-outputs k c (x ∷ xs) [] e = absurd (omega (arith, e))
length-outputs k c (x ∷ xs) (y ∷ ys) e = ap suc (length-outputs k (cell_carry k x y c) xs ys (omega (arith, e)))

-- bit by bit
and_digits : (x y : Bool) → bit_and (digit x) (digit y) ≡ digit (x && y)
and_digits true true = refl
and_digits true false = refl
and_digits false true = refl
and_digits false false = refl

or_digits : (x y : Bool) → bit_or (digit x) (digit y) ≡ digit (x || y)
or_digits true true = refl
or_digits true false = refl
or_digits false true = refl
or_digits false false = refl

xor_digits : (x y : Bool) → bit_xor (digit x) (digit y) ≡ digit (exactly_one x y)
xor_digits true true = refl
xor_digits true false = refl
xor_digits false true = refl
xor_digits false false = refl

pub number-and : (c : Bool) (xs ys : List Bool) → length xs ≡ length ys → number_of (outputs And c xs ys) ≡ bit_and (number_of xs) (number_of ys)
number-and c [] [] e = refl
number-and c [] (y ∷ ys) e = absurd (omega (arith, e))
number-and c (x ∷ xs) [] e = absurd (omega (arith, e))
number-and c (x ∷ xs) (y ∷ ys) e =
    ap (λ n. n * 2 + digit (x && y)) (number-and c xs ys (omega (arith, e)))
    ∙ (ap (λ n. bit_and (number_of xs) (number_of ys) * 2 + n) (sym (and_digits x y)) ∙ sym (and_block 1 (number_of xs) (number_of ys) (digit x) (digit y) (digit_below x) (digit_below y)))

pub number-or : (c : Bool) (xs ys : List Bool) → length xs ≡ length ys → number_of (outputs Or c xs ys) ≡ bit_or (number_of xs) (number_of ys)
number-or c [] [] e = refl
number-or c [] (y ∷ ys) e = absurd (omega (arith, e))
number-or c (x ∷ xs) [] e = absurd (omega (arith, e))
number-or c (x ∷ xs) (y ∷ ys) e =
    ap (λ n. n * 2 + digit (x || y)) (number-or c xs ys (omega (arith, e)))
    ∙ (ap (λ n. bit_or (number_of xs) (number_of ys) * 2 + n) (sym (or_digits x y)) ∙ sym (or_block 1 (number_of xs) (number_of ys) (digit x) (digit y) (digit_below x) (digit_below y)))

pub number-xor : (c : Bool) (xs ys : List Bool) → length xs ≡ length ys → number_of (outputs Xor c xs ys) ≡ bit_xor (number_of xs) (number_of ys)
number-xor c [] [] e = refl
number-xor c [] (y ∷ ys) e = absurd (omega (arith, e))
number-xor c (x ∷ xs) [] e = absurd (omega (arith, e))
number-xor c (x ∷ xs) (y ∷ ys) e =
    ap (λ n. n * 2 + digit (exactly_one x y)) (number-xor c xs ys (omega (arith, e)))
    ∙ (ap (λ n. bit_xor (number_of xs) (number_of ys) * 2 + n) (sym (xor_digits x y)) ∙ sym (xor_block 1 (number_of xs) (number_of ys) (digit x) (digit y) (digit_below x) (digit_below y)))

not_digit : (x : Bool) → digit (not x) + digit x ≡ 1
not_digit true = refl
not_digit false = refl

not_sum : (c : Bool) (xs ys : List Bool) → length xs ≡ length ys → number_of (outputs Not c xs ys) + number_of xs + 1 ≡ 2 ^ length xs
not_sum c [] [] e = refl
not_sum c [] (y ∷ ys) e = absurd (omega (arith, e))
not_sum c (x ∷ xs) [] e = absurd (omega (arith, e))
not_sum c (x ∷ xs) (y ∷ ys) e = omega (arith, pow-succ' 2 (length xs), not_digit x, not_sum c xs ys (omega (arith, e)))

pub number-not : (c : Bool) (xs ys : List Bool) → length xs ≡ length ys → number_of (outputs Not c xs ys) ≡ 2 ^ length xs - 1 - number_of xs
number-not c xs ys e = omega (arith, not_sum c xs ys e)

pub choose_all : (c : Bool) (xs ys : List Bool) → length xs ≡ length ys → outputs Choose c xs ys ≡ cond c xs ys
choose_all true [] [] e = refl
choose_all false [] [] e = refl
choose_all c [] (y ∷ ys) e = absurd (omega (arith, e))
choose_all c (x ∷ xs) [] e = absurd (omega (arith, e))
choose_all true (x ∷ xs) (y ∷ ys) e = ap (λ bs. x ∷ bs) (choose_all true xs ys (omega (arith, e)))
choose_all false (x ∷ xs) (y ∷ ys) e = ap (λ bs. y ∷ bs) (choose_all false xs ys (omega (arith, e)))

-- sums, with the last carry above the top bit
sum_digits : (x y c : Bool) → digit (cell_output Sum x y c) + 2 * digit (cell_carry Sum x y c) ≡ digit x + digit y + digit c
sum_digits true true true = refl
sum_digits true true false = refl
sum_digits true false true = refl
sum_digits true false false = refl
sum_digits false true true = refl
sum_digits false true false = refl
sum_digits false false true = refl
sum_digits false false false = refl

-- a product with twice a power, as a sum that `omega` reads
twice_over : (p q d : ℕ) → q ≡ 2 * p → d * q ≡ 2 * (d * p)
twice_over p q d e = ap (λ n. d * n) e ∙ (grind arith)

sum_of : (c : Bool) (xs ys : List Bool) → length xs ≡ length ys
    → digit (last_carry Sum c xs ys) * 2 ^ length xs + number_of (outputs Sum c xs ys) ≡ number_of xs + number_of ys + digit c
sum_of c [] [] e = omega arith
sum_of c [] (y ∷ ys) e = absurd (omega (arith, e))
sum_of c (x ∷ xs) [] e = absurd (omega (arith, e))
sum_of c (x ∷ xs) (y ∷ ys) e =
    omega (
      arith,
      twice_over (2 ^ length xs) (2 ^ suc (length xs)) (digit (last_carry Sum (cell_carry Sum x y c) xs ys)) (pow-succ' 2 (length xs)),
      sum_digits x y c,
      sum_of (cell_carry Sum x y c) xs ys (omega (arith, e)),
    )

pub number-sum : (c : Bool) (xs ys : List Bool) → length xs ≡ length ys → number_of (outputs Sum c xs ys) ≡ (number_of xs + number_of ys + digit c) % 2 ^ length xs
number-sum c xs ys e =
    sym (mod-mul-add (digit (last_carry Sum c xs ys)) (2 ^ length xs) (number_of (outputs Sum c xs ys))
    (subst (λ n. number_of (outputs Sum c xs ys) < 2 ^ n) (length-outputs Sum c xs ys e) (number_below (outputs Sum c xs ys))))
    ∙ ap (λ n. n % 2 ^ length xs) (sum_of c xs ys e)

difference_digits : (x y c : Bool) → digit (cell_output Difference x y c) + 2 * digit (cell_carry Difference x y c) + digit y ≡ digit x + 1 + digit c
difference_digits true true true = refl
difference_digits true true false = refl
difference_digits true false true = refl
difference_digits true false false = refl
difference_digits false true true = refl
difference_digits false true false = refl
difference_digits false false true = refl
difference_digits false false false = refl

difference_of : (c : Bool) (xs ys : List Bool) → length xs ≡ length ys
    → digit (last_carry Difference c xs ys) * 2 ^ length xs + number_of (outputs Difference c xs ys) + number_of ys + 1 ≡ number_of xs + 2 ^ length xs + digit c
difference_of c [] [] e = omega arith
difference_of c [] (y ∷ ys) e = absurd (omega (arith, e))
difference_of c (x ∷ xs) [] e = absurd (omega (arith, e))
difference_of c (x ∷ xs) (y ∷ ys) e =
    omega (
      arith,
      pow-succ' 2 (length xs),
      twice_over (2 ^ length xs) (2 ^ suc (length xs)) (digit (last_carry Difference (cell_carry Difference x y c) xs ys)) (pow-succ' 2 (length xs)),
      difference_digits x y c,
      difference_of (cell_carry Difference x y c) xs ys (omega (arith, e)),
    )

pub number-difference : (xs ys : List Bool) → length xs ≡ length ys → number_of (outputs Difference true xs ys) ≡ (number_of xs + (2 ^ length xs - number_of ys)) % 2 ^ length xs
number-difference xs ys e =
    let below : number_of ys < 2 ^ length xs = subst (λ n. number_of ys < 2 ^ n) (sym e) (number_below ys) in
    sym (mod-mul-add (digit (last_carry Difference true xs ys)) (2 ^ length xs) (number_of (outputs Difference true xs ys))
    (subst (λ n. number_of (outputs Difference true xs ys) < 2 ^ n) (length-outputs Difference true xs ys e) (number_below (outputs Difference true xs ys))))
    ∙ ap (λ n. n % 2 ^ length xs) (omega (arith, below, difference_of true xs ys e))

-- comparisons
pub same_tests : (a b c d : ℕ) → (a < b → c < d) → (c < d → a < b) → ltb a b ≡ ltb c d
same_tests a b c d f g = elim (cases_lt a b) [
  | inl h ↦ lt-ltb a b h ∙ sym (lt-ltb c d (f h))
  | inr h ↦ le-ltb a b h ∙ sym (le-ltb c d (elim (cases_lt c d) [ inl k ↦ absurd (omega (arith, h, g k)) | inr k ↦ k ]))
]

below_digits : (a b : ℕ) (x y c : Bool) → ltb a (b + digit (cell_carry Below x y c)) ≡ ltb (a * 2 + digit x) (b * 2 + digit y + digit c)
below_digits a b true true true = same_tests _ _ _ _ (λ h. omega (arith, h)) (λ h. omega (arith, h))
below_digits a b true true false = same_tests _ _ _ _ (λ h. omega (arith, h)) (λ h. omega (arith, h))
below_digits a b true false true = same_tests _ _ _ _ (λ h. omega (arith, h)) (λ h. omega (arith, h))
below_digits a b true false false = same_tests _ _ _ _ (λ h. omega (arith, h)) (λ h. omega (arith, h))
below_digits a b false true true = same_tests _ _ _ _ (λ h. omega (arith, h)) (λ h. omega (arith, h))
below_digits a b false true false = same_tests _ _ _ _ (λ h. omega (arith, h)) (λ h. omega (arith, h))
below_digits a b false false true = same_tests _ _ _ _ (λ h. omega (arith, h)) (λ h. omega (arith, h))
below_digits a b false false false = same_tests _ _ _ _ (λ h. omega (arith, h)) (λ h. omega (arith, h))

pub last-below : (c : Bool) (xs ys : List Bool) → length xs ≡ length ys → last_carry Below c xs ys ≡ ltb (number_of xs) (number_of ys + digit c)
last-below true [] [] e = refl
last-below false [] [] e = refl
last-below c [] (y ∷ ys) e = absurd (omega (arith, e))
last-below c (x ∷ xs) [] e = absurd (omega (arith, e))
last-below c (x ∷ xs) (y ∷ ys) e = last-below (cell_carry Below x y c) xs ys (omega (arith, e)) ∙ below_digits (number_of xs) (number_of ys) x y c

eqb_cases : (a b c d : ℕ) → (a ≡ b → c ≡ d) → (c ≡ d → a ≡ b) → eqb a b ≡ eqb c d
eqb_cases a b c d f g = elim (cases_eq a b) [
  | inl h ↦ eq-eqb a b h ∙ sym (eq-eqb c d (f h))
  | inr h ↦ ne_eqb a b h ∙ sym (ne_eqb c d (λ k. h (g k)))
]

same_digits : (a b : ℕ) (x y : Bool) → (not (exactly_one x y) && eqb a b) ≡ eqb (a * 2 + digit x) (b * 2 + digit y)
same_digits a b true true = eqb_cases _ _ _ _ (λ h. omega (arith, h)) (λ h. omega (arith, h))
same_digits a b true false = sym (ne_eqb _ _ (λ h. omega (arith, h)))
same_digits a b false true = sym (ne_eqb _ _ (λ h. omega (arith, h)))
same_digits a b false false = eqb_cases _ _ _ _ (λ h. omega (arith, h)) (λ h. omega (arith, h))

and_moved : (c d e : Bool) → ((c && d) && e) ≡ (c && (d && e))
and_moved true d e = refl
and_moved false d e = refl

pub last-same : (c : Bool) (xs ys : List Bool) → length xs ≡ length ys → last_carry Same c xs ys ≡ (c && eqb (number_of xs) (number_of ys))
last-same true [] [] e = refl
last-same false [] [] e = refl
last-same c [] (y ∷ ys) e = absurd (omega (arith, e))
last-same c (x ∷ xs) [] e = absurd (omega (arith, e))
last-same c (x ∷ xs) (y ∷ ys) e =
    last-same (cell_carry Same x y c) xs ys (omega (arith, e))
    ∙ (and_moved c (not (exactly_one x y)) (eqb (number_of xs) (number_of ys)) ∙ ap (λ t. c && t) (same_digits (number_of xs) (number_of ys) x y))

-- joins and parts
pub number-append : (xs ys : List Bool) → number_of (xs ++ ys) ≡ number_of ys * 2 ^ length xs + number_of xs
number-append [] ys = omega arith
number-append (x ∷ xs) ys =
    omega (arith, number-append xs ys, twice_over (2 ^ length xs) (2 ^ suc (length xs)) (number_of ys) (pow-succ' 2 (length xs)))

pub number-drop : (n : ℕ) (bs : List Bool) → number_of (drop n bs) ≡ number_of bs / 2 ^ n
number-drop n bs = elim (cases_lt (length bs) n) [
  | inl h ↦
      let small : number_of bs < 2 ^ n = omega (arith, number_below bs, pow_below (length bs) n h) in
      ap number_of (drop_all n bs (omega (arith, h))) ∙ (sym (shr_high 0 n (number_of bs) small) ∙ ap (λ k. k / 2 ^ n) (let z : 0 * 2 ^ n + number_of bs ≡ number_of bs = omega arith in z))
  | inr h ↦
      let front = length-take-le n bs h in
      let low : number_of (take n bs) < 2 ^ n = subst (λ k. number_of (take n bs) < 2 ^ k) front (number_below (take n bs)) in
      sym (shr_high (number_of (drop n bs)) n (number_of (take n bs)) low)
      ∙ ap (λ k. k / 2 ^ n) (ap (λ k. number_of (drop n bs) * 2 ^ k + number_of (take n bs)) (sym front) ∙ (sym (number-append (take n bs) (drop n bs)) ∙ ap number_of (take-append-drop n bs)))
]

pub number-take : (n : ℕ) (bs : List Bool) → n ≤ length bs → number_of (take n bs) ≡ number_of bs % 2 ^ n
number-take n bs h =
    let front = length-take-le n bs h in
    let low : number_of (take n bs) < 2 ^ n = subst (λ k. number_of (take n bs) < 2 ^ k) front (number_below (take n bs)) in
    sym (mod_low (number_of (drop n bs)) n (number_of (take n bs)) low)
    ∙ ap (λ k. k % 2 ^ n) (ap (λ k. number_of (drop n bs) * 2 ^ k + number_of (take n bs)) (sym front) ∙ (sym (number-append (take n bs) (drop n bs)) ∙ ap number_of (take-append-drop n bs)))

pub number-zeros : (n : ℕ) → number_of (replicate n false) ≡ 0
number-zeros zero = refl
number-zeros (suc n) = omega (arith, number-zeros n)

pub number-ones : (n : ℕ) → number_of (replicate n true) + 1 ≡ 2 ^ n
number-ones zero = refl
number-ones (suc n) = omega (arith, number-ones n, pow-succ' 2 n)

-- the last bit is the top bit
pub top_written : (bs : List Bool) (b : Bool) → number_of (bs ++ b ∷ []) ≡ digit b * 2 ^ length bs + number_of bs
top_written bs b = number-append bs (b ∷ []) ∙ ap (λ k. k * 2 ^ length bs + number_of bs) (let z : 0 * 2 + digit b ≡ digit b = omega arith in z)

-- the last bit of a word is its top bit
top_cases : (b : Bool) (p lo : ℕ) → lo < p → nat_le (2 * p) (2 * (digit b * p + lo)) ≡ b
top_cases true p lo h = le-leb _ _ (omega (arith, h, (let e : 1 * p ≡ p = omega arith in e)))
top_cases false p lo h = lt-leb _ _ (omega (arith, h, (let e : 0 * p ≡ 0 = omega arith in e)))

pub top_of : (bs : List Bool) → top_bit (length bs) (number_of bs) ≡ get_or bs (length bs - 1) false
top_of bs = elim (cases_eq (length bs) 0) [
  | inl e ↦ rw (nil_from_length bs e) refl
  | inr e ↦
      let n = length bs - 1 in
      let b = get_or bs n false in
      let long : length bs ≡ suc n = omega (arith, e) in
      let whole : bs ≡ take n bs ++ b ∷ [] = sym (take_all (n + 1) bs (omega (arith, e))) ∙ take_more bs n false (omega (arith, e)) in
      let front : length (take n bs) ≡ n = length-take-le n bs (omega arith) in
      let low : number_of (take n bs) < 2 ^ n = subst (λ k. number_of (take n bs) < 2 ^ k) front (number_below (take n bs)) in
      let value : number_of bs ≡ digit b * 2 ^ n + number_of (take n bs) =
      ap number_of whole ∙ (top_written (take n bs) b ∙ ap (λ k. digit b * 2 ^ k + number_of (take n bs)) front) in
      ap (λ k. nat_le (2 ^ k) (2 * number_of bs)) long ∙ (ap (λ k. nat_le k (2 * number_of bs)) (pow-succ' 2 n)
      ∙ (ap (λ k. nat_le (2 * 2 ^ n) (2 * k)) value ∙ top_cases b (2 ^ n) (number_of (take n bs)) low))
]

pub signed_fill : (b : Bool) (x w n : ℕ) → w ≤ n → number_of (replicate (n - w) b) * 2 ^ w + x ≡ x + cond b (2 ^ n - 2 ^ w) 0
signed_fill false x w n h = ap (λ k. k * 2 ^ w + x) (number-zeros (n - w)) ∙ omega arith
signed_fill true x w n h =
    let e : n - w + w ≡ n = omega (arith, h) in
    let p : 2 ^ n ≡ 2 ^ (n - w) * 2 ^ w = sym (ap (λ k. 2 ^ k) e) ∙ pow-add 2 (n - w) w in
    let q : (number_of (replicate (n - w) true) + 1) * 2 ^ w ≡ 2 ^ n = ap (λ k. k * 2 ^ w) (number-ones (n - w)) ∙ sym p in
    filled (number_of (replicate (n - w) true)) (2 ^ w) (2 ^ n) x q
  where
    filled : (r u v y : ℕ) → (r + 1) * u ≡ v → r * u + y ≡ y + (v - u)
    filled r u v y h =
        let k : (r + 1) * u ≡ r * u + u = grind arith in
        omega (arith, h, k)
