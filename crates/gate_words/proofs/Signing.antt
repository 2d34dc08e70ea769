-- Comparisons in two's complement, by words with their top bits negated.
use Rattle.std.proofs.Common.{◌≡◌, ◌∙◌, ℕ, zero, suc, ◌+◌, ◌-◌, ◌*◌, ◌%◌, ◌^◌, ◌<◌, ◌≤◌, Bool, true, false, not, cond, List, [], ◌∷◌, ◌++◌, length, take, drop, get_or, ltb, leb, arith, refl, sym, ap, subst, inl, inr}
use Rattle.std.specs.Prelude.{ℤ, pos, ◌-ℤ◌, int_lt, int_le, nat_le}
use Rattle.std.proofs.Math.Nat.{pow-succ'}
use Rattle.std.proofs.lemmas.Int.{ints}
use Rattle.std.proofs.lemmas.Nat.{mod-mul-add}
use Rattle.std.proofs.lemmas.Bool.{cases_lt, cases_eq, lt-ltb, le-ltb, le-leb, lt-leb}
use Rattle.std.proofs.lemmas.List.{length-map, length_push, length-take-le, take_all, take_more, map_push, map-append, nil_from_length}
use Rattle.std.proofs.lemmas.List.Elements.{All-push, All-take, All-get_or}
use Rattle.wb_values.specs.Number.{top_bit, signed_value, word_slt, word_sle}
use Rattle.gate_base.specs.declared.bits.Bit.{Bit}
use Rattle.gate_base.specs.declared.bits.Bit.TheVariants.{Constant}
use Rattle.gate_base.specs.Circuit.{Circuit, size, IsKnown, FollowsCircuit, Gives, bit_value, IsBitBelow}
use Rattle.gate_words.specs.declared.chains.Cell.TheVariants as cell
use Rattle.gate_words.specs.Binary.{digit, number_of, number_under, values, AreKnown}
use Rattle.gate_words.specs.Cells.{IsChain}
use Rattle.gate_words.specs.Words.{IsFlipped}
use Rattle.gate_words.proofs.Numbers.{number_below, last-below, top_written}

-- a number with half of the modulus added
low_half : (p x : ℕ) → x < p → (x + p) % (2 * p) ≡ x + p
low_half p x h =
    let e : 0 * (2 * p) + (x + p) ≡ x + p = omega arith in
    ap (λ k. k % (2 * p)) (sym e) ∙ mod-mul-add 0 (2 * p) (x + p) (omega (arith, h))

high_half : (p x : ℕ) → p ≤ x → x < 2 * p → (x + p) % (2 * p) ≡ x - p
high_half p x h k =
    let e : 1 * (2 * p) + (x - p) ≡ x + p = omega (arith, h) in
    ap (λ n. n % (2 * p)) (sym e) ∙ mod-mul-add 1 (2 * p) (x - p) (omega (arith, h, k))

top_low : (p x : ℕ) → x < p → nat_le (2 * p) (2 * x) ≡ false
top_low p x h = lt-leb (2 * p) (2 * x) (omega (arith, h))

top_high : (p x : ℕ) → p ≤ x → nat_le (2 * p) (2 * x) ≡ true
top_high p x h = le-leb (2 * p) (2 * x) (omega (arith, h))

low_low : (p x y : ℕ) → int_lt (pos x) (pos y) ≡ ltb (x + p) (y + p)
low_low p x y = grind (arith, ints)

low_high : (p x y : ℕ) → x < p → p ≤ y → y < 2 * p → int_lt (pos x) (pos y -ℤ pos (2 * p)) ≡ ltb (x + p) (y - p)
low_high p x y h i j = grind (arith, ints)

high_low : (p x y : ℕ) → p ≤ x → x < 2 * p → y < p → int_lt (pos x -ℤ pos (2 * p)) (pos y) ≡ ltb (x - p) (y + p)
high_low p x y h i j = grind (arith, ints)

high_high : (p x y : ℕ) → p ≤ x → x < 2 * p → p ≤ y → y < 2 * p → int_lt (pos x -ℤ pos (2 * p)) (pos y -ℤ pos (2 * p)) ≡ ltb (x - p) (y - p)
high_high p x y h i j k = grind (arith, ints)

abbrev read : ℕ → ℕ → ℤ
read p x = cond (nat_le (2 * p) (2 * x)) (pos x -ℤ pos (2 * p)) (pos x)

by_halves : (p x y : ℕ) → x < 2 * p → y < 2 * p → int_lt (read p x) (read p y) ≡ ltb ((x + p) % (2 * p)) ((y + p) % (2 * p))
by_halves p x y h k = elim (cases_lt x p) [
  | inl a ↦ elim (cases_lt y p) [
    | inl b ↦ rw (top_low p x a, top_low p y b, low_half p x a, low_half p y b) (low_low p x y)
    | inr b ↦ rw (top_low p x a, top_high p y b, low_half p x a, high_half p y b k) (low_high p x y a b k)
  ]
  | inr a ↦ elim (cases_lt y p) [
    | inl b ↦ rw (top_high p x a, top_low p y b, high_half p x a h, low_half p y b) (high_low p x y a h b)
    | inr b ↦ rw (top_high p x a, top_high p y b, high_half p x a h, high_half p y b k) (high_high p x y a h b k)
  ]
]

pub signed_order : (v x y : ℕ) → x < 2 ^ v → y < 2 ^ v → word_slt v x y ≡ ltb ((x + 2 ^ (v - 1)) % 2 ^ v) ((y + 2 ^ (v - 1)) % 2 ^ v)
signed_order zero x y h k =
    let a : x ≡ 0 = omega (arith, h) in
    let b : y ≡ 0 = omega (arith, k) in
    rw (a, b) refl
signed_order (suc v) x y h k =
    let p : 2 ^ suc v ≡ 2 * 2 ^ v = pow-succ' 2 v in
    let e : suc v - 1 ≡ v = omega arith in
    subst (λ q. int_lt (cond (nat_le q (2 * x)) (pos x -ℤ pos q) (pos x)) (cond (nat_le q (2 * y)) (pos y -ℤ pos q) (pos y)) ≡ ltb ((x + 2 ^ (suc v - 1)) % q) ((y + 2 ^ (suc v - 1)) % q)) (sym p)
    (subst (λ j. int_lt (read (2 ^ v) x) (read (2 ^ v) y) ≡ ltb ((x + 2 ^ j) % (2 * 2 ^ v)) ((y + 2 ^ j) % (2 * 2 ^ v))) (sym e)
    (by_halves (2 ^ v) x y (omega (arith, h, p)) (omega (arith, k, p))))

-- the top bit negated
flip_top : (t : Bool) (p q lo : ℕ) → q ≡ 2 * p → lo < p → digit (not t) * p + lo ≡ (digit t * p + lo + p) % q
flip_top false p q lo e h =
    let a : digit (not false) * p + lo ≡ lo + p = omega arith in
    let b : lo ≡ digit false * p + lo = omega arith in
    a ∙ (sym (low_half p lo h) ∙ (ap (λ m. (lo + p) % m) (sym e) ∙ ap (λ n. (n + p) % q) b))
flip_top true p q lo e h =
    let a : digit (not true) * p + lo ≡ p + lo - p = omega arith in
    let b : p + lo ≡ digit true * p + lo = omega arith in
    a ∙ (sym (high_half p (p + lo) (omega arith) (omega (arith, h))) ∙ (ap (λ m. (p + lo + p) % m) (sym e) ∙ ap (λ n. (n + p) % q) b))

pub flipped_none : (xs bits : List Bit) → length xs ≡ 0 → bits ≡ [] → IsFlipped xs bits
flipped_none xs bits n e =
    let x : xs ≡ [] = nil_from_length xs n in
    rw (x, e) (record { known = λ c h. h; width = refl; number = λ w. refl })

pub flipped_some : (xs low bits : List Bit) (top : ℕ) (bit d : Bit) → length xs ≡ suc top → low ≡ take (top - 0) (drop 0 xs) → bits ≡ low ++ bit ∷ []
    → ((w : List Bool) → bit_value w bit ≡ not (bit_value w (get_or xs top d))) → ((n : ℕ) → IsBitBelow n (get_or xs top d) → IsBitBelow n bit) → IsFlipped xs bits
flipped_some xs low bits top bit d n l e value known =
    let i : top < length xs = omega (arith, n) in
    let z : top - 0 ≡ top = omega arith in
    let low_is : low ≡ take top xs = l ∙ ap (λ k. take k xs) z in
    let is : bits ≡ take top xs ++ bit ∷ [] = e ∙ ap (λ bs. bs ++ bit ∷ []) low_is in
    let count : length (take top xs) ≡ top = length-take-le top xs (omega (arith, n)) in
    record {
      known = λ c h. subst (AreKnown c) (sym is) (All-push (IsKnown c) (take top xs) bit (All-take (IsKnown c) top xs h) (known _ (All-get_or (IsKnown c) xs top d i h)));
      width = ap length is ∙ (length_push (take top xs) bit ∙ omega (arith, count, n));
      number = λ w.
          let t = bit_value w (get_or xs top d) in
          let bs = values w (take top xs) in
          let lb : length bs ≡ top = length-map (take top xs) (bit_value w) ∙ count in
          let low_small : number_of bs < 2 ^ top = subst (λ k. number_of bs < 2 ^ k) lb (number_below bs) in
          let whole : xs ≡ take top xs ++ get_or xs top d ∷ [] = sym (take_all (top + 1) xs (omega (arith, n))) ∙ take_more xs top d i in
          let old : number_under w xs ≡ digit t * 2 ^ top + number_of bs =
          ap (number_under w) whole ∙ (ap number_of (map_push (bit_value w) (take top xs) (get_or xs top d)) ∙ (top_written bs t ∙ ap (λ k. digit t * 2 ^ k + number_of bs) lb)) in
          let new : number_under w bits ≡ digit (not t) * 2 ^ top + number_of bs =
          ap (number_under w) is ∙ (ap number_of (map_push (bit_value w) (take top xs) bit) ∙ (top_written bs (bit_value w bit)
          ∙ (ap (λ k. digit (bit_value w bit) * 2 ^ k + number_of bs) lb ∙ ap (λ b. digit b * 2 ^ top + number_of bs) (value w)))) in
          let v : length xs - 1 ≡ top = omega (arith, n) in
          new
          ∙ (flip_top t (2 ^ top) (2 ^ suc top) (number_of bs) (pow-succ' 2 top) low_small
          ∙ (ap (λ k. (k + 2 ^ top) % 2 ^ suc top) (sym old)
          ∙ (ap (λ k. (number_under w xs + 2 ^ k) % 2 ^ suc top) (sym v) ∙ ap (λ k. (number_under w xs + 2 ^ (length xs - 1)) % 2 ^ k) (sym n))));
    }

pub signed_gives : (c : Circuit) (xs ys first second bits : List Bit) (last : Bit) → length xs ≡ length ys → IsFlipped xs first → IsFlipped ys second
    → IsChain c cell.Below (Constant false) first second bits last → Gives c last (λ w. word_slt (length xs) (number_under w xs) (number_under w ys))
signed_gives c xs ys first second bits last n f s h = record {
  known = h.known_last;
  value = λ w follows.
      let same : length (values w first) ≡ length (values w second) =
      length-map first (bit_value w) ∙ (f.width ∙ (n ∙ (sym s.width ∙ sym (length-map second (bit_value w))))) in
      let bound : number_under w ys < 2 ^ length xs = subst (λ k. number_under w ys < 2 ^ k) (length-map ys (bit_value w) ∙ sym n) (number_below (values w ys)) in
      let low : number_under w xs < 2 ^ length xs = subst (λ k. number_under w xs < 2 ^ k) (length-map xs (bit_value w)) (number_below (values w xs)) in
      let z : number_under w second + 0 ≡ number_under w second = omega arith in
      h.is_last w follows
      ∙ (last-below false (values w first) (values w second) same
      ∙ (ap (ltb (number_under w first)) z
      ∙ (ap (λ k. ltb k (number_under w second)) (f.number w)
      ∙ (ap (ltb ((number_under w xs + 2 ^ (length xs - 1)) % 2 ^ length xs)) (s.number w ∙ ap (λ k. (number_under w ys + 2 ^ (k - 1)) % 2 ^ k) (sym n))
      ∙ sym (signed_order (length xs) (number_under w xs) (number_under w ys) low bound)))));
}

at_most_not_above : (a b : ℤ) → int_le a b ≡ not (int_lt b a)
at_most_not_above a b = grind (arith, ints)

pub at_most : (c : Circuit) (xs ys : List Bit) (above bit : Bit) → length xs ≡ length ys → Gives c above (λ w. word_slt (length ys) (number_under w ys) (number_under w xs))
    → ((w : List Bool) → bit_value w bit ≡ not (bit_value w above)) → ((n : ℕ) → IsBitBelow n above → IsBitBelow n bit)
    → Gives c bit (λ w. word_sle (length xs) (number_under w xs) (number_under w ys))
at_most c xs ys above bit n h value known = record {
  known = known (size c) h.known;
  value = λ w f.
      value w
      ∙ (ap not (h.value w f)
      ∙ (ap (λ k. not (word_slt k (number_under w ys) (number_under w xs))) (sym n)
      ∙ sym (at_most_not_above (signed_value (length xs) (number_under w xs)) (signed_value (length xs) (number_under w ys)))));
}
