-- Words whose bits are moved by places.
use Rattle.std.proofs.Common.{◌≡◌, ◌∙◌, ℕ, zero, suc, ◌+◌, ◌-◌, ◌*◌, ◌/◌, ◌%◌, ◌^◌, ◌<◌, ◌≤◌, min, Bool, true, false, cond, List, [], ◌∷◌, ◌++◌, length, map, take, drop, replicate, get_or, ltb, arith, refl, sym, ap, subst, inl, inr, append_assoc}
use Rattle.std.specs.Prelude.{nat_lt}
use Rattle.std.proofs.Math.Nat.{pow-succ', min-eq_left, min-eq_right}
use Rattle.std.proofs.lemmas.Nat.{mod-mul-add, mul-mod_first, mul-le, leading_length}
use lib.Count.{count_leading_zeros}
use Rattle.wb_values.specs.Number.{top_bit, word_shl, word_lshr, word_ashr}
use Rattle.std.proofs.lemmas.Bool.{cases_lt, ltb-true}
use Rattle.std.proofs.lemmas.Bool.Decides.{nat_tests}
use Rattle.std.proofs.lemmas.List.{length_push, length-take-le, length-drop, length-append, length-replicate, length-map, append-nil, take_all, take-take, take-replicate, replicate_more, drop_all, drop-append-le, drop-map, take-map, map-append, take-append-drop, take_more, get_or-map}
use Rattle.std.proofs.lemmas.List.Elements.{All-append, All-replicate, All-take, All-drop}
use Rattle.gate_base.specs.declared.bits.Bit.{Bit}
use Rattle.gate_base.specs.declared.bits.Bit.TheVariants.{Constant}
use Rattle.gate_base.specs.Circuit.{Circuit, IsKnown, Grows, Gives, FollowsCircuit, bit_value}
use Rattle.gate_words.specs.declared.chains.Cell.TheVariants as cell
use Rattle.gate_words.specs.declared.shifts.Direction.{Direction}
use Rattle.gate_words.specs.declared.shifts.Direction.TheVariants.{Up, Down}
use Rattle.gate_words.specs.Binary.{digit, number_of, number_under, values, AreKnown}
use Rattle.gate_words.specs.Cells.{IsChain}
use Rattle.gate_words.specs.Words.{WritesWord}
use Rattle.gate_words.specs.Shifts.{moved_once, moved, moved_bits, IsStage, IsStaged, IsShifted}
use Rattle.gate_words.proofs.Numbers.{number-append, number-drop, number-take, number_below, number-zeros, last-below, choose_all, signed_fill, top_written, top_of}
use Rattle.gate_words.proofs.Growing.{onward}

-- one move after another
moved-add : (d : Direction) (n m : ℕ) (b : Bool) (xs : List Bool) → moved d m b (moved d n b xs) ≡ moved d (n + m) b xs
moved-add d zero m b xs = let e : m ≡ 0 + m = omega arith in ap (λ k. moved d k b xs) e
moved-add d (suc n) m b xs = moved-add d n m b (moved_once d b xs) ∙ (let e : suc (n + m) ≡ suc n + m = omega arith in ap (λ k. moved d k b xs) e)

length-once : (d : Direction) (b : Bool) (xs : List Bool) → length (moved_once d b xs) ≡ length xs
length-once Up b xs = length-take-le (length xs) (b ∷ xs) (omega arith)
length-once Down b [] = refl
length-once Down b (x ∷ xs) = length_push xs b ∙ omega arith

pub length-moved : (d : Direction) (n : ℕ) (b : Bool) (xs : List Bool) → length (moved d n b xs) ≡ length xs
length-moved d zero b xs = refl
length-moved d (suc n) b xs = length-moved d n b (moved_once d b xs) ∙ length-once d b xs

copies_on : (n : ℕ) (b : Bool) (zs : List Bool) → replicate n b ++ (b ∷ zs) ≡ replicate (suc n) b ++ zs
copies_on n b zs =
    let e : n + 1 ≡ suc n = omega arith in
    sym (append_assoc (replicate n b) (b ∷ []) zs) ∙ (ap (λ l. l ++ zs) (replicate_more n b) ∙ ap (λ k. replicate k b ++ zs) e)

-- by no more places than there are
down_is : (n : ℕ) (b : Bool) (xs : List Bool) → n ≤ length xs → moved Down n b xs ≡ drop n xs ++ replicate n b
down_is zero b xs h = sym (append-nil xs)
down_is (suc n) b [] h = absurd (omega (arith, h))
down_is (suc n) b (x ∷ xs) h =
    down_is n b (xs ++ b ∷ []) (omega (arith, h, length_push xs b))
    ∙ (ap (λ l. l ++ replicate n b) (drop-append-le n xs (b ∷ []) (omega (arith, h))) ∙ append_assoc (drop n xs) (b ∷ []) (replicate n b))

up_is : (n : ℕ) (b : Bool) (xs : List Bool) → n ≤ length xs → moved Up n b xs ≡ replicate n b ++ take (length xs - n) xs
up_is zero b xs h = sym (take_all (length xs - 0) xs (omega arith))
up_is (suc n) b xs h =
    let ys = take (length xs) (b ∷ xs) in
    let l : length ys ≡ length xs = length-take-le (length xs) (b ∷ xs) (omega arith) in
    let m : length ys - n ≡ suc (length xs - suc n) = omega (arith, l, h) in
    up_is n b ys (omega (arith, l, h))
    ∙ (ap (λ k. replicate n b ++ take k ys) m
    ∙ (ap (λ zs. replicate n b ++ zs) (take-take (suc (length xs - suc n)) (length xs) (b ∷ xs) (omega (arith, h)))
    ∙ copies_on n b (take (length xs - suc n) xs)))

-- by so many places and more
all_copies : (d : Direction) (b : Bool) (xs : List Bool) → moved d (length xs) b xs ≡ replicate (length xs) b
all_copies Down b xs = down_is (length xs) b xs (omega arith) ∙ ap (λ l. l ++ replicate (length xs) b) (drop_all (length xs) xs (omega arith))
all_copies Up b xs =
    let e : length xs - length xs ≡ 0 = omega arith in
    up_is (length xs) b xs (omega arith) ∙ (ap (λ k. replicate (length xs) b ++ take k xs) e ∙ append-nil (replicate (length xs) b))

copies_once : (d : Direction) (b : Bool) (m : ℕ) → moved_once d b (replicate m b) ≡ replicate m b
copies_once Up b m = ap (λ k. take k (b ∷ replicate m b)) (length-replicate m b) ∙ take-replicate m (suc m) b (omega arith)
copies_once Down b zero = refl
copies_once Down b (suc m) = let e : m + 1 ≡ suc m = omega arith in replicate_more m b ∙ ap (λ k. replicate k b) e

copies_stay : (d : Direction) (n : ℕ) (b : Bool) (m : ℕ) → moved d n b (replicate m b) ≡ replicate m b
copies_stay d zero b m = refl
copies_stay d (suc n) b m = ap (moved d n b) (copies_once d b m) ∙ copies_stay d n b m

pub all_gone : (d : Direction) (n : ℕ) (b : Bool) (xs : List Bool) → length xs ≤ n → moved d n b xs ≡ replicate (length xs) b
all_gone d n b xs h =
    let e : length xs + (n - length xs) ≡ n = omega (arith, h) in
    sym (ap (λ k. moved d k b xs) e)
    ∙ (sym (moved-add d (length xs) (n - length xs) b xs) ∙ (ap (moved d (n - length xs) b) (all_copies d b xs) ∙ copies_stay d (n - length xs) b (length xs)))

moved_min : (d : Direction) (n : ℕ) (b : Bool) (xs : List Bool) → moved d n b xs ≡ moved d (min n (length xs)) b xs
moved_min d n b xs = elim (cases_lt n (length xs)) [
  | inl h ↦ ap (λ k. moved d k b xs) (sym (min-eq_left {n = n} {m = length xs} (omega (arith, h))))
  | inr h ↦ all_gone d n b xs h ∙ (sym (all_copies d b xs) ∙ ap (λ k. moved d k b xs) (sym (min-eq_right {n = length xs} {m = n} h)))
]

min_within : (n m : ℕ) → min n m ≤ m
min_within n m = omega arith

-- moved at once
pub fill_values : (w : List Bool) (n : ℕ) (b : Bit) → values w (replicate n b) ≡ replicate n (bit_value w b)
fill_values w zero b = refl
fill_values w (suc n) b = ap (λ bs. bit_value w b ∷ bs) (fill_values w n b)

pub values_up : (w : List Bool) (n : ℕ) (b : Bit) (xs : List Bit) → n ≤ length xs
    → values w (replicate n b ++ take (length xs - n) xs) ≡ moved Up n (bit_value w b) (values w xs)
values_up w n b xs h =
    let l : length (values w xs) ≡ length xs = length-map xs (bit_value w) in
    map-append (bit_value w) (replicate n b) (take (length xs - n) xs)
    ∙ (ap (λ ys. values w (replicate n b) ++ ys) (sym (take-map (bit_value w) (length xs - n) xs))
    ∙ (ap (λ ys. ys ++ take (length xs - n) (values w xs)) (fill_values w n b)
    ∙ (ap (λ m. replicate n (bit_value w b) ++ take (m - n) (values w xs)) (sym l) ∙ sym (up_is n (bit_value w b) (values w xs) (omega (arith, l, h))))))

pub values_moved : (d : Direction) (n : ℕ) (b : Bit) (w : List Bool) (xs : List Bit) → values w (moved_bits d n b xs) ≡ moved d n (bit_value w b) (values w xs)
values_moved Down n b w xs =
    let l : length (values w xs) ≡ length xs = length-map xs (bit_value w) in
    let k = min n (length xs) in
    map-append (bit_value w) (drop k xs) (replicate k b)
    ∙ (ap (λ ys. ys ++ values w (replicate k b)) (sym (drop-map (bit_value w) k xs))
    ∙ (ap (λ ys. drop k (values w xs) ++ ys) (fill_values w k b)
    ∙ (sym (down_is k (bit_value w b) (values w xs) (omega (arith, l, min_within n (length xs))))
    ∙ (ap (λ m. moved Down (min n m) (bit_value w b) (values w xs)) (sym l) ∙ sym (moved_min Down n (bit_value w b) (values w xs))))))
values_moved Up n b w xs =
    let l : length (values w xs) ≡ length xs = length-map xs (bit_value w) in
    values_up w (min n (length xs)) b xs (min_within n (length xs))
    ∙ (ap (λ m. moved Up (min n m) (bit_value w b) (values w xs)) (sym l) ∙ sym (moved_min Up n (bit_value w b) (values w xs)))

pub length_bits : (d : Direction) (n : ℕ) (b : Bit) (xs : List Bit) → length (moved_bits d n b xs) ≡ length xs
length_bits Down n b xs =
    let k = min n (length xs) in
    length-append (drop k xs) (replicate k b) ∙ omega (arith, length-drop k xs, length-replicate k b, min_within n (length xs))
length_bits Up n b xs =
    let k = min n (length xs) in
    length-append (replicate k b) (take (length xs - k) xs) ∙ omega (arith, length-take-le (length xs - k) xs (omega arith), length-replicate k b, min_within n (length xs))

pub known_bits : (c : Circuit) (d : Direction) (n : ℕ) (b : Bit) (xs : List Bit) → IsKnown c b → AreKnown c xs → AreKnown c (moved_bits d n b xs)
known_bits c Down n b xs h k =
    All-append (IsKnown c) (drop (min n (length xs)) xs) (replicate (min n (length xs)) b) (All-drop (IsKnown c) (min n (length xs)) xs k) (All-replicate (IsKnown c) (min n (length xs)) b h)
known_bits c Up n b xs h k =
    All-append (IsKnown c) (replicate (min n (length xs)) b) (take (length xs - min n (length xs)) xs) (All-replicate (IsKnown c) (min n (length xs)) b h)
    (All-take (IsKnown c) (length xs - min n (length xs)) xs k)

-- the choice between two words of one width
pub chosen_values : (c : Circuit) (chosen last : Bit) (xs ys bits : List Bit) (w : List Bool) → length xs ≡ length ys → IsChain c cell.Choose chosen xs ys bits last → FollowsCircuit w c
    → values w bits ≡ cond (bit_value w chosen) (values w xs) (values w ys)
chosen_values c chosen last xs ys bits w e h f =
    h.are_outputs w f ∙ choose_all (bit_value w chosen) (values w xs) (values w ys) (length-map xs (bit_value w) ∙ (e ∙ sym (length-map ys (bit_value w))))

pub stage_end : (c : Circuit) (d : Direction) (fill : Bit) (word ys bits : List Bit) (chosen last : Bit) (distance : ℕ) → ys ≡ moved_bits d distance fill word
    → IsChain c cell.Choose chosen ys word bits last → IsStage c d fill word chosen distance bits
stage_end c d fill word ys bits chosen last distance e h =
    let l : length ys ≡ length word = ap length e ∙ length_bits d distance fill word in
    record {
      known = h.known_bits;
      width = h.width ∙ l;
      moves = λ w f.
          chosen_values c chosen last ys word bits w l h f
          ∙ ap (λ zs. cond (bit_value w chosen) zs (values w word)) (ap (values w) e ∙ values_moved d distance fill w word);
    }

-- so many stages are done
pub record IsStaging (old now : Circuit) (d : Direction) (fill : Bit) (xs ys : List Bit) (place : ℕ) (word : List Bit) : Type 0 where
  pub grows : Grows old now
  pub staged : IsStaged now d fill xs ys place word

pub staging_start : (c : Circuit) (d : Direction) (fill : Bit) (xs ys word : List Bit) → Grows c c → AreKnown c xs → word ≡ xs ++ replicate 0 fill → IsStaging c c d fill xs ys 0 word
staging_start c d fill xs ys word g k e =
    let s : word ≡ xs = e ∙ append-nil xs in
    record {
      grows = g;
      staged = record { known = subst (AreKnown c) (sym s) k; width = ap length s; moves = λ w f. ap (values w) s };
    }

one_stage : (d : Direction) (t n : ℕ) (b y : Bool) (xs word : List Bool) → word ≡ moved d t b xs → cond y (moved d n b word) word ≡ moved d (digit y * n + t) b xs
one_stage d t n b true xs word e =
    let s : t + n ≡ 1 * n + t = omega arith in
    ap (moved d n b) e ∙ (moved-add d t n b xs ∙ ap (λ k. moved d k b xs) s)
one_stage d t n b false xs word e = let s : t ≡ 0 * n + t = omega arith in e ∙ ap (λ k. moved d k b xs) s

pub one_digit : (ys : List Bool) (place : ℕ) → place < length ys → number_of (take (place + 1) ys) ≡ digit (get_or ys place false) * 2 ^ place + number_of (take place ys)
one_digit ys place i =
    ap number_of (take_more ys place false i)
    ∙ (top_written (take place ys) (get_or ys place false) ∙ ap (λ k. digit (get_or ys place false) * 2 ^ k + number_of (take place ys)) (length-take-le place ys (omega (arith, i))))

pub one_value : (w : List Bool) (ys : List Bit) (place : ℕ) (x : Bit) → place < length ys
    → number_of (take (place + 1) (values w ys)) ≡ digit (bit_value w (get_or ys place x)) * 2 ^ place + number_of (take place (values w ys))
one_value w ys place x i =
    one_digit (values w ys) place (omega (arith, i, length-map ys (bit_value w)))
    ∙ ap (λ t. digit t * 2 ^ place + number_of (take place (values w ys))) (get_or-map (bit_value w) ys place x false i)

pub staging_turn : (old now new : Circuit) (d : Direction) (fill : Bit) (xs ys word seen bits : List Bit) (place distance : ℕ) (x : Bit) → IsStaging old now d fill xs ys place word
    → Grows now new → seen ≡ word → IsStage new d fill seen (get_or ys place x) distance bits → distance ≡ 2 ^ place → place < length ys → IsStaging old new d fill xs ys (place + 1) bits
staging_turn old now new d fill xs ys word seen bits place distance x h g same s e i = record {
  grows = onward h.grows g;
  staged = record {
    known = s.known;
    width = s.width ∙ (ap length same ∙ h.staged.width);
    moves = λ w f.
        let t = number_of (take place (values w ys)) in
        let y = bit_value w (get_or ys place x) in
        s.moves w f
        ∙ (one_stage d t distance (bit_value w fill) y (values w xs) (values w seen) (ap (values w) same ∙ h.staged.moves w (g.follows w f))
        ∙ ap (λ k. moved d k (bit_value w fill) (values w xs)) (ap (λ k. digit y * k + t) e ∙ sym (one_value w ys place x i)));
  };
}

-- the amount, with its high bits
amount : (k : ℕ) (ys : List Bool) → k ≤ length ys → number_of ys ≡ number_of (drop k ys) * 2 ^ k + number_of (take k ys)
amount k ys h =
    ap number_of (sym (take-append-drop k ys))
    ∙ (number-append (take k ys) (drop k ys) ∙ ap (λ n. number_of (drop k ys) * 2 ^ n + number_of (take k ys)) (length-take-le k ys h))

far_off : (h p t w : ℕ) → 0 < h → w ≤ p → w ≤ h * p + t
far_off h p t w i j = let m = mul-le 1 p h p (omega (arith, i)) (omega arith) in omega (arith, m, j)

at_end : (d : Direction) (b far : Bool) (xs ys gone word : List Bool) (k : ℕ) → far ≡ nat_lt 0 (number_of (drop k ys)) → k ≤ length ys → length xs ≤ 2 ^ k
    → gone ≡ replicate (length xs) b → word ≡ moved d (number_of (take k ys)) b xs → cond far gone word ≡ moved d (number_of ys) b xs
at_end d b true xs ys gone word k e i h g m =
    let some : 0 < number_of (drop k ys) = ltb-true 0 (number_of (drop k ys)) (sym e) in
    g ∙ sym (all_gone d (number_of ys) b xs (omega (arith, amount k ys i, far_off (number_of (drop k ys)) (2 ^ k) (number_of (take k ys)) (length xs) some h)))
at_end d b false xs ys gone word k e i h g m =
    let none : number_of (drop k ys) ≡ 0 = zero_from (number_of (drop k ys)) (sym e) in
    let n : number_of (take k ys) ≡ number_of ys = sym (amount k ys i ∙ (ap (λ z. z * 2 ^ k + number_of (take k ys)) none ∙ omega arith)) in
    m ∙ ap (λ z. moved d z b xs) n
  where
    zero_from : (n : ℕ) → nat_lt 0 n ≡ false → n ≡ 0
    zero_from n h = grind (arith, nat_tests)

pub shifted_end : (c e f : Circuit) (d : Direction) (fill far last : Bit) (xs ys high gone word bits : List Bit) (k : ℕ) → Grows c e → Grows e f → IsStaged c d fill xs ys k word
    → Gives e far (λ w. nat_lt 0 (number_under w high)) → high ≡ drop k ys → gone ≡ [] ++ replicate (length xs) fill → length xs ≤ 2 ^ k → k ≤ length xs → length xs ≡ length ys
    → IsChain f cell.Choose far gone word bits last → IsShifted f d fill xs ys bits
shifted_end c e f d fill far last xs ys high gone word bits k g h s tests top copies enough within same chain =
    let l : length gone ≡ length xs = ap length copies ∙ length-replicate (length xs) fill in
    record {
      known = chain.known_bits;
      width = chain.width ∙ l;
      moves = λ w follows.
          let n : length (values w xs) ≡ length xs = length-map xs (bit_value w) in
          let m : length (values w ys) ≡ length ys = length-map ys (bit_value w) in
          let t : bit_value w far ≡ nat_lt 0 (number_of (drop k (values w ys))) =
          tests.value w (h.follows w follows) ∙ ap (λ zs. nat_lt 0 (number_of zs)) (ap (values w) top ∙ sym (drop-map (bit_value w) k ys)) in
          let all : values w gone ≡ replicate (length (values w xs)) (bit_value w fill) =
          ap (values w) copies ∙ (fill_values w (length xs) fill ∙ ap (λ z. replicate z (bit_value w fill)) (sym n)) in
          chosen_values f far last gone word bits w (l ∙ sym s.width) chain follows
          ∙ at_end d (bit_value w fill) (bit_value w far) (values w xs) (values w ys) (values w gone) (values w word) k t (omega (arith, m, same, within)) (omega (arith, n, enough)) all
          (s.moves w (g.follows w (h.follows w follows)));
    }

-- as numbers
once_up : (xs : List Bool) → number_of (moved_once Up false xs) ≡ (number_of xs * 2) % 2 ^ length xs
once_up xs =
    let e : number_of xs * 2 + 0 ≡ number_of xs * 2 = omega arith in
    number-take (length xs) (false ∷ xs) (omega arith) ∙ ap (λ k. k % 2 ^ length xs) e

pub up_number : (n : ℕ) (xs : List Bool) → number_of xs < 2 ^ length xs → number_of (moved Up n false xs) ≡ (number_of xs * 2 ^ n) % 2 ^ length xs
up_number zero xs h =
    let e : 0 * 2 ^ length xs + number_of xs ≡ number_of xs * 2 ^ 0 = omega arith in
    sym (mod-mul-add 0 (2 ^ length xs) (number_of xs) h) ∙ ap (λ k. k % 2 ^ length xs) e
up_number (suc n) xs h =
    let l = length-once Up false xs in
    let small : number_of (moved_once Up false xs) < 2 ^ length (moved_once Up false xs) = number_below (moved_once Up false xs) in
    up_number n (moved_once Up false xs) small
    ∙ (ap (λ k. (number_of (moved_once Up false xs) * 2 ^ n) % 2 ^ k) l
    ∙ (ap (λ k. (k * 2 ^ n) % 2 ^ length xs) (once_up xs)
    ∙ (mul-mod_first (number_of xs * 2) (2 ^ n) (2 ^ length xs) ∙ ap (λ k. k % 2 ^ length xs) (twice (number_of xs) (2 ^ n) (2 ^ suc n) (pow-succ' 2 n)))))
  where
    twice : (x p q : ℕ) → q ≡ 2 * p → x * 2 * p ≡ x * q
    twice x p q e = sym (ap (λ k. x * k) e ∙ grind arith)

pub number-up : (n : ℕ) (xs : List Bool) → number_of xs < 2 ^ length xs → number_of (moved Up n false xs) ≡ (number_of xs * 2 ^ min n (length xs)) % 2 ^ length xs
number-up n xs h = ap number_of (moved_min Up n false xs) ∙ up_number (min n (length xs)) xs h

down_number : (n : ℕ) (b : Bool) (xs : List Bool) → n ≤ length xs
    → number_of (moved Down n b xs) ≡ number_of xs / 2 ^ n + cond b (2 ^ length xs - 2 ^ (length xs - n)) 0
down_number n b xs h =
    let e : length xs - (length xs - n) ≡ n = omega (arith, h) in
    ap number_of (down_is n b xs h)
    ∙ (number-append (drop n xs) (replicate n b)
    ∙ (ap (λ k. number_of (replicate n b) * 2 ^ k + number_of (drop n xs)) (length-drop n xs)
    ∙ (ap (λ k. number_of (replicate k b) * 2 ^ (length xs - n) + number_of (drop n xs)) (sym e)
    ∙ (signed_fill b (number_of (drop n xs)) (length xs - n) (length xs) (omega arith)
    ∙ ap (λ k. k + cond b (2 ^ length xs - 2 ^ (length xs - n)) 0) (number-drop n xs)))))

pub number-down : (n : ℕ) (b : Bool) (xs : List Bool)
    → number_of (moved Down n b xs) ≡ number_of xs / 2 ^ min n (length xs) + cond b (2 ^ length xs - 2 ^ (length xs - min n (length xs))) 0
number-down n b xs = ap number_of (moved_min Down n b xs) ∙ down_number (min n (length xs)) b xs (min_within n (length xs))

-- how many stages there are
below_power : (n : ℕ) → n < 2 ^ n
below_power zero = omega arith
below_power (suc n) = omega (arith, pow-succ' 2 n, below_power n)

pub all_enough : (n : ℕ) → n ≤ 2 ^ n
all_enough n = omega (arith, below_power n)

pub some_enough : (width less : ℕ) → less ≡ width - 1 → less < 2 ^ 64 → width ≤ 2 ^ (64 - count_leading_zeros 64 less)
some_enough width less e h =
    let p = leading_length 64 less h in
    let m : p.0 ≡ 64 - count_leading_zeros 64 less = omega (arith, p.1) in
    subst (λ k. width ≤ 2 ^ k) m (omega (arith, e, p.2))

pub positive : (c : Circuit) (zs xs bits : List Bit) (last : Bit) → zs ≡ replicate (length xs) (Constant false) → IsChain c cell.Below (Constant false) zs xs bits last
    → Gives c last (λ w. nat_lt 0 (number_under w xs))
positive c zs xs bits last e h = record {
  known = h.known_last;
  value = λ w f.
      let n : length zs ≡ length xs = ap length e ∙ length-replicate (length xs) (Constant false) in
      let z : number_under w zs ≡ 0 = ap number_of (ap (values w) e ∙ fill_values w (length xs) (Constant false)) ∙ number-zeros (length xs) in
      let s : number_under w xs + 0 ≡ number_under w xs = omega arith in
      h.is_last w f
      ∙ (last-below false (values w zs) (values w xs) (length-map zs (bit_value w) ∙ (n ∙ sym (length-map xs (bit_value w))))
      ∙ (ap (λ k. ltb k (number_under w xs + 0)) z ∙ ap (ltb 0) s));
}

-- what the operators give
pub shifted_up : (c : Circuit) (xs ys bits : List Bit) → IsShifted c Up (Constant false) xs ys bits → WritesWord c word_shl xs ys bits
shifted_up c xs ys bits h = record {
  known = h.known;
  width = h.width;
  number = λ w f.
      ap number_of (h.moves w f)
      ∙ (number-up (number_under w ys) (values w xs) (number_below (values w xs))
      ∙ ap (λ k. (number_under w xs * 2 ^ min (number_under w ys) k) % 2 ^ k) (length-map xs (bit_value w)));
}

pub shifted_down : (c : Circuit) (xs ys bits : List Bit) → IsShifted c Down (Constant false) xs ys bits → WritesWord c word_lshr xs ys bits
shifted_down c xs ys bits h = record {
  known = h.known;
  width = h.width;
  number = λ w f.
      let e : number_under w xs / 2 ^ min (number_under w ys) (length xs) + 0 ≡ number_under w xs / 2 ^ min (number_under w ys) (length xs) = omega arith in
      ap number_of (h.moves w f)
      ∙ (number-down (number_under w ys) false (values w xs)
      ∙ (ap (λ k. number_under w xs / 2 ^ min (number_under w ys) k + 0) (length-map xs (bit_value w)) ∙ e));
}

pub shifted_signed : (c : Circuit) (sign : Bit) (xs ys bits : List Bit) → ((w : List Bool) → bit_value w sign ≡ get_or (values w xs) (length xs - 1) false)
    → IsShifted c Down sign xs ys bits → WritesWord c word_ashr xs ys bits
shifted_signed c sign xs ys bits top h = record {
  known = h.known;
  width = h.width;
  number = λ w f.
      let l : length (values w xs) ≡ length xs = length-map xs (bit_value w) in
      let t : bit_value w sign ≡ top_bit (length xs) (number_under w xs) =
      top w ∙ (ap (λ k. get_or (values w xs) (k - 1) false) (sym l) ∙ (sym (top_of (values w xs)) ∙ ap (λ k. top_bit k (number_under w xs)) l)) in
      ap number_of (h.moves w f)
      ∙ (number-down (number_under w ys) (bit_value w sign) (values w xs)
      ∙ (ap (λ k. number_under w xs / 2 ^ min (number_under w ys) k + cond (bit_value w sign) (2 ^ k - 2 ^ (k - min (number_under w ys) k)) 0) l
      ∙ ap (λ b. number_under w xs / 2 ^ min (number_under w ys) (length xs) + cond b (2 ^ length xs - 2 ^ (length xs - min (number_under w ys) (length xs))) 0) t));
}
