-- Digits read from the left, the number cut at each turn.
use Rattle.std.proofs.Common.{◌≡◌, ℕ, zero, suc, ◌+◌, ◌*◌, ◌-◌, ◌%◌, ◌^◌, ◌<◌, ◌≤◌, min, Bool, true, false, cond, List, [], ◌∷◌, length, take, drop, get_or, drop-cons, length-drop, add-one, refl, sym, ap, ◌∙◌, arith, add-zero, inl, inr}
use Rattle.std.proofs.lemmas.List.{nil_from_length, take_all}
use Rattle.std.specs.Prelude.{◌⊎◌}
use Rattle.std.proofs.Math.Nat.{mod-add-mod, mod-lt, mod-le, mul-le-mul_left, mul-le-mul_right, mul_assoc}
use Rattle.std.proofs.Math.Pow.{pow_mono}
use Rattle.std.proofs.lemmas.Nat.{mul-mod_first, pow_pos, pow-add}
use Rattle.verilog_text.specs.Spelling.{is_silent, is_z, filled_where, digits_from, bits_of_base, bits_of_digits, begins_with_z, filled_above}
use Rattle.v_expr.specs.Digits.{with_digit, with_bits}

-- it does not matter whether a number was cut before one digit more
abbrev pub CutsAt : (base : ℕ) → (ℕ → ℕ) → (ℕ → ℕ) → Type 0
CutsAt base value c = (n b : ℕ) → c (with_digit base value (c n) b) ≡ c (with_digit base value n b)

cut_before : (base : ℕ) (value c : ℕ → ℕ) → CutsAt base value c → ((n : ℕ) → c (c n) ≡ c n) → (ds : List ℕ) (n : ℕ) → c (digits_from base value (c n) ds) ≡ c (digits_from base value n ds)
cut_before base value c cuts twice [] n = twice n
cut_before base value c cuts twice (b ∷ ds) n =
    sym (cut_before base value c cuts twice ds (with_digit base value (c n) b)) ∙ ap (λ (k : ℕ). c (digits_from base value k ds)) (cuts n b) ∙ cut_before base value c cuts twice ds (with_digit base value n b)

-- one turn
pub digit_turn : (base : ℕ) (value c : ℕ → ℕ) → CutsAt base value c → ((n : ℕ) → c (c n) ≡ c n) → (ds : List ℕ) (i v w : ℕ) → i < length ds → w ≡ c (with_digit base value v (get_or ds i 0))
    → c (digits_from base value v (drop i ds)) ≡ c (digits_from base value w (drop (i + 1) ds))
digit_turn base value c cuts twice ds i v w lt is =
    let e : drop i ds ≡ get_or ds i 0 ∷ drop (i + 1) ds = rw add-one (drop-cons ds i 0 lt) in
    ap (λ (t : List ℕ). c (digits_from base value v t)) e ∙ sym (cut_before base value c cuts twice (drop (i + 1) ds) (with_digit base value v (get_or ds i 0)))
    ∙ ap (λ (k : ℕ). c (digits_from base value k (drop (i + 1) ds))) (sym is)

-- no digit is left
pub digits_over : (base : ℕ) (value c : ℕ → ℕ) (ds : List ℕ) (i v : ℕ) → length ds ≤ i → c v ≡ v → c (digits_from base value 0 ds) ≡ c (digits_from base value v (drop i ds)) → v ≡ c (digits_from base value 0 ds)
digits_over base value c ds i v le whole same =
    let e : drop i ds ≡ [] = nil_from_length (drop i ds) (omega (arith, length-drop i ds)) in
    sym (same ∙ ap (λ (t : List ℕ). c (digits_from base value v t)) e ∙ whole)

-- ---- the lowest bits

pub mod-mod : (m v : ℕ) → v % m % m ≡ v % m
mod-mod m v = simp add-zero at (mod-add-mod v m 0)

pub mod_cuts : (m base : ℕ) (value : ℕ → ℕ) → CutsAt base value (λ n. n % m)
mod_cuts m base value n b = by (is_silent b)
  where
    by : (t : Bool) → cond t (n % m) (n % m * base + value b) % m ≡ cond t n (n * base + value b) % m
    by true = mod-mod m n
    by false = sym (mod-add-mod (n % m * base) m (value b)) ∙ ap (λ (k : ℕ). (k + value b) % m) (mul-mod_first n base m) ∙ mod-add-mod (n * base) m (value b)

-- ---- up to a bound

pub min-min : (g v : ℕ) → min (min v g) g ≡ min v g
min-min g v = omega arith

pub min_cuts : (g : ℕ) (value : ℕ → ℕ) → CutsAt 10 value (λ n. min n g)
min_cuts g value n b = by (is_silent b)
  where
    by : (t : Bool) → min (cond t (min n g) (min n g * 10 + value b)) g ≡ min (cond t n (n * 10 + value b)) g
    by true = min-min g n
    by false = omega arith

-- ---- how many bits digits take

pub bits_turn : (bits : ℕ) (ds : List ℕ) (i v w : ℕ) → i < length ds → w ≡ min (with_bits bits v (get_or ds i 0)) 128
    → min (bits_of_digits bits (drop i ds) + v) 128 ≡ min (bits_of_digits bits (drop (i + 1) ds) + w) 128
bits_turn bits ds i v w lt is =
    let e : drop i ds ≡ get_or ds i 0 ∷ drop (i + 1) ds = rw add-one (drop-cons ds i 0 lt) in
    ap (λ (t : List ℕ). min (bits_of_digits bits t + v) 128) e ∙ omega (arith, is)

pub bits_over : (bits : ℕ) (ds : List ℕ) (i v : ℕ) → length ds ≤ i → v ≤ 128 → min (bits_of_digits bits ds) 128 ≡ min (bits_of_digits bits (drop i ds) + v) 128 → v ≡ min (bits_of_digits bits ds) 128
bits_over bits ds i v le low same =
    let e : drop i ds ≡ [] = nil_from_length (drop i ds) (omega (arith, length-drop i ds)) in
    let f : bits_of_digits bits (drop i ds) ≡ 0 = ap (bits_of_digits bits) e in
    omega (arith, same, f, low)

-- ---- whether the leftmost digit is z

pub z_turn : (ds : List ℕ) (i : ℕ) → i < length ds → is_silent (get_or ds i 0) ≡ true → begins_with_z (drop i ds) ≡ begins_with_z (drop (i + 1) ds)
z_turn ds i lt silent =
    let e : drop i ds ≡ get_or ds i 0 ∷ drop (i + 1) ds = rw add-one (drop-cons ds i 0 lt) in
    ap begins_with_z e ∙ rw silent refl

pub z_found : (ds : List ℕ) (i : ℕ) → i < length ds → is_silent (get_or ds i 0) ≡ false → begins_with_z (drop i ds) ≡ is_z (get_or ds i 0)
z_found ds i lt silent =
    let e : drop i ds ≡ get_or ds i 0 ∷ drop (i + 1) ds = rw add-one (drop-cons ds i 0 lt) in
    ap begins_with_z e ∙ rw silent refl

pub z_over : (ds : List ℕ) (i : ℕ) → length ds ≤ i → begins_with_z (drop i ds) ≡ false
z_over ds i le = let e : drop i ds ≡ [] = nil_from_length (drop i ds) (omega (arith, length-drop i ds)) in ap begins_with_z e

-- ---- z digits take the bits below those that are filled

one_more : (base bits f n : ℕ) → base ≤ 2 ^ bits → f < base → (t : Bool) → cond t n (n * base + f) + 1 ≤ (n + 1) * 2 ^ cond t 0 bits
one_more base bits f n le lt true = omega arith
one_more base bits f n le lt false = let a : (n + 1) * base ≤ (n + 1) * 2 ^ bits = mul-le-mul_left (n + 1) le in let b : (n + 1) * base ≡ n * base + base = (omega arith) in omega (arith, a, b, lt)

filled_below : (base : ℕ) (is : ℕ → Bool) (b : ℕ) → 1 ≤ base → filled_where base is b < base
filled_below base is b le = by (is b)
  where
    by : (t : Bool) → cond t (base - 1) 0 < base
    by true = omega arith
    by false = omega arith

filled_fits : (base bits : ℕ) (is : ℕ → Bool) → 1 ≤ base → base ≤ 2 ^ bits → (ds : List ℕ) (n : ℕ) → digits_from base (filled_where base is) n ds < (n + 1) * 2 ^ bits_of_digits bits ds
filled_fits base bits is some le [] n = omega arith
filled_fits base bits is some le (b ∷ ds) n =
    let next = cond (is_silent b) n (n * base + filled_where base is b) in
    let c = cond (is_silent b) 0 bits in
    let a : digits_from base (filled_where base is) next ds < (next + 1) * 2 ^ bits_of_digits bits ds = filled_fits base bits is some le ds next in
    let d : next + 1 ≤ (n + 1) * 2 ^ c = one_more base bits (filled_where base is b) n le (filled_below base is b some) (is_silent b) in
    let e : (next + 1) * 2 ^ bits_of_digits bits ds ≤ (n + 1) * 2 ^ c * 2 ^ bits_of_digits bits ds = mul-le-mul_right (2 ^ bits_of_digits bits ds) d in
    let f : (n + 1) * 2 ^ c * 2 ^ bits_of_digits bits ds ≡ (n + 1) * 2 ^ (c + bits_of_digits bits ds) =
    mul_assoc (n + 1) (2 ^ c) (2 ^ bits_of_digits bits ds) ∙ ap (λ (k : ℕ). (n + 1) * k) (sym (pow-add 2 c (bits_of_digits bits ds))) in
    omega (arith, a, e, f)

pub z_below : (base bits : ℕ) → 1 ≤ base → base ≤ 2 ^ bits → (ds : List ℕ) → digits_from base (filled_where base is_z) 0 ds < 2 ^ bits_of_digits bits ds
z_below base bits some le ds = omega (arith, filled_fits base bits is_z some le ds 0)

le_either : (n w : ℕ) → (n ≤ w) ⊎ (w ≤ n)
le_either zero w = inl (omega arith)
le_either (suc n) zero = inr (omega arith)
le_either (suc n) (suc w) = more (le_either n w)
  where
    more : (n ≤ w) ⊎ (w ≤ n) → (suc n ≤ suc w) ⊎ (suc w ≤ suc n)
    more (inl h) = inl (omega (arith, h))
    more (inr h) = inr (omega (arith, h))

-- so both fit together
pub z_fits : (v n w : ℕ) → v < 2 ^ n → w ≤ 128 → (z : Bool) → v % 2 ^ w + cond z (2 ^ w - 2 ^ min n w) 0 < 2 ^ 128
z_fits v n w lt le false =
    let a : v % 2 ^ w < 2 ^ w = mod-lt v (pow_pos w) in
    let b : 2 ^ w ≤ 2 ^ 128 = pow_mono le in
    omega (arith, a, b)
z_fits v n w lt le true = by (le_either n w)
  where
    by : (n ≤ w) ⊎ (w ≤ n) → v % 2 ^ w + (2 ^ w - 2 ^ min n w) < 2 ^ 128
    by (inl h) =
        let same : 2 ^ min n w ≡ 2 ^ n = ap (λ (k : ℕ). 2 ^ k) (omega (arith, h)) in
        let a : v % 2 ^ w ≤ v = mod-le v (2 ^ w) in
        let b : 2 ^ w ≤ 2 ^ 128 = pow_mono le in
        let d : 2 ^ n ≤ 2 ^ w = pow_mono h in
        omega (arith, same, a, b, d, lt)
    by (inr h) =
        let same : 2 ^ min n w ≡ 2 ^ w = ap (λ (k : ℕ). 2 ^ k) (omega (arith, h)) in
        let a : v % 2 ^ w < 2 ^ w = mod-lt v (pow_pos w) in
        let b : 2 ^ w ≤ 2 ^ 128 = pow_mono le in
        omega (arith, same, a, b)

-- bits up to the width
pub filled_is : (n w : ℕ) → w ≤ 128 → (2 ^ w - 1) - (2 ^ min (min n 128) w - 1) ≡ 2 ^ w - 2 ^ min n w
filled_is n w le =
    let same : 2 ^ min (min n 128) w ≡ 2 ^ min n w = ap (λ (k : ℕ). 2 ^ k) (omega (arith, le)) in
    let a : 0 < 2 ^ min n w = pow_pos (min n w) in
    omega (arith, same, a)

pub mask_below : (n w : ℕ) → 2 ^ min n w - 1 ≤ 2 ^ w - 1
mask_below n w = let a : 2 ^ min n w ≤ 2 ^ w = pow_mono (omega arith) in omega (arith, a)

of_base : (base : ℕ) → (base ≡ 2) ⊎ (base ≡ 8) ⊎ (base ≡ 16) ⊎ (base ≡ 10) → (1 ≤ base) × (base ≤ 2 ^ bits_of_base base)
of_base base (inl h) = rw h (omega arith, omega arith)
of_base base (inr (inl h)) = rw h (omega arith, omega arith)
of_base base (inr (inr (inl h))) = rw h (omega arith, omega arith)
of_base base (inr (inr (inr h))) = rw h (omega arith, omega arith)

pub wild_fits : (base w : ℕ) (ds : List ℕ) → (base ≡ 2) ⊎ (base ≡ 8) ⊎ (base ≡ 16) ⊎ (base ≡ 10) → w ≤ 128
    → digits_from base (filled_where base is_z) 0 ds % 2 ^ w + filled_above (bits_of_base base) w ds < 2 ^ 128
wild_fits base w ds known le =
    let b = of_base base known in
    z_fits (digits_from base (filled_where base is_z) 0 ds) (bits_of_digits (bits_of_base base) ds) w (z_below base (bits_of_base base) b.0 b.1 ds) le (begins_with_z ds)

-- all but the first
pub behind_first : (ds : List ℕ) → 0 < length ds → get_or ds 0 0 ∷ take (length ds - 1) (drop 1 ds) ≡ ds
behind_first [] lt = absurd (omega arith)
behind_first (b ∷ ds) lt =
    let n : length (b ∷ ds) - 1 ≡ length ds = omega arith in
    ap (λ (k : ℕ). b ∷ take k ds) n ∙ ap (λ (t : List ℕ). b ∷ t) (take_all (length ds) ds (omega arith))
