-- Numbers written to places one after the other, and that the values still fit.
use Rattle.std.proofs.Common.{◌≡◌, ℕ, zero, suc, ◌+◌, ◌-◌, ◌*◌, ◌/◌, ◌%◌, ◌^◌, ◌<◌, ◌≤◌, Bool, true, false, cond, List, [], ◌∷◌, length, drop, refl, ap, sym, subst, ◌∙◌, arith, add_comm, ⊎_elim, slice_index, slice_set, get_or, ℤ, pos, negsuc, Option, Some, None, unwrap_or}
use Rattle.std.proofs.Math.Pow.{pow_pos, pow_mono, mod-mod-pow}
use Rattle.std.proofs.Math.Nat.{mod-lt, mod-one, mod-mod, div-eq_of_lt}
use Rattle.std.proofs.Math.Pow.{shr-shr}
use Rattle.std.proofs.Math.Seq.{drop-cons}
use Rattle.std.proofs.lemmas.Nat.{mod-pow-add, div-mul-add}
use Rattle.std.proofs.lemmas.Bool.{cases_lt}
use Rattle.std.proofs.lemmas.Slice.Eq.{bytes_eq-Decides}
use Rattle.std.specs.Option.{SomeIff}
use Rattle.wb_values.specs.Value.{Name, Value, number, words, same_name, as_number, as_words, Valuation, with_value}
use Rattle.verilog_meaning.specs.Expression.{Scope, Object, object_width, Bits}
use Rattle.verilog_meaning.specs.Statement.{Cell, variable_cell, word_cell, no_cell, Place, with_bits_at, with_bits, written_cell, written_place, written, places_width}
use Rattle.v_value.specs.Narrow.{FitsObject, HasFittingValues}
use Rattle.v_statement.specs.declared.place.Place.{Place as CodePlace}
use Rattle.v_statement.specs.Places.{place_of, places_of}

mod_below : (x n : ℕ) → x % 2 ^ n < 2 ^ n
mod_below x n = mod-lt x (pow_pos n)

-- the high bits of a cut number
pub cut_high : (x c w : ℕ) → x % 2 ^ (c + w) / 2 ^ w ≡ x / 2 ^ w % 2 ^ c
cut_high x c w = ap (λ n. n / 2 ^ w) (mod-pow-add x c w) ∙ div-mul-add (x / 2 ^ w % 2 ^ c) (2 ^ w) (x % 2 ^ w) (mod_below x w)

-- Only so many bits of a number are written as there are places for them.
low_part : (y n m : ℕ) → (m ≤ n) → y % 2 ^ n / 2 ^ m % 2 ^ (n - m) ≡ y / 2 ^ m % 2 ^ (n - m)
low_part y n m h =
    let e : n - m + m ≡ n = omega arith in
    ap (λ k. k % 2 ^ (n - m)) (subst (λ k. y % 2 ^ k / 2 ^ m ≡ y / 2 ^ m % 2 ^ (n - m)) e (cut_high y (n - m) m))
    ∙ mod-mod (y / 2 ^ m) (2 ^ (n - m))

no_part : (x y n m : ℕ) → n ≤ m → x % 2 ^ (n - m) ≡ y % 2 ^ (n - m)
no_part x y n m h =
    let e : 0 ≡ n - m = omega arith in
    subst (λ k. x % 2 ^ k ≡ y % 2 ^ k) e (mod-one x ∙ sym (mod-one y))

cut_at : (w old : ℕ) (low : ℤ) (n y : ℕ) → with_bits_at w old low n (y % 2 ^ n) ≡ with_bits_at w old low n y
cut_at w old (pos k) n y = ap (λ z. (old % 2 ^ k + 2 ^ k * z + 2 ^ (k + n) * (old / 2 ^ (k + n))) % 2 ^ w) (mod-mod y (2 ^ n))
cut_at w old (negsuc k) n y =
    ap (λ z. (old % 2 ^ 0 + 2 ^ 0 * z + 2 ^ (0 + (n - (k + 1))) * (old / 2 ^ (0 + (n - (k + 1))))) % 2 ^ w)
    (⊎_elim (λ below. no_part (y % 2 ^ n / 2 ^ (k + 1)) (y / 2 ^ (k + 1)) n (k + 1) (omega (arith, below)))
    (λ above. low_part y n (k + 1) above) (cases_lt n (k + 1)))

cut_cell : (o : Object) (old : Value) (c : Cell) (b : Bits) (y : ℕ) → written_cell o old c b (y % 2 ^ b.count) ≡ written_cell o old c b y
cut_cell o old variable_cell b y = ap number (cut_at (object_width o) (as_number old) b.low b.count y)
cut_cell o old (word_cell k) b y = ap (λ z. words (slice_set (as_words old) k z)) (cut_at (object_width o) (slice_index (as_words old) k) b.low b.count y)
cut_cell o old no_cell b y = refl

cut_place : (s : Scope) (v : Valuation) (p : Place) (y : ℕ) → written_place s v p (y % 2 ^ p.bits.count) ≡ written_place s v p y
cut_place s v p y = ap (λ x. with_value v p.of_name x) (cut_cell (s p.of_name) (v p.of_name) p.cell p.bits y)

-- one more place, from the right
pub written_more : (s : Scope) (v : Valuation) (p : Place) (ps : List Place) (x : ℕ)
    → written s v (p ∷ ps) (x % 2 ^ places_width (p ∷ ps)) ≡ written_place s (written s v ps (x % 2 ^ places_width ps)) p (x / 2 ^ places_width ps)
written_more s v p ps x =
    let w = places_width ps in
    let c = p.bits.count in
    ap (λ y. written_place s (written s v ps y) p (x % 2 ^ (c + w) / 2 ^ w)) (mod-mod-pow x c w)
    ∙ ap (λ y. written_place s (written s v ps (x % 2 ^ w)) p y) (cut_high x c w)
    ∙ cut_place s (written s v ps (x % 2 ^ w)) p (x / 2 ^ w)

-- all places: what stands past their bits is not written
pub written_all : (s : Scope) (v : Valuation) (ps : List Place) (x : ℕ) → written s v ps (x % 2 ^ places_width ps) ≡ written s v ps x
written_all s v [] x = refl
written_all s v (p ∷ ps) x = written_more s v p ps x

-- what is written fits
bits_fit : (w old : ℕ) (low : ℤ) (n y : ℕ) → with_bits_at w old low n y < 2 ^ w
bits_fit w old (pos k) n y = mod_below _ w
bits_fit w old (negsuc k) n y = mod_below _ w

word_fits : (w k j y : ℕ) (xs : List ℕ) → ((i : ℕ) → slice_index xs i < 2 ^ w) → y < 2 ^ w → slice_index (slice_set xs k y) j < 2 ^ w
word_fits w k j y [] h b = h j
word_fits w zero zero y (x ∷ xs) h b = b
word_fits w zero (suc j) y (x ∷ xs) h b = h (suc j)
word_fits w (suc k) zero y (x ∷ xs) h b = h zero
word_fits w (suc k) (suc j) y (x ∷ xs) h b = word_fits w k j y xs (λ i. h (suc i)) b

cell_fits : (o : Object) (old : Value) (c : Cell) (b : Bits) (y : ℕ) → FitsObject o old → FitsObject o (written_cell o old c b y)
cell_fits o old variable_cell b y h = (bits_fit (object_width o) (as_number old) b.low b.count y, λ k. pow_pos (object_width o))
cell_fits o old (word_cell k) b y h = (
  pow_pos (object_width o),
  λ j. word_fits (object_width o) k j (with_bits (object_width o) (slice_index (as_words old) k) b y) (as_words old) h.1
      (bits_fit (object_width o) (slice_index (as_words old) k) b.low b.count y),
)
cell_fits o old no_cell b y h = h

either_fits : (s : Scope) (n m : Name) (x y : Value) (b : Bool) → same_name n m ≡ b → FitsObject (s n) x → FitsObject (s m) y → FitsObject (s m) (cond b x y)
either_fits s n m x y true is h k = subst (λ t. FitsObject (s t) x) ((bytes_eq-Decides n m).0 is) h
either_fits s n m x y false is h k = k

pub place_fits : (s : Scope) (v : Valuation) (p : Place) (y : ℕ) → HasFittingValues s v → HasFittingValues s (written_place s v p y)
place_fits s v p y h =
    λ m. either_fits s p.of_name m (written_cell (s p.of_name) (v p.of_name) p.cell p.bits y) (v m) (same_name p.of_name m) refl
    (cell_fits (s p.of_name) (v p.of_name) p.cell p.bits y (h p.of_name)) (h m)

pub written_fits : (s : Scope) (v : Valuation) (ps : List Place) (y : ℕ) → HasFittingValues s v → HasFittingValues s (written s v ps y)
written_fits s v [] y h = h
written_fits s v (p ∷ ps) y h =
    place_fits s (written s v ps (y % 2 ^ places_width ps)) p (y / 2 ^ places_width ps) (written_fits s v ps (y % 2 ^ places_width ps) h)

-- the counts of places that together have at most 128 bits
pub count_fits : (ps : List CodePlace) (d : CodePlace) (i : ℕ) → i < length ps → places_width (places_of ps) ≤ 128 → (get_or ps i d).bits.count ≤ 128
count_fits [] d i h b = absurd (omega (arith, h))
count_fits (q ∷ ps) d zero h b = omega (arith, b)
count_fits (q ∷ ps) d (suc i) h b = count_fits ps d i (omega (arith, h)) (omega (arith, b))

-- two shifts to the right
div_twice : (x w c : ℕ) → x / 2 ^ w / 2 ^ c ≡ x / 2 ^ (c + w)
div_twice x w c = shr-shr x w c ∙ ap (λ k. x / 2 ^ k) (add_comm w c)

-- a shift to the right by a count that may be the whole width
pub shr_all : (o : Option ℕ) (x c : ℕ) → x < 2 ^ 128 → SomeIff o (c < 128) (x / 2 ^ c) → unwrap_or o 0 ≡ x / 2 ^ c
shr_all None x c b h =
    let past : 128 ≤ c = ⊎_elim (λ below. absurd (h below)) (λ above. above) (cases_lt c 128) in
    let more : 2 ^ 128 ≤ 2 ^ c = pow_mono past in
    let l : x < 2 ^ c = omega (arith, b, more) in
    sym (div-eq_of_lt l)
shr_all (Some y) x c b h = h.1

-- One turn of the loop that writes from the right: the place with index m, where those from i on, the next, were written.
pub turn : (s : Scope) (v : Valuation) (ps : List CodePlace) (d : CodePlace) (x m i j : ℕ) (u after : Valuation) (rest : ℕ)
    → m < length ps → i ≡ suc m → j ≡ m
    → u ≡ written s v (places_of (drop i ps)) (x % 2 ^ places_width (places_of (drop i ps)))
    → rest ≡ x / 2 ^ places_width (places_of (drop i ps))
    → after ≡ written_place s u (place_of (get_or ps j d)) rest
    → after ≡ written s v (places_of (drop m ps)) (x % 2 ^ places_width (places_of (drop m ps)))
turn s v ps d x m i j u after rest h is_i is_j is_u is_rest is_after =
    let w = λ (k : ℕ). places_width (places_of (drop k ps)) in
    is_after
    ∙ ap (λ k. written_place s u (place_of (get_or ps k d)) rest) is_j
    ∙ ap (λ r. written_place s u (place_of (get_or ps m d)) r) is_rest
    ∙ ap (λ t. written_place s t (place_of (get_or ps m d)) (x / 2 ^ w i)) is_u
    ∙ ap (λ k. written_place s (written s v (places_of (drop k ps)) (x % 2 ^ w k)) (place_of (get_or ps m d)) (x / 2 ^ w k)) is_i
    ∙ sym (written_more s v (place_of (get_or ps m d)) (places_of (drop (suc m) ps)) x)
    ∙ ap (λ qs. written s v (places_of qs) (x % 2 ^ places_width (places_of qs))) (sym (drop-cons ps m d h))

pub turn_rest : (ps : List CodePlace) (d : CodePlace) (x m i j : ℕ) (rest next : ℕ) → m < length ps → i ≡ suc m → j ≡ m
    → rest ≡ x / 2 ^ places_width (places_of (drop i ps)) → next ≡ rest / 2 ^ (get_or ps j d).bits.count
    → next ≡ x / 2 ^ places_width (places_of (drop m ps))
turn_rest ps d x m i j rest next h is_i is_j is_rest is_next =
    let w = λ (k : ℕ). places_width (places_of (drop k ps)) in
    let c = (get_or ps m d).bits.count in
    is_next
    ∙ ap (λ k. rest / 2 ^ (get_or ps k d).bits.count) is_j
    ∙ ap (λ r. r / 2 ^ c) is_rest
    ∙ ap (λ k. x / 2 ^ w k / 2 ^ c) is_i
    ∙ div_twice x (w (suc m)) c
    ∙ ap (λ qs. x / 2 ^ places_width (places_of qs)) (sym (drop-cons ps m d h))
