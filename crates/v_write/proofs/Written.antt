-- Numbers written to places one after the other, from the right.
use Rattle.std.proofs.Common.{◌≡◌, ℕ, ◌+◌, ◌-◌, ◌*◌, ◌/◌, ◌%◌, ◌^◌, ◌<◌, ◌≤◌, List, ◌∷◌, refl, ap, sym, subst, ◌∙◌, arith, ⊎_elim, slice_index, slice_set, ℤ, pos, negsuc}
use Rattle.std.proofs.Math.Pow.{pow_pos, mod-mod-pow}
use Rattle.std.proofs.Math.Nat.{mod-lt, mod-one, mod-mod, mod-eq_of_lt}
use Rattle.std.proofs.lemmas.Nat.{mod-pow-add, div-mul-add}
use Rattle.std.proofs.lemmas.Bool.{cases_lt}
use Rattle.wb_values.specs.Value.{Value, number, words, as_number, as_words, Valuation, with_value}
use Rattle.verilog_meaning.specs.Expression.{Scope, Object, object_width, Bits}
use Rattle.verilog_meaning.specs.Statement.{Cell, variable_cell, word_cell, no_cell, Place, with_bits_at, written_cell, written_place, written, places_width}

mod_below : (x n : ℕ) → x % 2 ^ n < 2 ^ n
mod_below x n = mod-lt x (pow_pos n)

-- the high bits of a cut number
pub cut_high : (x c w : ℕ) → x % 2 ^ (c + w) / 2 ^ w ≡ x / 2 ^ w % 2 ^ c
cut_high x c w = ap (λ n. n / 2 ^ w) (mod-pow-add x c w) ∙ div-mul-add (x / 2 ^ w % 2 ^ c) (2 ^ w) (x % 2 ^ w) (mod_below x w)

-- Only so many bits of a number are written as there are places for them.
low_part : (y n m : ℕ) → (m ≤ n) → y % 2 ^ n / 2 ^ m % 2 ^ (n - m) ≡ y / 2 ^ m % 2 ^ (n - m)
low_part y n m h =
    let e : n - m + m ≡ n = omega arith in
    ap (λ k. k % 2 ^ (n - m)) (subst (λ k. y % 2 ^ k / 2 ^ m ≡ y / 2 ^ m % 2 ^ (n - m)) e (cut_high y (n - m) m))
    ∙ mod-mod (y / 2 ^ m) (2 ^ (n - m))

no_part : (x y n m : ℕ) → n ≤ m → x % 2 ^ (n - m) ≡ y % 2 ^ (n - m)
no_part x y n m h =
    let e : 0 ≡ n - m = omega arith in
    subst (λ k. x % 2 ^ k ≡ y % 2 ^ k) e (mod-one x ∙ sym (mod-one y))

cut_at : (w old : ℕ) (low : ℤ) (n y : ℕ) → with_bits_at w old low n (y % 2 ^ n) ≡ with_bits_at w old low n y
cut_at w old (pos k) n y = ap (λ z. (old % 2 ^ k + 2 ^ k * z + 2 ^ (k + n) * (old / 2 ^ (k + n))) % 2 ^ w) (mod-mod y (2 ^ n))
cut_at w old (negsuc k) n y =
    ap (λ z. (old % 2 ^ 0 + 2 ^ 0 * z + 2 ^ (0 + (n - (k + 1))) * (old / 2 ^ (0 + (n - (k + 1))))) % 2 ^ w)
    (⊎_elim (λ below. no_part (y % 2 ^ n / 2 ^ (k + 1)) (y / 2 ^ (k + 1)) n (k + 1) (omega (arith, below)))
    (λ above. low_part y n (k + 1) above) (cases_lt n (k + 1)))

cut_cell : (o : Object) (old : Value) (c : Cell) (b : Bits) (y : ℕ) → written_cell o old c b (y % 2 ^ b.count) ≡ written_cell o old c b y
cut_cell o old variable_cell b y = ap number (cut_at (object_width o) (as_number old) b.low b.count y)
cut_cell o old (word_cell k) b y = ap (λ z. words (slice_set (as_words old) k z)) (cut_at (object_width o) (slice_index (as_words old) k) b.low b.count y)
cut_cell o old no_cell b y = refl

pub cut_place : (s : Scope) (v : Valuation) (p : Place) (y : ℕ) → written_place s v p (y % 2 ^ p.bits.count) ≡ written_place s v p y
cut_place s v p y = ap (λ x. with_value v p.of_name x) (cut_cell (s p.of_name) (v p.of_name) p.cell p.bits y)

-- one more place, from the right
pub written_more : (s : Scope) (v : Valuation) (p : Place) (ps : List Place) (x : ℕ)
    → written s v (p ∷ ps) (x % 2 ^ places_width (p ∷ ps)) ≡ written_place s (written s v ps (x % 2 ^ places_width ps)) p (x / 2 ^ places_width ps % 2 ^ p.bits.count)
written_more s v p ps x =
    let w = places_width ps in
    let c = p.bits.count in
    ap (λ y. written_place s (written s v ps y) p (x % 2 ^ (c + w) / 2 ^ w)) (mod-mod-pow x c w)
    ∙ ap (λ y. written_place s (written s v ps (x % 2 ^ w)) p y) (cut_high x c w)

-- a number that fits all places
pub written_all : (s : Scope) (v : Valuation) (ps : List Place) (x w : ℕ) → w ≡ places_width ps → x < 2 ^ w → written s v ps (x % 2 ^ w) ≡ written s v ps x
written_all s v ps x w e h = ap (written s v ps) (mod-eq_of_lt {n = x} {m = 2 ^ w} h)
