-- The bits of a number, one after another.
use Rattle.std.proofs.Common.{◌≡◌, ◌∙◌, ℕ, suc, ◌+◌, ◌-◌, ◌*◌, ◌/◌, ◌%◌, ◌^◌, ◌<◌, ◌≤◌, Bool, List, [], ◌∷◌, ◌++◌, length, eqb, arith, refl, sym, ap, subst, inl, inr}
use Rattle.std.proofs.lemmas.List.{map_push, length_push, length-map}
use Rattle.std.proofs.lemmas.List.Elements.{All-nil, All-push}
use Rattle.std.proofs.lemmas.Nat.{div-add-mod', mod_below}
use Rattle.std.proofs.lemmas.Bool.{cases_eq, eq-eqb, ne_eqb}
use Rattle.std.proofs.Math.Nat.{pow-succ'}
use Rattle.gate_base.specs.declared.bits.Bit.{Bit}
use Rattle.gate_base.specs.declared.bits.Bit.TheVariants.{Constant}
use Rattle.gate_base.specs.Circuit.{Circuit, IsKnown, bit_value}
use Rattle.gate_words.specs.Binary.{digit, number_of, values, number_under, AreKnown}
use Rattle.gate_words.proofs.Numbers.{number-append}

-- so many bits are done, and the rest is what is left of the number
pub record IsConstant (number width place rest : ℕ) (bits : List Bit) : Type 0 where
  pub known_bits : (c : Circuit) → AreKnown c bits
  pub count : length bits ≡ place
  pub left : rest < 2 ^ (width - place)
  pub so_far : (w : List Bool) → rest * 2 ^ place + number_under w bits ≡ number

pub constant_start : (number width : ℕ) → number < 2 ^ width → IsConstant number width 0 number []
constant_start number width h = record {
  known_bits = λ c. All-nil (IsKnown c);
  count = refl;
  left = let e : width ≡ width - 0 = omega arith in subst (λ n. number < 2 ^ n) e h;
  so_far = λ w. omega arith;
}

odd_digit : (r : ℕ) → r < 2 → digit (eqb r 1) ≡ r
odd_digit r h = elim (cases_eq r 1) [
  | inl e ↦ ap digit (eq-eqb r 1 e) ∙ sym e
  | inr e ↦ ap digit (ne_eqb r 1 e) ∙ omega (arith, h, e)
]

half_below : (r n : ℕ) → r < 2 * n → r / 2 < n
half_below r n h = grind (arith, div-add-mod' r 2, mod_below r 2)

carried_over : (q d p r nb : ℕ) → q * 2 + d ≡ r → q * (2 * p) + (d * p + nb) ≡ r * p + nb
carried_over q d p r nb e = subst (λ n. q * (2 * p) + (d * p + nb) ≡ n * p + nb) e (grind arith)

pub constant_turn : (number width place rest : ℕ) (bits more : List Bit) → place < width → more ≡ bits ++ Constant (eqb (rest % 2) 1) ∷ []
    → IsConstant number width place rest bits → IsConstant number width (place + 1) (rest / 2) more
constant_turn number width place rest bits more i e h = record {
  known_bits = λ c. subst (AreKnown c) (sym e) (All-push (IsKnown c) bits (Constant (eqb (rest % 2) 1)) (h.known_bits c) tt);
  count = ap length e ∙ (length_push bits (Constant (eqb (rest % 2) 1)) ∙ omega (arith, h.count));
  left =
      let s : width - place ≡ suc (width - (place + 1)) = omega (arith, i) in
      half_below rest (2 ^ (width - (place + 1))) (subst (λ n. rest < n) (ap (λ n. 2 ^ n) s ∙ pow-succ' 2 (width - (place + 1))) h.left);
  so_far = λ w.
      let d = digit (eqb (rest % 2) 1) in
      let one : number_of (eqb (rest % 2) 1 ∷ []) ≡ rest % 2 = omega (arith, odd_digit (rest % 2) (mod_below rest 2 (omega arith))) in
      let long : length (values w bits) ≡ place = length-map bits (bit_value w) ∙ h.count in
      let v : number_under w more ≡ (rest % 2) * 2 ^ place + number_under w bits =
      ap (number_under w) e ∙ (ap number_of (map_push (bit_value w) bits (Constant (eqb (rest % 2) 1)))
      ∙ (number-append (values w bits) (eqb (rest % 2) 1 ∷ []) ∙ (ap (λ n. n * 2 ^ length (values w bits) + number_under w bits) one ∙ ap (λ n. (rest % 2) * 2 ^ n + number_under w bits) long))) in
      let p : 2 ^ (place + 1) ≡ 2 * 2 ^ place = (let t : place + 1 ≡ suc place = omega arith in ap (λ n. 2 ^ n) t ∙ pow-succ' 2 place) in
      ap (λ n. rest / 2 * 2 ^ (place + 1) + n) v
      ∙ (ap (λ n. rest / 2 * n + ((rest % 2) * 2 ^ place + number_under w bits)) p
      ∙ (carried_over (rest / 2) (rest % 2) (2 ^ place) rest (number_under w bits) (div-add-mod' rest 2) ∙ h.so_far w));
}

pub constant_end : (number width place rest : ℕ) (bits : List Bit) → width ≤ place → IsConstant number width place rest bits
    → (w : List Bool) → number_under w bits ≡ number
constant_end number width place rest bits i h w =
    let e : width - place ≡ 0 = omega (arith, i) in
    let z : rest ≡ 0 = (let b = subst (λ n. rest < 2 ^ n) e h.left in omega (arith, b)) in
    sym (ap (λ n. n * 2 ^ place + number_under w bits) z ∙ omega arith) ∙ h.so_far w
