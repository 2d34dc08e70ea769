-- Products as sums of rows.
use Rattle.std.proofs.Common.{◌≡◌, ◌∙◌, ℕ, zero, suc, ◌+◌, ◌-◌, ◌*◌, ◌%◌, ◌^◌, ◌<◌, ◌≤◌, Bool, true, false, cond, List, [], ◌∷◌, ◌++◌, length, take, replicate, get_or, arith, refl, sym, ap, subst}
use Rattle.std.proofs.Math.Nat.{add-mod-mod, mod-add-mod}
use Rattle.std.proofs.lemmas.Nat.{mod-mul-add, pow_pos}
use Rattle.std.proofs.lemmas.List.{length-map, length-append, length-replicate, length-take-le, take_all}
use Rattle.std.proofs.lemmas.List.Elements.{All-replicate}
use Rattle.wb_values.specs.Number.{word_mul}
use Rattle.gate_base.specs.declared.bits.Bit.{Bit}
use Rattle.gate_base.specs.declared.bits.Bit.TheVariants.{Constant}
use Rattle.gate_base.specs.Circuit.{Circuit, IsKnown, Grows, FollowsCircuit, bit_value}
use Rattle.gate_words.specs.declared.chains.Cell.TheVariants as cell
use Rattle.gate_words.specs.declared.shifts.Direction.TheVariants.{Up}
use Rattle.gate_words.specs.Binary.{digit, number_of, number_under, values, AreKnown}
use Rattle.gate_words.specs.Cells.{outputs, IsChain}
use Rattle.gate_words.specs.Words.{WritesWord, IsWithRow}
use Rattle.gate_words.proofs.Numbers.{number_below, number-sum, number-zeros, length-outputs}
use Rattle.gate_words.proofs.Growing.{same, onward}
use Rattle.gate_words.proofs.Moving.{chosen_values, one_value, values_up, up_number, fill_values}

-- a row that is chosen or 0, added
added : (y : Bool) (s x m : ℕ) → (s + cond y (x % m) 0) % m ≡ (s + digit y * x) % m
added true s x m = let e : x ≡ 1 * x = omega arith in add-mod-mod s x m ∙ ap (λ k. (s + k) % m) e
added false s x m = let e : 0 ≡ 0 * x = omega arith in ap (λ k. (s + k) % m) e

cond_number : (y : Bool) (xs ys : List Bool) (m n : ℕ) → number_of xs ≡ m → number_of ys ≡ n → number_of (cond y xs ys) ≡ cond y m n
cond_number true xs ys m n e f = e
cond_number false xs ys m n e f = f

pub row_end : (c d : Circuit) (sum xs moved nothing row bits : List Bit) (chosen last carry : Bit) (place : ℕ) → Grows c d → length sum ≡ length xs → place ≤ length xs
    → moved ≡ replicate place (Constant false) ++ take (length xs - place) xs → nothing ≡ replicate (length xs) (Constant false)
    → IsChain c cell.Choose chosen moved nothing row last → IsChain d cell.Sum (Constant false) sum row bits carry → IsWithRow d sum xs chosen place bits
row_end c d sum xs moved nothing row bits chosen last carry place g n i m z h k =
    let lm : length moved ≡ length xs = ap length m ∙ (length-append (replicate place (Constant false)) (take (length xs - place) xs)
    ∙ omega (arith, i, length-replicate place (Constant false), length-take-le (length xs - place) xs (omega arith))) in
    let lz : length nothing ≡ length xs = ap length z ∙ length-replicate (length xs) (Constant false) in
    record {
      known = k.known_bits;
      width = k.width ∙ n;
      number = λ w f.
          let ls : length (values w sum) ≡ length xs = length-map sum (bit_value w) ∙ n in
          let lr : length (values w sum) ≡ length (values w row) = ls ∙ (sym (h.width ∙ lm) ∙ sym (length-map row (bit_value w))) in
          let up : number_of (values w moved) ≡ (number_under w xs * 2 ^ place) % 2 ^ length xs =
          ap number_of (ap (values w) m ∙ values_up w place (Constant false) xs i)
          ∙ (up_number place (values w xs) (number_below (values w xs)) ∙ ap (λ p. (number_under w xs * 2 ^ place) % 2 ^ p) (length-map xs (bit_value w))) in
          let none : number_of (values w nothing) ≡ 0 = ap number_of (ap (values w) z ∙ fill_values w (length xs) (Constant false)) ∙ number-zeros (length xs) in
          let r : number_under w row ≡ cond (bit_value w chosen) ((number_under w xs * 2 ^ place) % 2 ^ length xs) 0 =
          ap number_of (chosen_values c chosen last moved nothing row w (lm ∙ sym lz) h (g.follows w f)) ∙ cond_number (bit_value w chosen) (values w moved) (values w nothing) _ _ up none in
          let e : number_under w sum + number_under w row + 0 ≡ number_under w sum + number_under w row = omega arith in
          ap number_of (k.are_outputs w f)
          ∙ (number-sum false (values w sum) (values w row) lr
          ∙ (ap (λ p. p % 2 ^ length (values w sum)) e
          ∙ (ap (λ p. (number_under w sum + number_under w row) % 2 ^ p) ls
          ∙ (ap (λ p. (number_under w sum + p) % 2 ^ length xs) r
          ∙ added (bit_value w chosen) (number_under w sum) (number_under w xs * 2 ^ place) (2 ^ length xs)))));
    }

-- so many rows are added
pub record IsMultiplying (old now : Circuit) (xs ys sum : List Bit) (place : ℕ) : Type 0 where
  pub grows : Grows old now
  pub known : AreKnown now sum
  pub width : length sum ≡ length xs
  pub number : (w : List Bool) → FollowsCircuit w now → number_under w sum ≡ (number_under w xs * number_of (take place (values w ys))) % 2 ^ length xs

pub multiplying_start : (c : Circuit) (xs ys sum : List Bit) → sum ≡ replicate (length xs) (Constant false) → IsMultiplying c c xs ys sum 0
multiplying_start c xs ys sum e = record {
  grows = same c;
  known = subst (AreKnown c) (sym e) (All-replicate (IsKnown c) (length xs) (Constant false) tt);
  width = ap length e ∙ length-replicate (length xs) (Constant false);
  number = λ w f.
      let z : 0 * 2 ^ length xs + 0 ≡ number_under w xs * 0 = omega arith in
      ap number_of (ap (values w) e ∙ fill_values w (length xs) (Constant false)) ∙ (number-zeros (length xs)
      ∙ (sym (mod-mul-add 0 (2 ^ length xs) 0 (pow_pos (length xs))) ∙ ap (λ k. k % 2 ^ length xs) z));
}

rows : (x t d p : ℕ) → x * t + d * (x * p) ≡ x * (d * p + t)
rows x t d p = grind arith

pub multiplying_turn : (old now new : Circuit) (xs ys sum seen bits : List Bit) (place : ℕ) (x : Bit) → IsMultiplying old now xs ys sum place → Grows now new
    → seen ≡ sum → IsWithRow new seen xs (get_or ys place x) place bits → place < length ys → IsMultiplying old new xs ys bits (place + 1)
multiplying_turn old now new xs ys sum seen bits place x h g same_sum r i = record {
  grows = onward h.grows g;
  known = r.known;
  width = r.width;
  number = λ w f.
      let t = number_of (take place (values w ys)) in
      let n = number_under w xs in
      let d = digit (bit_value w (get_or ys place x)) in
      r.number w f
      ∙ (ap (λ k. (k + d * (n * 2 ^ place)) % 2 ^ length xs) (ap (number_under w) same_sum ∙ h.number w (g.follows w f))
      ∙ (mod-add-mod (n * t) (2 ^ length xs) (d * (n * 2 ^ place))
      ∙ (ap (λ k. k % 2 ^ length xs) (rows n t d (2 ^ place)) ∙ ap (λ k. (n * k) % 2 ^ length xs) (sym (one_value w ys place x i)))));
}

pub multiplying_end : (old now : Circuit) (xs ys sum : List Bit) (place : ℕ) → IsMultiplying old now xs ys sum place → length ys ≤ place → WritesWord now word_mul xs ys sum
multiplying_end old now xs ys sum place h i = record {
  known = h.known;
  width = h.width;
  number = λ w f.
      h.number w f ∙ ap (λ zs. (number_under w xs * number_of zs) % 2 ^ length xs) (take_all place (values w ys) (omega (arith, i, length-map ys (bit_value w))));
}
