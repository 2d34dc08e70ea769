-- Spans that have a bit of a table.
use Rattle.std.proofs.Common.{◌≡◌, ◌∙◌, ℕ, zero, ◌<◌, ◌≤◌, refl, ap, sym, subst, Bool, true, false, not, List, [], ◌∷◌, bit_and, inl, inr, arith}
use Rattle.std.specs.Prelude.{◌&&◌, ◌==◌, ◌⊎◌, ◌↔◌, nat_lt, IsTrue}
use Rattle.std.specs.List.{list_any}
use Rattle.std.specs.BTreeMap.{BTreeMap}
use Rattle.std.specs.Borrow.{Bor}
use Rattle.std.proofs.lemmas.Bool.{false≢true, and_parts, and_from, or_cases, or_left, or_right, cases_Bool}
use Rattle.std.proofs.lemmas.Bool.Decides.{nat_tests}
use Rattle.std.proofs.lemmas.Slice.Eq.{bytes_eq-Decides}
use Rattle.wb_values.specs.Value.{Name, same_name}
use Rattle.verilog_meaning.specs.Register.{is_set}
use Rattle.verilog_designs.specs.Reads.{BitSet, or_in}
use Rattle.verilog_designs.specs.Dependence.{is_in}
use Rattle.v_flow.specs.declared.span.Span.{Span}
use Rattle.v_flow.specs.Spans.{is_between, bits_of, bits_in}
use Rattle.v_masks.specs.Masks.{mask_under, masked, spread}
use Rattle.v_masks.proofs.Bits.{set-none, set-and, some-bit}
use Rattle.v_depend.specs.Resting.{OneIsUnsettled}
use Rattle.v_depend.specs.Tables.{span_meets}

some-number : (x : ℕ) → not (x == 0) ≡ true → 0 < x
some-number x h = grind (arith, nat_tests)

no-number : (x : ℕ) → not (x == 0) ≡ false → x ≡ 0
no-number x h = grind (arith, nat_tests)

at-least : (x : ℕ) → x ≤ x
at-least x = omega arith

from-inside : (from to : ℕ) → nat_lt from to ≡ true → is_between from to from ≡ true
from-inside from to h = grind (arith, nat_tests)

inside-some : (from to k : ℕ) → is_between from to k ≡ true → nat_lt from to ≡ true
inside-some from to k h = grind (arith, nat_tests)

module _ (t : BTreeMap (Bor (List ℕ)) ℕ) where
  span-met : (x : Span) → span_meets (mask_under t) x ≡ true → OneIsUnsettled (masked t) (bits_of x)
  span-met x h =
      let g = and_parts (nat_lt x.from_word x.to_word) (not (bit_and x.bits (mask_under t x.name.now) == 0)) h in
      let b = some-bit (bit_and x.bits (mask_under t x.name.now)) (bit_and x.bits (mask_under t x.name.now)) (at-least (bit_and x.bits (mask_under t x.name.now))) (some-number (bit_and x.bits (mask_under t x.name.now)) g.1) in
      let both = and_parts (is_set x.bits b.0) (is_set (mask_under t x.name.now) b.0) (sym (set-and x.bits (mask_under t x.name.now) b.0) ∙ b.1) in (
        record { of_name = x.name.now; word = x.from_word; place = b.0 },
        and_from (same_name x.name.now x.name.now) _ ((bytes_eq-Decides x.name.now x.name.now).1 refl)
            (and_from (is_between x.from_word x.to_word x.from_word) (is_set x.bits b.0) (from-inside x.from_word x.to_word g.0) both.0),
        both.1,
      )

  met-span : (x : Span) → OneIsUnsettled (masked t) (bits_of x) → span_meets (mask_under t) x ≡ true
  met-span x r =
      let y = r.0 in
      let a = and_parts (same_name x.name.now y.of_name) (is_between x.from_word x.to_word y.word && is_set x.bits y.place) r.1 in
      let c = and_parts (is_between x.from_word x.to_word y.word) (is_set x.bits y.place) a.1 in
      let here = subst (λ n. is_set (mask_under t n) y.place ≡ true) (sym ((bytes_eq-Decides x.name.now y.of_name).0 a.0)) r.2 in
      let m = bit_and x.bits (mask_under t x.name.now) in
      let set = set-and x.bits (mask_under t x.name.now) y.place ∙ and_from (is_set x.bits y.place) (is_set (mask_under t x.name.now) y.place) c.1 here in
      and_from (nat_lt x.from_word x.to_word) (not (m == 0)) (inside-some x.from_word x.to_word y.word c.0) (some m y.place set (cases_Bool (not (m == 0))))
    where
      some : (m b : ℕ) → is_set m b ≡ true → (not (m == 0) ≡ true) ⊎ (not (m == 0) ≡ false) → not (m == 0) ≡ true
      some m b h (inl e) = e
      some m b h (inr e) = absurd (false≢true (sym (ap (λ z. is_set z b) (no-number m e) ∙ set-none b) ∙ h))

  met-one : (xs : List Span) → list_any (span_meets (mask_under t)) xs ≡ true → OneIsUnsettled (masked t) (bits_in xs)
  met-one [] h = absurd (false≢true h)
  met-one (x ∷ xs) h =
      elim (or_cases (span_meets (mask_under t) x) (list_any (span_meets (mask_under t)) xs) h) [
        | inl e ↦ let r = span-met x e in (r.0, or_left (is_in (bits_of x) r.0) (is_in (bits_in xs) r.0) r.1, r.2)
        | inr e ↦ let r = met-one xs e in (r.0, or_right (is_in (bits_of x) r.0) (is_in (bits_in xs) r.0) r.1, r.2)
      ]

  one-met : (xs : List Span) → OneIsUnsettled (masked t) (bits_in xs) → list_any (span_meets (mask_under t)) xs ≡ true
  one-met [] r = absurd (false≢true r.1)
  one-met (x ∷ xs) r =
      elim (or_cases (is_in (bits_of x) r.0) (is_in (bits_in xs) r.0) r.1) [
        | inl e ↦ or_left (span_meets (mask_under t) x) (list_any (span_meets (mask_under t)) xs) (met-span x (r.0, e, r.2))
        | inr e ↦ or_right (span_meets (mask_under t) x) (list_any (span_meets (mask_under t)) xs) (one-met xs (r.0, e, r.2))
      ]

  pub meeting : (xs : List Span) (b : Bool) → b ≡ list_any (span_meets (mask_under t)) xs → IsTrue b ↔ OneIsUnsettled (masked t) (bits_in xs)
  meeting xs b e = (λ h. met-one xs (sym e ∙ h), λ r. e ∙ one-met xs r)

-- of other bits that are the same
pub same-bits : (p : BitSet) (q r : BitSet) (b : Bool) → q ≡ r → IsTrue b ↔ OneIsUnsettled p q → IsTrue b ↔ OneIsUnsettled p r
same-bits p q r b e h = subst (λ (z : BitSet). IsTrue b ↔ OneIsUnsettled p z) e h

-- what is added to no spans
pub begun : (xs : List Span) (q r : BitSet) → xs ≡ [] → q ≡ or_in (bits_in xs) r → q ≡ r
begun xs q r e h = h ∙ ap (λ ys. or_in (bits_in ys) r) e ∙ (λ i n k b. r n k b)

-- the mask of a name in the table of spans
pub mask-of : (t : BTreeMap (Bor (List ℕ)) ℕ) (n : Name) (m b : ℕ) (ys zs : List Span) (p : BitSet) → m ≡ mask_under t n → masked t ≡ spread (bits_in zs) → zs ≡ ys
    → bits_in ys ≡ p → is_set m b ≡ p n zero b
mask-of t n m b ys zs p e h i f =
    ap (λ z. is_set z b) e ∙ (λ i. h i n zero b) ∙ ap (λ ws. bits_in ws n zero b) i ∙ (λ i. f i n zero b)
