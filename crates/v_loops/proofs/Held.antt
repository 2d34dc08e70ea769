-- Spans that a table has bits of, and tables and lists that begin empty.
use Rattle.std.proofs.Common.{◌≡◌, ◌∙◌, ℕ, ◌+◌, ◌<◌, refl, ap, sym, subst, arith, Bool, true, false, List, [], ◌∷◌, ◌++◌, length, drop, get_or, Bor, unwrap_or, bit_and}
use Rattle.std.specs.Prelude.{◌&&◌, ◌||◌, ◌==◌, ◌↔◌, IsTrue}
use Rattle.std.specs.Ordering.{nat_cmp}
use Rattle.std.specs.Cmp.Lexicographic.{slice_cmp}
use Rattle.std.specs.BTreeMap.{BTreeMap, is_at}
use Rattle.std.specs.Map.{lookup}
use Rattle.std.proofs.lemmas.Bool.{false≢true, eqb-true}
use Rattle.std.proofs.lemmas.Slice.Eq.{bytes_eq-Decides}
use Rattle.std.proofs.lemmas.List.{drop_more}
use Rattle.wb_values.specs.Value.{Name, same_name}
use Rattle.verilog_meaning.specs.Register.{is_set}
use Rattle.verilog_designs.specs.Reads.{BitSet, no_bits, or_in, and_in}
use Rattle.v_flow.specs.declared.span.Span.{Span}
use Rattle.v_flow.specs.Spans.{is_between, bits_of, bits_in}
use Rattle.v_flow.proofs.Sets.{push, turn}
use Rattle.v_masks.specs.Masks.{mask_under, masked}
use Rattle.v_masks.proofs.Bits.{set-none, set-and}
use Rattle.v_loops.specs.Turns.{HasFirst}

-- ---- one span

and-moved : (w c m : Bool) → (w && (c && m)) ≡ ((w && c) && m)
and-moved true c m = refl
and-moved false c m = refl

and-none : (t : Bool) → (t && false) ≡ false
and-none true = refl
and-none false = refl

module _ (t : BTreeMap (Bor (List ℕ)) ℕ) (x : Span) where
  -- the bits of the span that the table has, by the name
  abbrev both : ℕ
  both = bit_and x.bits (mask_under t x.name.now)

  by-name : (q : Name) (k b : ℕ) (s : Bool) → same_name x.name.now q ≡ s
      → (s && (is_between x.from_word x.to_word k && is_set both b)) ≡ ((s && (is_between x.from_word x.to_word k && is_set x.bits b)) && is_set (mask_under t q) b)
  by-name q k b true h =
      ap (λ z. is_between x.from_word x.to_word k && z) (set-and x.bits (mask_under t x.name.now) b)
      ∙ and-moved (is_between x.from_word x.to_word k) (is_set x.bits b) (is_set (mask_under t x.name.now) b)
      ∙ ap (λ n. (is_between x.from_word x.to_word k && is_set x.bits b) && is_set (mask_under t n) b) ((bytes_eq-Decides x.name.now q).0 h)
  by-name q k b false h = refl

  held-at : (q : Name) (k b : ℕ) → (same_name x.name.now q && (is_between x.from_word x.to_word k && is_set both b)) ≡ and_in (bits_of x) (masked t) q k b
  held-at q k b = by-name q k b (same_name x.name.now q) refl

  none-at : (q : Name) (k b : ℕ) → both ≡ 0 → no_bits q k b ≡ and_in (bits_of x) (masked t) q k b
  none-at q k b e =
      sym (ap (λ z. same_name x.name.now q && (is_between x.from_word x.to_word k && is_set z b)) e
      ∙ ap (λ z. same_name x.name.now q && (is_between x.from_word x.to_word k && z)) (set-none b)
      ∙ ap (λ z. same_name x.name.now q && z) (and-none (is_between x.from_word x.to_word k)) ∙ and-none (same_name x.name.now q))
      ∙ held-at q k b

  -- the table has none
  pub none-held : both ≡ 0 → no_bits ≡ and_in (bits_of x) (masked t)
  none-held e = λ i q k b. none-at q k b e i

  module _ (y : Span) (n : y.name.now ≡ x.name.now) (f : y.from_word ≡ x.from_word) (l : y.to_word ≡ x.to_word) (bits : y.bits ≡ both) where
    some-at : (q : Name) (k b : ℕ) → bits_of y q k b ≡ and_in (bits_of x) (masked t) q k b
    some-at q k b =
        ap (λ m. same_name m q && (is_between y.from_word y.to_word k && is_set y.bits b)) n
        ∙ ap (λ v. same_name x.name.now q && (is_between v y.to_word k && is_set y.bits b)) f
        ∙ ap (λ v. same_name x.name.now q && (is_between x.from_word v k && is_set y.bits b)) l
        ∙ ap (λ v. same_name x.name.now q && (is_between x.from_word x.to_word k && is_set v b)) bits
        ∙ held-at q k b

    same-bits : bits_of y ≡ and_in (bits_of x) (masked t)
    same-bits = λ i q k b. some-at q k b i

    -- the span of those that it has
    pub some-held : (old new : List Span) → new ≡ old ++ y ∷ [] → bits_in new ≡ or_in (bits_in old) (and_in (bits_of x) (masked t))
    some-held old new e = ap bits_in e ∙ push old y ∙ ap (or_in (bits_in old)) same-bits

-- ---- the spans of a list

over-or : (p q m : Bool) → (p || q) && m ≡ (p && m) || (q && m)
over-or true true true = refl
over-or true true false = refl
over-or true false true = refl
over-or true false false = refl
over-or false q m = refl

and-spans : (p q m : BitSet) → and_in (or_in p q) m ≡ or_in (and_in p m) (and_in q m)
and-spans p q m = λ i n k b. over-or (p n k b) (q n k b) (m n k b) i

pub held-turn : (xs : List Span) (i : ℕ) (d : Span) (m t a b : BitSet) → i < length xs → b ≡ or_in a (and_in (bits_of (get_or xs i d)) m)
    → t ≡ or_in a (and_in (bits_in (drop i xs)) m) → t ≡ or_in b (and_in (bits_in (drop (i + 1) xs)) m)
held-turn xs i d m t a b l e g =
    let x = bits_of (get_or xs i d) in
    let rest = bits_in (drop (i + 1) xs) in
    turn t a b (and_in x m) (and_in rest m) (g ∙ ap (λ ys. or_in a (and_in (bits_in ys) m)) (drop_more xs i d l) ∙ ap (or_in a) (and-spans x rest m)) e

-- ---- what is empty

pub no-items : (xs : List Span) → (length xs == 0) ≡ true → xs ≡ []
no-items [] h = refl
no-items (x ∷ xs) h = absurd (omega (arith, eqb-true (length (x ∷ xs)) 0 h))

pub no-first : (xs : List Span) → xs ≡ [] → IsTrue false ↔ HasFirst (bits_in xs)
no-first xs e = ((λ h. absurd (false≢true h)), (λ h. absurd (false≢true (subst (λ (ys : List Span). bits_in ys h.0 0 h.1 ≡ true) e h.2))))

clear-at : (t : BTreeMap (Bor (List ℕ)) ℕ) → t.entries ≡ [] → (q : Name) (b : ℕ) → is_set (mask_under t q) b ≡ false
clear-at t e q b =
    ap (λ (es : List (Bor (List ℕ) × ℕ)). is_set (unwrap_or (lookup (is_at (λ (c : Bor (List ℕ)). slice_cmp nat_cmp q c.now)) es) 0) b) e ∙ set-none b

pub none-masked : (t : BTreeMap (Bor (List ℕ)) ℕ) → t.entries ≡ [] → masked t ≡ no_bits
none-masked t e = λ i q k b. clear-at t e q b i
