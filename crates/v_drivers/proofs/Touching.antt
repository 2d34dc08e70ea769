-- What a mask of spans says of the set that they are: of a memory that something is in it, of anything else its bits.
use Rattle.std.proofs.Common.{◌≡◌, ◌∙◌, ℕ, zero, suc, ◌<◌, refl, ap, sym, subst, cond, arith, Bool, true, false, not, bit_and, List, [], ◌∷◌}
use Rattle.std.specs.Prelude.{◌&&◌, ◌||◌, ◌==◌, nat_lt, nat_le}
use Rattle.std.specs.List.{list_any}
use Rattle.std.proofs.lemmas.Bool.{false≢true, and_parts, and_from, or_left, or_right, lt-ltb, le-leb, ltb-true, leb-true}
use Rattle.std.proofs.lemmas.Bool.Decides.{nat_tests}
use Rattle.std.proofs.lemmas.Slice.Eq.{bytes_eq-Decides}
use Rattle.std.proofs.lemmas.Nat.Bits.{bit_at-suc}
use Rattle.wb_values.specs.Value.{Name, same_name}
use Rattle.verilog_meaning.specs.Expression.{Scope, is_memory}
use Rattle.verilog_meaning.specs.Register.{is_set}
use Rattle.verilog_designs.specs.Reads.{BitSet, no_bits, or_in}
use Rattle.v_flow.specs.declared.span.Span.{Span}
use Rattle.v_flow.specs.Spans.{is_between, bits_of, bits_in}
use Rattle.v_masks.proofs.Bits.{set-none, set-or, set-and, some-bit}
use Rattle.v_drivers.specs.Tables.{Masks, span_mask, spans_mask, span_meets}

-- what a set has of a name, which is a memory or not
abbrev pub touched : Bool → BitSet → Name → ℕ → Type 0
touched false p n b = p n zero b ≡ true
touched true p n b = (b ≡ 0) × (k : ℕ) × (c : ℕ) × (p n k c ≡ true)

abbrev pub Touches : Scope → BitSet → Name → ℕ → Type 0
Touches s p n b = touched (is_memory (s n)) p n b

-- ---- choices

either : {A : Type 0} (p q : Bool) → (p || q) ≡ true → (p ≡ true → A) → (q ≡ true → A) → A
either true q h f g = f refl
either false q h f g = g h

pub case-on : {A : Type 0} (t : Bool) → (t ≡ true → A) → (t ≡ false → A) → A
case-on true f g = f refl
case-on false f g = g refl

-- ---- one span

one-bit : (b : ℕ) → is_set 1 b ≡ true → b ≡ 0
one-bit zero h = refl
one-bit (suc b) h = absurd (false≢true (sym (ap (λ z. z == 1) (bit_at-suc 1 b) ∙ set-none b) ∙ h))

in-choice : (t : Bool) (x b : ℕ) → is_set (cond t x 0) b ≡ true → (t ≡ true) × (is_set x b ≡ true)
in-choice true x b h = (refl, h)
in-choice false x b h = absurd (false≢true (sym (set-none b) ∙ h))

choice-in : (t : Bool) (x b : ℕ) → t ≡ true → is_set x b ≡ true → is_set (cond t x 0) b ≡ true
choice-in true x b e h = h
choice-in false x b e h = absurd (false≢true e)

bits-positive : (x b : ℕ) → is_set x b ≡ true → 0 < x
bits-positive zero b h = absurd (false≢true (sym (set-none b) ∙ h))
bits-positive (suc x) b h = omega arith

pub same-self : (n : Name) → same_name n n ≡ true
same-self n = (bytes_eq-Decides n n).1 refl

abbrev has : Span → Bool
has x = nat_lt x.from_word x.to_word && nat_lt 0 x.bits

abbrev mask_as : Bool → Span → ℕ
mask_as m x = cond m (cond (has x) 1 0) (cond (is_between x.from_word x.to_word zero) x.bits 0)

mask-touches : (m : Bool) (x : Span) (b : ℕ) → is_set (mask_as m x) b ≡ true → touched m (bits_of x) x.name.now b
mask-touches false x b h =
    let p = in-choice (is_between x.from_word x.to_word zero) x.bits b h in
    and_from (same_name x.name.now x.name.now) (is_between x.from_word x.to_word zero && is_set x.bits b) (same-self x.name.now)
    (and_from (is_between x.from_word x.to_word zero) (is_set x.bits b) p.0 p.1)
mask-touches true x b h =
    let p = in-choice (has x) 1 b h in
    let q = and_parts (nat_lt x.from_word x.to_word) (nat_lt 0 x.bits) p.0 in
    let some = some-bit x.bits x.bits (omega arith) (ltb-true 0 x.bits q.1) in
    let here = and_from (nat_le x.from_word x.from_word) (nat_lt x.from_word x.to_word) (le-leb x.from_word x.from_word (omega arith)) q.0 in (
      one-bit b p.1,
      x.from_word,
      some.0,
      and_from (same_name x.name.now x.name.now) (is_between x.from_word x.to_word x.from_word && is_set x.bits some.0) (same-self x.name.now)
          (and_from (is_between x.from_word x.to_word x.from_word) (is_set x.bits some.0) here some.1),
    )

touches-mask : (m : Bool) (x : Span) (n : Name) (b : ℕ) → touched m (bits_of x) n b → (same_name x.name.now n ≡ true) × (is_set (mask_as m x) b ≡ true)
touches-mask false x n b h =
    let p = and_parts (same_name x.name.now n) (is_between x.from_word x.to_word zero && is_set x.bits b) h in
    let q = and_parts (is_between x.from_word x.to_word zero) (is_set x.bits b) p.1 in
    (p.0, choice-in (is_between x.from_word x.to_word zero) x.bits b q.0 q.1)
touches-mask true x n b (e, k, c, h) =
    let p = and_parts (same_name x.name.now n) (is_between x.from_word x.to_word k && is_set x.bits c) h in
    let q = and_parts (is_between x.from_word x.to_word k) (is_set x.bits c) p.1 in
    let w = and_parts (nat_le x.from_word k) (nat_lt k x.to_word) q.0 in
    let words : x.from_word < x.to_word = omega (arith, leb-true x.from_word k w.0, ltb-true k x.to_word w.1) in
    let some = and_from (nat_lt x.from_word x.to_word) (nat_lt 0 x.bits) (lt-ltb x.from_word x.to_word words) (lt-ltb 0 x.bits (bits-positive x.bits c q.1)) in
    (p.0, choice-in (has x) 1 b some (subst (λ z. is_set 1 z ≡ true) (sym e) refl))

pub name-of : (x : Span) (n : Name) → same_name x.name.now n ≡ true → x.name.now ≡ n
name-of x n h = (bytes_eq-Decides x.name.now n).0 h

pub span-touches : (s : Scope) (x : Span) (n : Name) (b : ℕ) → same_name x.name.now n ≡ true → is_set (span_mask s x) b ≡ true → Touches s (bits_of x) n b
span-touches s x n b e h = subst (λ m. Touches s (bits_of x) m b) (name-of x n e) (mask-touches (is_memory (s x.name.now)) x b h)

pub touches-span : (s : Scope) (x : Span) (n : Name) (b : ℕ) → Touches s (bits_of x) n b → (same_name x.name.now n ≡ true) × (is_set (span_mask s x) b ≡ true)
touches-span s x n b h =
    let same = (touches-mask (is_memory (s n)) x n b h).0 in
    (same, subst (λ m. is_set (mask_as (is_memory (s m)) x) b ≡ true) (sym (name-of x n same)) (touches-mask (is_memory (s n)) x n b h).1)

-- ---- sets that are joined

pub touched-left : (m : Bool) (p q : BitSet) (n : Name) (b : ℕ) → touched m p n b → touched m (or_in p q) n b
touched-left false p q n b h = or_left (p n zero b) (q n zero b) h
touched-left true p q n b (e, k, c, h) = (e, k, c, or_left (p n k c) (q n k c) h)

pub touched-right : (m : Bool) (p q : BitSet) (n : Name) (b : ℕ) → touched m q n b → touched m (or_in p q) n b
touched-right false p q n b h = or_right (p n zero b) (q n zero b) h
touched-right true p q n b (e, k, c, h) = (e, k, c, or_right (p n k c) (q n k c) h)

pub touched-parts : {A : Type 0} (m : Bool) (p q : BitSet) (n : Name) (b : ℕ) → touched m (or_in p q) n b → (touched m p n b → A) → (touched m q n b → A) → A
touched-parts false p q n b h f g = either (p n zero b) (q n zero b) h f g
touched-parts true p q n b (e, k, c, h) f g = either (p n k c) (q n k c) h (λ i. f (e, k, c, i)) (λ i. g (e, k, c, i))

untouched : {A : Type 0} (m : Bool) (n : Name) (b : ℕ) → touched m no_bits n b → A
untouched false n b h = absurd (false≢true h)
untouched true n b (e, k, c, h) = absurd (false≢true h)

-- ---- spans

pub mask-bits : (s : Scope) (xs : List Span) (n : Name) (b : ℕ) → is_set (spans_mask s xs n) b ≡ true → Touches s (bits_in xs) n b
mask-bits s [] n b h = absurd (false≢true (sym (set-none b) ∙ h))
mask-bits s (x ∷ xs) n b h =
    either (is_set (cond (same_name x.name.now n) (span_mask s x) 0) b) (is_set (spans_mask s xs n) b)
    (sym (set-or (cond (same_name x.name.now n) (span_mask s x) 0) (spans_mask s xs n) b) ∙ h)
    (λ e. let p = in-choice (same_name x.name.now n) (span_mask s x) b e in
    touched-left (is_memory (s n)) (bits_of x) (bits_in xs) n b (span-touches s x n b p.0 p.1))
    (λ e. touched-right (is_memory (s n)) (bits_of x) (bits_in xs) n b (mask-bits s xs n b e))

pub bits-mask : (s : Scope) (xs : List Span) (n : Name) (b : ℕ) → Touches s (bits_in xs) n b → is_set (spans_mask s xs n) b ≡ true
bits-mask s [] n b h = untouched (is_memory (s n)) n b h
bits-mask s (x ∷ xs) n b h =
    set-or (cond (same_name x.name.now n) (span_mask s x) 0) (spans_mask s xs n) b
    ∙ touched-parts (is_memory (s n)) (bits_of x) (bits_in xs) n b h
    (λ t. let p = touches-span s x n b t in
    or_left (is_set (cond (same_name x.name.now n) (span_mask s x) 0) b) (is_set (spans_mask s xs n) b)
    (choice-in (same_name x.name.now n) (span_mask s x) b p.0 p.1))
    (λ t. or_right (is_set (cond (same_name x.name.now n) (span_mask s x) 0) b) (is_set (spans_mask s xs n) b) (bits-mask s xs n b t))

-- ---- spans and a table

pub record InBoth (s : Scope) (f : Masks) (p : BitSet) : Type 0 where
  pub name : Name
  pub bit : ℕ
  pub in_table : is_set (f name) bit ≡ true
  pub in_set : Touches s p name bit

positive-meets : (n : ℕ) → not (n == 0) ≡ true → 0 < n
positive-meets zero h = absurd (false≢true h)
positive-meets (suc n) h = omega arith

meets-positive : (n : ℕ) → 0 < n → not (n == 0) ≡ true
meets-positive n h = grind (arith, nat_tests, h)

pub meets-both : (s : Scope) (f : Masks) (xs : List Span) → list_any (span_meets s f) xs ≡ true → InBoth s f (bits_in xs)
meets-both s f [] h = absurd (false≢true h)
meets-both s f (x ∷ xs) h =
    either (span_meets s f x) (list_any (span_meets s f) xs) h
    (λ e. let both = bit_and (f x.name.now) (span_mask s x) in
    let some = some-bit both both (omega arith) (positive-meets both e) in
    let p = and_parts (is_set (f x.name.now) some.0) (is_set (span_mask s x) some.0) (sym (set-and (f x.name.now) (span_mask s x) some.0) ∙ some.1) in
    record {
      name = x.name.now;
      bit = some.0;
      in_table = p.0;
      in_set = touched-left (is_memory (s x.name.now)) (bits_of x) (bits_in xs) x.name.now some.0
          (span-touches s x x.name.now some.0 (same-self x.name.now) p.1);
    })
    (λ e. let rest = meets-both s f xs e in
    record {
      name = rest.name;
      bit = rest.bit;
      in_table = rest.in_table;
      in_set = touched-right (is_memory (s rest.name)) (bits_of x) (bits_in xs) rest.name rest.bit rest.in_set;
    })

both-meets-at : (s : Scope) (f : Masks) (xs : List Span) (n : Name) (b : ℕ) → is_set (f n) b ≡ true → Touches s (bits_in xs) n b → list_any (span_meets s f) xs ≡ true
both-meets-at s f [] n b h t = untouched (is_memory (s n)) n b t
both-meets-at s f (x ∷ xs) n b h t =
    touched-parts (is_memory (s n)) (bits_of x) (bits_in xs) n b t
    (λ u. let p = touches-span s x n b u in
    let g = subst (λ m. is_set (f m) b ≡ true) (sym (name-of x n p.0)) h in
    let i = set-and (f x.name.now) (span_mask s x) b ∙ and_from (is_set (f x.name.now) b) (is_set (span_mask s x) b) g p.1 in
    or_left (span_meets s f x) (list_any (span_meets s f) xs)
    (meets-positive (bit_and (f x.name.now) (span_mask s x)) (bits-positive (bit_and (f x.name.now) (span_mask s x)) b i)))
    (λ u. or_right (span_meets s f x) (list_any (span_meets s f) xs) (both-meets-at s f xs n b h u))

pub both-meets : (s : Scope) (f : Masks) (xs : List Span) → InBoth s f (bits_in xs) → list_any (span_meets s f) xs ≡ true
both-meets s f xs t = both-meets-at s f xs t.name t.bit t.in_table t.in_set
