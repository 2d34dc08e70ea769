-- Spans that have a bit, and what that says of sets.
use Rattle.std.proofs.Common.{◌≡◌, ◌∙◌, ℕ, zero, suc, ◌<◌, refl, ap, sym, subst, arith, Bool, true, false, not, List, [], ◌∷◌}
use Rattle.std.specs.Prelude.{◌&&◌, ◌||◌, ◌↔◌, nat_lt, nat_le, is_none, IsTrue}
use Rattle.std.proofs.lemmas.Bool.{false≢true, and_parts, and_from, or_left, or_right, lt-ltb, le-leb, ltb-true, leb-true}
use Rattle.std.proofs.lemmas.Slice.Eq.{bytes_eq-Decides}
use Rattle.wb_values.specs.Value.{Name, same_name}
use Rattle.verilog_trees.specs.Syntax as pure
use Rattle.verilog_meaning.specs.Expression.{Scope, is_memory}
use Rattle.verilog_meaning.specs.Register.{is_set, is_bit_of, may_assign}
use Rattle.verilog_designs.specs.Reads.{BitSet, or_in, but_not_in, surely_assigns, reads_outside}
use Rattle.verilog_designs.specs.Paths.{is_latched}
use Rattle.v_flow.specs.declared.span.Span.{Span}
use Rattle.v_flow.specs.Spans.{is_between, bits_of, bits_in, existing}
use Rattle.v_masks.specs.Masks.{spread}
use Rattle.v_paths.specs.Premises.{AssignsNoMemory}
use Rattle.v_paths.specs.Walks.{sure_at, outside_at}
use Rattle.v_paths.specs.Latches.{HasLatchedBit, has_bit, one_has_bit}
use Rattle.v_masks.proofs.Bits.{set-none, some-bit}
use Rattle.v_masks.proofs.Plain.{first-word}
use Rattle.v_paths.proofs.Plain.{point}

-- a bit of a set, of a name that is so
pub record IsThere (p : BitSet) (is_so : Name → Bool) : Type 0 where
  pub name : Name
  pub word : ℕ
  pub bit : ℕ
  pub is_in : p name word bit ≡ true
  pub so : is_so name ≡ true

-- ---- one span

span-has : (is_so : Name → Bool) (x : Span) → (has_bit x && is_so x.name.now) ≡ true → IsThere (bits_of x) is_so
span-has is_so x h =
    let p = and_parts (has_bit x) (is_so x.name.now) h in
    let q = and_parts (nat_lt x.from_word x.to_word) (nat_lt 0 x.bits) p.0 in
    let some = some-bit x.bits x.bits (omega arith) (ltb-true 0 x.bits q.1) in
    let here = and_from (nat_le x.from_word x.from_word) (nat_lt x.from_word x.to_word) (le-leb x.from_word x.from_word (omega arith)) q.0 in
    record {
      name = x.name.now;
      word = x.from_word;
      bit = some.0;
      is_in = and_from (same_name x.name.now x.name.now) (is_between x.from_word x.to_word x.from_word && is_set x.bits some.0) ((bytes_eq-Decides x.name.now x.name.now).1 refl)
          (and_from (is_between x.from_word x.to_word x.from_word) (is_set x.bits some.0) here some.1);
      so = p.1;
    }

bits-positive : (x b : ℕ) → is_set x b ≡ true → 0 < x
bits-positive zero b h = absurd (false≢true (sym (set-none b) ∙ h))
bits-positive (suc x) b h = omega arith

has-span : (is_so : Name → Bool) (x : Span) (n : Name) (k b : ℕ) → bits_of x n k b ≡ true → is_so n ≡ true → (has_bit x && is_so x.name.now) ≡ true
has-span is_so x n k b h so =
    let p = and_parts (same_name x.name.now n) (is_between x.from_word x.to_word k && is_set x.bits b) h in
    let q = and_parts (is_between x.from_word x.to_word k) (is_set x.bits b) p.1 in
    let w = and_parts (nat_le x.from_word k) (nat_lt k x.to_word) q.0 in
    let words : x.from_word < x.to_word = omega (arith, leb-true x.from_word k w.0, ltb-true k x.to_word w.1) in
    let bits = and_from (nat_lt x.from_word x.to_word) (nat_lt 0 x.bits) (lt-ltb x.from_word x.to_word words) (lt-ltb 0 x.bits (bits-positive x.bits b q.1)) in
    and_from (has_bit x) (is_so x.name.now) bits (subst (λ m. is_so m ≡ true) (sym ((bytes_eq-Decides x.name.now n).0 p.0)) so)

-- ---- spans

there-first : (p q : BitSet) (is_so : Name → Bool) → IsThere p is_so → IsThere (or_in p q) is_so
there-first p q is_so t = record { name = t.name; word = t.word; bit = t.bit; is_in = or_left (p t.name t.word t.bit) (q t.name t.word t.bit) t.is_in; so = t.so }

there-rest : (p q : BitSet) (is_so : Name → Bool) → IsThere q is_so → IsThere (or_in p q) is_so
there-rest p q is_so t = record { name = t.name; word = t.word; bit = t.bit; is_in = or_right (p t.name t.word t.bit) (q t.name t.word t.bit) t.is_in; so = t.so }

pub one-has : (is_so : Name → Bool) (xs : List Span) → one_has_bit is_so xs ≡ true → IsThere (bits_in xs) is_so
one-has is_so [] h = absurd (false≢true h)
one-has is_so (x ∷ xs) h = at (has_bit x && is_so x.name.now) refl (one-has is_so xs)
  where
    at : (t : Bool) → (has_bit x && is_so x.name.now) ≡ t → (one_has_bit is_so xs ≡ true → IsThere (bits_in xs) is_so) → IsThere (or_in (bits_of x) (bits_in xs)) is_so
    at true e f = there-first (bits_of x) (bits_in xs) is_so (span-has is_so x e)
    at false e f = there-rest (bits_of x) (bits_in xs) is_so (f (ap (λ t. t || one_has_bit is_so xs) (sym e) ∙ h))

either-bit : (p q t u : Bool) → (p || q) ≡ true → (p ≡ true → t ≡ true) → (q ≡ true → u ≡ true) → (t || u) ≡ true
either-bit true q t u h f g = or_left t u (f refl)
either-bit false q t u h f g = or_right t u (g h)

has-one : (is_so : Name → Bool) (xs : List Span) (n : Name) (k b : ℕ) → bits_in xs n k b ≡ true → is_so n ≡ true → one_has_bit is_so xs ≡ true
has-one is_so [] n k b h so = absurd (false≢true h)
has-one is_so (x ∷ xs) n k b h so =
    either-bit (bits_of x n k b) (bits_in xs n k b) (has_bit x && is_so x.name.now) (one_has_bit is_so xs) h
    (λ e. has-span is_so x n k b e so) (λ e. has-one is_so xs n k b e so)

pub has-there : (is_so : Name → Bool) (xs : List Span) → IsThere (bits_in xs) is_so → one_has_bit is_so xs ≡ true
has-there is_so xs t = has-one is_so xs t.name t.word t.bit t.is_in t.so

-- ---- latches

-- the bits that are latched
abbrev latched : Scope → pure.Statement → BitSet
latched s x n k b = is_bit_of (s n) k b && (may_assign s x n k b && is_latched s x n k b)

not-both : (a r : Bool) → not (a && not r) ≡ (not a || r)
not-both true true = refl
not-both true false = refl
not-both false r = refl

latched-point : (i m p q a r : Bool) → (i ≡ true → m ≡ true → p ≡ (i && a)) → (i ≡ true → m ≡ true → q ≡ r) → ((i && m) && not (p && not q)) ≡ (i && (m && (not a || r)))
latched-point true true p q a r f g = ap (λ t. not (t && not q)) (f refl refl) ∙ ap (λ t. not (a && not t)) (g refl refl) ∙ not-both a r
latched-point true false p q a r f g = refl
latched-point false m p q a r f g = refl

no-memory : (m : Bool) → (m ≡ true → ⊥) → m ≡ false
no-memory true h = absurd (h refl)
no-memory false h = refl

module _ (s : Scope) (x : pure.Statement) (free : AssignsNoMemory s x) where
  word-of : (n : Name) (k b : ℕ) → is_bit_of (s n) k b ≡ true → may_assign s x n k b ≡ true → k ≡ 0
  word-of n k b i m =
      let may = and_from (is_bit_of (s n) k b) (may_assign s x n k b) i m in
      first-word (s n) k b (no-memory (is_memory (s n)) (λ e. false≢true (sym (free n k b e) ∙ may))) i

  in-latched : (sure outside : BitSet) → sure ≡ sure_at s x → outside ≡ outside_at s x
      → but_not_in (existing s (may_assign s x)) (but_not_in (spread sure) (spread outside)) ≡ latched s x
  unfolding sure_at outside_at
  in-latched sure outside e f =
      λ j n k b. latched-point (is_bit_of (s n) k b) (may_assign s x n k b) (sure n 0 b) (outside n 0 b) (surely_assigns s x n k b) (reads_outside s x n k b)
      (λ i m. ap (λ z. sure n z b) (sym (word-of n k b i m)) ∙ point sure (existing s (surely_assigns s x)) e n k b)
      (λ i m. ap (λ z. outside n z b) (sym (word-of n k b i m)) ∙ point outside (reads_outside s x) f n k b) j

  has-latch : IsThere (latched s x) (λ n. is_none (s n).constant) → HasLatchedBit s x
  has-latch t =
      let p = and_parts (is_bit_of (s t.name) t.word t.bit) (may_assign s x t.name t.word t.bit && is_latched s x t.name t.word t.bit) t.is_in in
      let q = and_parts (may_assign s x t.name t.word t.bit) (is_latched s x t.name t.word t.bit) p.1 in
      record { name = t.name; word = t.word; bit = t.bit; is_variable = t.so; is_bit = p.0; is_assigned = q.0; latched = q.1 }

  latch-there : HasLatchedBit s x → IsThere (latched s x) (λ n. is_none (s n).constant)
  latch-there h = record {
    name = h.name;
    word = h.word;
    bit = h.bit;
    is_in = and_from (is_bit_of (s h.name) h.word h.bit) (may_assign s x h.name h.word h.bit && is_latched s x h.name h.word h.bit) h.is_bit
        (and_from (may_assign s x h.name h.word h.bit) (is_latched s x h.name h.word h.bit) h.is_assigned h.latched);
    so = h.is_variable;
  }

  -- the answer: r is whether one of the latched spans has a bit of a net or variable
  pub latched-so : (sure outside assigned found : List Span) (r : Bool) → bits_in sure ≡ sure_at s x → bits_in outside ≡ outside_at s x
      → bits_in assigned ≡ existing s (may_assign s x) → bits_in found ≡ but_not_in (bits_in assigned) (but_not_in (spread (bits_in sure)) (spread (bits_in outside)))
      → r ≡ one_has_bit (λ n. is_none (s n).constant) found → IsTrue r ↔ HasLatchedBit s x
  latched-so sure outside assigned found r e f g h is =
      let all : bits_in found ≡ latched s x =
      h ∙ ap (λ (z : BitSet). but_not_in z (but_not_in (spread (bits_in sure)) (spread (bits_in outside)))) g ∙ in-latched (bits_in sure) (bits_in outside) e f in
      let is_so : Name → Bool = λ n. is_none (s n).constant in (
        (λ t. has-latch (subst (λ (z : BitSet). IsThere z is_so) all (one-has is_so found (sym is ∙ t)))),
        (λ l. is ∙ has-there is_so found (subst (λ (z : BitSet). IsThere z is_so) (sym all) (latch-there l))),
      )
