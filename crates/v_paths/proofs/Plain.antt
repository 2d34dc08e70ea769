-- Bits of what is no memory: their word is 0, so a set of them is known by what it has there.
use Rattle.std.proofs.Common.{◌≡◌, ◌∙◌, ℕ, zero, refl, ap, sym, Bool, true, false, not}
use Rattle.std.specs.Prelude.{◌&&◌, ◌||◌}
use Rattle.std.proofs.lemmas.Bool.{false≢true, and_parts, and_from, or_parts}
use Rattle.wb_values.specs.Value.{Name}
use Rattle.verilog_trees.specs.Syntax as pure
use Rattle.verilog_meaning.specs.Expression.{Scope, is_memory}
use Rattle.verilog_meaning.specs.Register.{is_bit_of, may_assign}
use Rattle.verilog_designs.specs.Reads.{BitSet, no_bits, or_in, and_in, but_not_in, surely_assigns}
use Rattle.v_flow.specs.Spans.{existing}
use Rattle.v_flow.specs.Flow.{assigned_at}
use Rattle.v_masks.specs.Masks.{spread}
use Rattle.v_masks.proofs.Plain.{first-word}
use Rattle.v_paths.specs.Premises.{HasNoMemory}
use Rattle.v_paths.specs.Walks.{sure_at}
use Rattle.v_paths.proofs.Within.{IsWithin}
use Rattle.v_paths.proofs.Surely.{surely-may}

-- each bit is one of a name that is no memory
abbrev pub IsPlain : Scope → BitSet → Type 0
IsPlain s p = (n : Name) (k b : ℕ) → p n k b ≡ true → (is_memory (s n) ≡ false) × (is_bit_of (s n) k b ≡ true)

pub point : (p q : BitSet) → p ≡ q → (n : Name) (k b : ℕ) → p n k b ≡ q n k b
point p q e n k b = λ i. e i n k b

-- ---- plain sets

pub plain-none : (s : Scope) (p : BitSet) → p ≡ no_bits → IsPlain s p
plain-none s p e = λ n k b h. absurd (false≢true (sym (point p no_bits e n k b) ∙ h))

either-plain : {A : Type 0} (p q : Bool) → (p ≡ true → A) → (q ≡ true → A) → (p || q) ≡ true → A
either-plain true q f g h = f refl
either-plain false q f g h = g h

pub plain-or : (s : Scope) (p q r : BitSet) → r ≡ or_in p q → IsPlain s p → IsPlain s q → IsPlain s r
plain-or s p q r e f g = λ n k b h. either-plain (p n k b) (q n k b) (f n k b) (g n k b) (sym (point r (or_in p q) e n k b) ∙ h)

pub plain-is : (s : Scope) (p q : BitSet) → p ≡ q → IsPlain s q → IsPlain s p
plain-is s p q e f = λ n k b h. f n k b (sym (point p q e n k b) ∙ h)

-- what is no memory's where it may be assigned
no-memory : (m : Bool) → (m ≡ true → ⊥) → m ≡ false
no-memory true h = absurd (h refl)
no-memory false h = refl

pub plain-sure : (s : Scope) (x : pure.Statement) → HasNoMemory s (assigned_at s x) → IsPlain s (sure_at s x)
unfolding assigned_at sure_at
plain-sure s x free = λ n k b h.
    let p = and_parts (is_bit_of (s n) k b) (surely_assigns s x n k b) h in
    let may = and_from (is_bit_of (s n) k b) (may_assign s x n k b) p.0 (surely-may s x n k b p.1) in
    (no-memory (is_memory (s n)) (λ m. false≢true (sym (free n k b m) ∙ may)), p.0)

-- ---- what they have in the word 0

not-left : (p a c : Bool) → (p ≡ true → a ≡ c) → (p && not a) ≡ (p && not c)
not-left true a c h = ap not (h refl)
not-left false a c h = refl

and-left : (p a c : Bool) → (p ≡ true → a ≡ c) → (p && a) ≡ (p && c)
and-left true a c h = h refl
and-left false a c h = refl

not-plain : (v m : Bool) → (v ≡ true → m ≡ false) → m ≡ true → v ≡ false
not-plain true m f h = absurd (false≢true (sym (f refl) ∙ h))
not-plain false m f h = refl

-- at a bit that there is
same-there : (s : Scope) (q : BitSet) (n : Name) (k b : ℕ) → IsPlain s q → is_bit_of (s n) k b ≡ true → q n zero b ≡ q n k b
same-there s q n k b f h = at (is_memory (s n)) refl
  where
    at : (m : Bool) → is_memory (s n) ≡ m → q n zero b ≡ q n k b
    at true e = not-plain (q n zero b) (is_memory (s n)) (λ t. (f n zero b t).0) e ∙ sym (not-plain (q n k b) (is_memory (s n)) (λ t. (f n k b t).0) e)
    at false e = ap (λ z. q n z b) (sym (first-word (s n) k b e h))

pub spread-left-out : (s : Scope) (p q : BitSet) → IsWithin s p → IsPlain s q → but_not_in p (spread q) ≡ but_not_in p q
spread-left-out s p q w f = λ i n k b. not-left (p n k b) (q n zero b) (q n k b) (λ t. same-there s q n k b f (w n k b t)) i

pub spread-met : (s : Scope) (p q : BitSet) → IsPlain s p → and_in p (spread q) ≡ and_in p q
spread-met s p q f =
    λ i n k b. and-left (p n k b) (q n zero b) (q n k b) (λ t. ap (λ z. q n z b) (sym (first-word (s n) k b (f n k b t).0 (f n k b t).1))) i

-- bits that there are, without others or without those of the others that there are
existing-not : (p q c : Bool) → (p ≡ true → c ≡ true) → (p && not (c && q)) ≡ (p && not q)
existing-not true q c h = ap (λ t. not (t && q)) (h refl)
existing-not false q c h = refl

pub existing-left-out : (s : Scope) (p q : BitSet) → IsWithin s p → but_not_in p (existing s q) ≡ but_not_in p q
existing-left-out s p q w = λ i n k b. existing-not (p n k b) (q n k b) (is_bit_of (s n) k b) (w n k b) i

-- ---- premises on parts

pub first-free : (s : Scope) (p q r : BitSet) → r ≡ or_in p q → HasNoMemory s r → HasNoMemory s p
first-free s p q r e h = λ n k b m. (or_parts (p n k b) (q n k b) (sym (point r (or_in p q) e n k b) ∙ h n k b m)).0

pub rest-free : (s : Scope) (p q r : BitSet) → r ≡ or_in p q → HasNoMemory s r → HasNoMemory s q
rest-free s p q r e h = λ n k b m. (or_parts (p n k b) (q n k b) (sym (point r (or_in p q) e n k b) ∙ h n k b m)).1

pub free-is : (s : Scope) (p q : BitSet) → p ≡ q → HasNoMemory s q → HasNoMemory s p
free-is s p q e h = λ n k b m. point p q e n k b ∙ h n k b m

pub free-assigned : (s : Scope) (x : pure.Statement) → HasNoMemory s (existing s (may_assign s x)) → HasNoMemory s (assigned_at s x)
unfolding assigned_at
free-assigned s x h = h
