-- The bits that names with selects mean, as words and bits of each word.
use Rattle.std.proofs.Common.{◌≡◌, ◌∙◌, ℕ, ◌+◌, ◌-◌, ◌^◌, ◌<◌, ◌≤◌, refl, ap, sym, subst, Bool, true, false, cond, inl, inr, arith, min, max}
use Rattle.std.specs.Prelude.{◌&&◌, ◌==◌, ◌⊎◌, nat_lt, nat_le, is_some, is_none, Option, Some, None, option_and_then, IfSome, ℤ, pos, negsuc}
use Rattle.std.proofs.lemmas.Nat.{pow_pos}
use Rattle.std.proofs.Math.Pow.{pow_mono}
use Rattle.std.proofs.lemmas.Nat.Bits.{bit_at_mask_inside, bit_at_mask_below, bit_at_mask_above}
use Rattle.std.proofs.lemmas.Bool.{cases_lt}
use Rattle.std.proofs.lemmas.Bool.Decides.{nat_tests}
use Rattle.verilog_trees.specs.Syntax.{name, Select, Selects, whole, one, two}
use Rattle.verilog_meaning.specs.Expression.{Object, Scope, distance, object_width, is_memory, word_number, Bits, no_values, select_index, select_bits}
use Rattle.verilog_meaning.specs.Register.{is_set, is_word_number, may_mean, may_mean_word, may_mean_bit, word_count, is_bit_of}
use Rattle.verilog_meaning.specs.Register.{is_within, selects_are_constant}
use Rattle.wb_values.specs.Value.{Name, same_name}
use Rattle.verilog_designs.specs.Reads.{no_bits}
use Rattle.v_value.specs.Narrow.{IsWidth, IsNarrow}
use Rattle.v_flow.specs.declared.span.Span.{Span}
use Rattle.v_flow.specs.Spans.{is_between, bits_of}
use Rattle.v_flow.specs.Flow.{select_constant_at, selects_constant_at, meant_word, meant_bit, select_count, place_bits, name_reads_at, place_reached}
use Rattle.v_flow.proofs.Constants.{and_true, and_false}

below : (low high b : ℕ) → b < low → is_between low high b ≡ false
below low high b h = grind (arith, nat_tests)

inside : (low high b : ℕ) → low ≤ b → b < high → is_between low high b ≡ true
inside low high b h g = grind (arith, nat_tests)

above : (low high b : ℕ) → high ≤ b → is_between low high b ≡ false
above low high b h = grind (arith, nat_tests)

pub mask-order : (low high : ℕ) → low ≤ high → 2 ^ low - 1 ≤ 2 ^ high - 1
mask-order low high h = let p : 2 ^ low ≤ 2 ^ high = pow_mono h in omega (arith, p)

pub mask-bits : (low high b : ℕ) → is_set ((2 ^ high - 1) - (2 ^ low - 1)) b ≡ is_between low high b
mask-bits low high b =
    let m : (2 ^ high - 1) - (2 ^ low - 1) ≡ 2 ^ high - 2 ^ low = omega (arith, pow_pos low, pow_pos high) in
    ap (λ x. is_set x b) m ∙ at (cases_lt b low) (cases_lt b high)
  where
    at : (b < low) ⊎ (low ≤ b) → (b < high) ⊎ (high ≤ b) → is_set (2 ^ high - 2 ^ low) b ≡ is_between low high b
    at (inl l) h = ap (λ x. x == 1) (bit_at_mask_below low high b l) ∙ sym (below low high b l)
    at (inr l) (inl h) = ap (λ x. x == 1) (bit_at_mask_inside low high b l h) ∙ sym (inside low high b l h)
    at (inr l) (inr h) = ap (λ x. x == 1) (bit_at_mask_above low high b h) ∙ sym (above low high b h)

-- the word of an address
number-small : (m n i : ℕ) → m < 2 ^ 32 → n < 2 ^ 32 → (b : Bool) → b ≡ (nat_le (min m n) i && nat_le i (max m n)) → IfSome (cond b (Some (i - min m n)) None) (λ w. w < 2 ^ 32)
number-small m n i h g false e = tt
number-small m n i h g true e = grind (arith, nat_tests)

pub word-small : (a : ℕ × ℕ) (z : ℤ) → a.0 < 2 ^ 32 → a.1 < 2 ^ 32 → IfSome (word_number a z) (λ w. w < 2 ^ 32)
word-small a (pos i) h g = number-small a.0 a.1 i h g _ refl
word-small a (negsuc i) h g = tt

number-within : (m n i k : ℕ) → (b : Bool) → b ≡ (nat_le (min m n) i && nat_le i (max m n))
    → is_word_number (cond b (Some (i - min m n)) None) k ≡ (nat_lt k (distance m n + 1) && is_word_number (cond b (Some (i - min m n)) None) k)
number-within m n i k false e = sym (and_false _)
number-within m n i k true e = grind (arith, nat_tests)

pub word-within : (a : ℕ × ℕ) (z : ℤ) (k : ℕ) → is_word_number (word_number a z) k ≡ (nat_lt k (distance a.0 a.1 + 1) && is_word_number (word_number a z) k)
word-within a (pos i) k = number-within a.0 a.1 i k _ refl
word-within a (negsuc i) k = sym (and_false _)

swapped : (a c w b : Bool) → (a && w) && (c && b) ≡ (a && c) && (w && b)
swapped false c w b = refl
swapped true false w b = and_false w
swapped true true w b = refl

-- Words and bits that are told apart make the bits that a name with selects means.
pub product : (s : Scope) (x : Span) (o : Object) (y : Selects) (word bit : ℕ → Bool) → o ≡ s x.name.now
    → ((k : ℕ) → is_between x.from_word x.to_word k ≡ (nat_lt k (word_count o) && word k))
    → ((b : ℕ) → is_set x.bits b ≡ (nat_lt b (object_width o) && bit b))
    → ((k b : ℕ) → may_mean s o y k b ≡ (word k && bit b))
    → bits_of x ≡ place_bits s x.name.now y
unfolding place_bits
product s x o y word bit is h g m = λ i n k b. same_name x.name.now n && at k b i
  where
    at : (k b : ℕ) → (is_between x.from_word x.to_word k && is_set x.bits b) ≡ (is_bit_of (s x.name.now) k b && may_mean s (s x.name.now) y k b)
    at k b =
        ap (λ t. t && is_set x.bits b) (h k) ∙ ap (λ t. (nat_lt k (word_count o) && word k) && t) (g b)
        ∙ swapped (nat_lt k (word_count o)) (nat_lt b (object_width o)) (word k) (bit b)
        ∙ ap (λ t. is_bit_of o k b && t) (sym (m k b))
        ∙ ap (λ (p : Object). is_bit_of p k b && may_mean s p y k b) is

every-word : (from to n : ℕ) → from ≡ 0 → to ≡ n → (k : ℕ) → is_between from to k ≡ (nat_lt k n && true)
every-word from to n e f k = ap (λ z. is_between z to k) e ∙ ap (λ z. is_between 0 z k) f ∙ at
  where
    at : is_between 0 n k ≡ (nat_lt k n && true)
    at = grind (arith, nat_tests)

every : (a b : Bool) → a ≡ b → a ≡ (b && true)
every a b e = e ∙ sym (and_true b)

pub whole-place : (s : Scope) (x : Span) (o : Object) → o ≡ s x.name.now → x.from_word ≡ 0 → x.to_word ≡ word_count o
    → ((b : ℕ) → is_set x.bits b ≡ nat_lt b (object_width o)) → bits_of x ≡ place_bits s x.name.now whole
whole-place s x o is f t g =
    product s x o whole (λ k. true) (λ b. true) is (every-word _ _ _ f t) (λ b. every _ _ (g b)) (λ k b. refl)

pub word-place : (s : Scope) (x : Span) (o : Object) (i : Select) → o ≡ s x.name.now → is_memory o ≡ true
    → ((k : ℕ) → is_between x.from_word x.to_word k ≡ meant_word s o i k)
    → ((b : ℕ) → is_set x.bits b ≡ nat_lt b (object_width o)) → bits_of x ≡ place_bits s x.name.now (one i)
unfolding meant_word
word-place s x o i is m h g =
    product s x o (one i) (may_mean_word s o i) (λ b. true) is h (λ b. every _ _ (g b))
    (λ k b. ap (λ t. cond t (may_mean_word s o i k) (may_mean_bit s o i b)) m ∙ sym (and_true _))

pub bit-place : (s : Scope) (x : Span) (o : Object) (i : Select) → o ≡ s x.name.now → is_memory o ≡ false → x.from_word ≡ 0 → x.to_word ≡ word_count o
    → ((b : ℕ) → is_set x.bits b ≡ meant_bit s o i b) → bits_of x ≡ place_bits s x.name.now (one i)
unfolding meant_bit
bit-place s x o i is m f t g =
    product s x o (one i) (λ k. true) (may_mean_bit s o i) is (every-word _ _ _ f t) g
    (λ k b. ap (λ t. cond t (may_mean_word s o i k) (may_mean_bit s o i b)) m)

pub two-place : (s : Scope) (x : Span) (o : Object) (i j : Select) → o ≡ s x.name.now
    → ((k : ℕ) → is_between x.from_word x.to_word k ≡ meant_word s o i k)
    → ((b : ℕ) → is_set x.bits b ≡ meant_bit s o j b) → bits_of x ≡ place_bits s x.name.now (two i j)
unfolding meant_word meant_bit
two-place s x o i j is h g = product s x o (two i j) (may_mean_word s o i) (may_mean_bit s o j) is h g (λ k b. refl)

-- words and bits by the value of an index, and where it has none
pub constant-word : (s : Scope) (o : Object) (x : Select) (z : ℤ) (c : Bool) → c ≡ true → c ≡ select_constant_at s x → z ≡ select_index s no_values x → (k : ℕ)
    → (nat_lt k (word_count o) && is_word_number (option_and_then (λ a. word_number a z) o.addresses) k) ≡ meant_word s o x k
unfolding meant_word select_constant_at
constant-word s o x z c t e h k =
    let at : ℤ → Bool = λ y. is_word_number (option_and_then (λ a. word_number a y) o.addresses) k in
    ap (λ y. nat_lt k (word_count o) && at y) h ∙ ap (λ b. nat_lt k (word_count o) && cond b (at (select_index s no_values x)) true) (sym t ∙ e)

pub variable-word : (s : Scope) (o : Object) (x : Select) (from to : ℕ) (c : Bool) → c ≡ false → c ≡ select_constant_at s x → from ≡ 0 → to ≡ word_count o → (k : ℕ)
    → is_between from to k ≡ meant_word s o x k
unfolding meant_word select_constant_at
variable-word s o x from to c f e h g k =
    every-word from to (word_count o) h g k
    ∙ ap (λ b. nat_lt k (word_count o) && cond b (is_word_number (option_and_then (λ a. word_number a (select_index s no_values x)) o.addresses) k) true) (sym f ∙ e)

pub constant-bit : (s : Scope) (o : Object) (x : Select) (w : ℕ) (y : Bits) (c : Bool) → c ≡ true → c ≡ select_constant_at s x → w ≡ object_width o → y ≡ select_bits s no_values o x → (b : ℕ)
    → (nat_lt b w && is_within y b) ≡ meant_bit s o x b
unfolding meant_bit select_constant_at
constant-bit s o x w y c t e h g b =
    ap (λ v. nat_lt b v && is_within y b) h ∙ ap (λ z. nat_lt b (object_width o) && is_within z b) g
    ∙ ap (λ d. nat_lt b (object_width o) && cond d (is_within (select_bits s no_values o x) b) true) (sym t ∙ e)

pub variable-bit : (s : Scope) (o : Object) (x : Select) (c : Bool) → c ≡ false → c ≡ select_constant_at s x → (b : ℕ)
    → nat_lt b (object_width o) ≡ meant_bit s o x b
unfolding meant_bit select_constant_at
variable-bit s o x c f e b =
    sym (and_true _) ∙ ap (λ d. nat_lt b (object_width o) && cond d (is_within (select_bits s no_values o x) b) true) (sym f ∙ e)

-- how many bits the select of a narrow name takes
pub count-one : (s : Scope) (n : Name) (x : Select) (o : Object) → o ≡ s n → is_memory o ≡ false → IsNarrow s (name n (one x)) → IsWidth (select_count s o x)
unfolding select_count
count-one s n x o is m h =
    subst (λ p. IsWidth (select_bits s no_values p x).count) (sym is)
    (subst IsWidth (ap (λ b. cond b (object_width (s n)) (select_bits s no_values (s n) x).count) (ap is_memory (sym is) ∙ m)) h.0)

pub count-two : (s : Scope) (n : Name) (x y : Select) (o : Object) → o ≡ s n → IsNarrow s (name n (two x y)) → IsWidth (select_count s o y)
unfolding select_count
count-two s n x y o is h = subst (λ p. IsWidth (select_bits s no_values p y).count) (sym is) h.0

pub counted : (s : Scope) (o : Object) (x : Select) → IsWidth (select_count s o x) → IsWidth (select_bits s no_values o x).count
unfolding select_count
counted s o x h = h

-- ---- names in expressions

some-none : {A : Type 0} (o : Option A) → is_some o ≡ true → is_none o ≡ false
some-none None h = cc h
some-none (Some x) h = refl

none-some : {A : Type 0} (o : Option A) → is_some o ≡ false → is_none o ≡ true
none-some None h = refl
none-some (Some x) h = cc h

-- r is whether the name is a parameter, and c whether its indexes are constant
module _ (s : Scope) (m : Name) (x : Selects) (r : Bool) (is : r ≡ is_some (s m).constant) where
  pub parameter : r ≡ true → no_bits ≡ name_reads_at s m x
  unfolding name_reads_at
  parameter t = λ i n k b. (sym (and_false (same_name m n)) ∙ ap (λ d. same_name m n && (d && (is_bit_of (s m) k b && cond (selects_are_constant s x) (may_mean s (s m) x k b) true))) (sym (some-none (s m).constant (sym is ∙ t)))) i

  pub constant-name : r ≡ false → (c : Bool) → c ≡ true → c ≡ selects_constant_at s x → place_bits s m x ≡ name_reads_at s m x
  unfolding name_reads_at place_bits selects_constant_at
  constant-name f c t e = λ i n k b.
      (ap (λ d. same_name m n && (is_bit_of (s m) k b && cond d (may_mean s (s m) x k b) true)) (sym t ∙ e)
      ∙ ap (λ d. same_name m n && (d && (is_bit_of (s m) k b && cond (selects_are_constant s x) (may_mean s (s m) x k b) true))) (sym (none-some (s m).constant (sym is ∙ f)))) i

  pub variable-name : r ≡ false → (c : Bool) → c ≡ false → c ≡ selects_constant_at s x → place_bits s m whole ≡ name_reads_at s m x
  unfolding name_reads_at place_bits selects_constant_at
  variable-name f c t e = λ i n k b.
      (ap (λ d. same_name m n && (is_bit_of (s m) k b && cond d (may_mean s (s m) x k b) true)) (sym t ∙ e)
      ∙ ap (λ d. same_name m n && (d && (is_bit_of (s m) k b && cond (selects_are_constant s x) (may_mean s (s m) x k b) true))) (sym (none-some (s m).constant (sym is ∙ f)))) i

-- ---- names that are assigned

pub surely : (s : Scope) (m : Name) (x : Selects) (c : Bool) → c ≡ true → c ≡ selects_constant_at s x → place_bits s m x ≡ place_reached s true m x
surely s m x c t e = ap (λ d. cond d (place_bits s m x) no_bits) (sym t ∙ e)

pub unsurely : (s : Scope) (m : Name) (x : Selects) (c : Bool) → c ≡ false → c ≡ selects_constant_at s x → no_bits ≡ place_reached s true m x
unsurely s m x c f e = ap (λ d. cond d (place_bits s m x) no_bits) (sym f ∙ e)
