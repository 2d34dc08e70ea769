-- The value of an expression is the same, or the valuations differ at a bit that it reads.
use Rattle.std.proofs.Common.{◌≡◌, ℕ, ◌+◌, ◌*◌, ◌%◌, ◌^◌, max, Bool, cond, ◌&&◌, ◌⊎◌, inl, inr, refl, subst}
use Rattle.wb_values.specs.Value.{Name, Valuation}
use Rattle.verilog_trees.specs.Syntax.{Expression, number, name, concatenation, replication, as_signed, as_unsigned, unary, reduction, binary, shift, power, comparison, logical, conditional, Expressions, no_expressions, expression, Select, index, part, part_up, part_down, Selects, whole, one, two}
use Rattle.verilog_meaning.specs.Expression.{Object, Scope, Bits, widened, bit, bits_upward, bits_downward, place_of_bit, integer_from, natural_of, side_by_side, unary_value, reduction_value, binary_value, shift_value, power_value, comparison_value, logical_value, is_nonzero, no_values, sign_of, width_of, widths_of, selects_width, value_of, joined_value, selected, select_index, select_bits, assigned_value}
use Rattle.verilog_designs.specs.Reads.{BitSet, or_in, reads, reads_in_all, select_reads}
use Rattle.verilog_settled.specs.Locality.{DifferAt, HasNoConstantMemory, Fits, AllFit, LeavesAre, AllLeavesAre, SelectIs, SelectsAre, ValueIsLocal, SelfValueIsLocal, AssignedValueIsLocal}
use Rattle.verilog_settled.proofs.Values.{alike_values}
use Rattle.verilog_settled.proofs.Found.{In, SameOr, differ_at, one_part, two_parts}
use Rattle.verilog_settled.proofs.Names.{IsReadable, name_whole, name_one, name_two}

-- all names of a kind are readable
abbrev pub AreReadable : Scope → Valuation → Valuation → (HasValue IsKnown : Name → Type 0) → Type 0
AreReadable s v w HasValue IsKnown = (n : Name) → IsKnown n → IsReadable s v w HasValue n

abbrev paired : ℕ → ℕ → ℕ × ℕ
paired a b = (a, b)

abbrev chosen : ℕ → ℕ × ℕ → ℕ
chosen c a = cond (is_nonzero c) a.0 a.1

abbrev indexed_bit : Object → Bool → ℕ → ℕ → Bits
indexed_bit o signed width z = record { low = place_of_bit o (integer_from signed width z); count = 1 }

mutual
  pub value_local : (s : Scope) (v w : Valuation) (HasValue IsKnown : Name → Type 0) → HasNoConstantMemory s → AreReadable s v w HasValue IsKnown
      → (e : Expression) (width : ℕ) (signed : Bool) → LeavesAre IsKnown e
      → SameOr (value_of s v e width signed) (value_of s w e width signed) v w HasValue (reads s e)
  value_local s v w HasValue IsKnown p r (number k) width signed l = inl refl
  value_local s v w HasValue IsKnown p r (name n x) width signed l =
      one_part (widened signed (selects_width s (s n) x) width) v w HasValue (reads s (name n x)) (name_local s v w HasValue IsKnown p r n x l.0 l.1)
  value_local s v w HasValue IsKnown p r (concatenation es) width signed l =
      one_part (widened signed (widths_of s es) width) v w HasValue (reads_in_all s es) (joined_local s v w HasValue IsKnown p r es l)
  value_local s v w HasValue IsKnown p r (replication k es) width signed l =
      let count : ℕ = natural_of (integer_from (sign_of s k) (width_of s k) (value_of s no_values k (width_of s k) (sign_of s k))) in
      one_part (λ z. widened signed (count * widths_of s es) width (side_by_side count (widths_of s es) z)) v w HasValue (reads_in_all s es)
      (joined_local s v w HasValue IsKnown p r es l)
  value_local s v w HasValue IsKnown p r (as_signed x) width signed l =
      one_part (widened signed (width_of s x) width) v w HasValue (reads s x) (value_local s v w HasValue IsKnown p r x (width_of s x) (sign_of s x) l)
  value_local s v w HasValue IsKnown p r (as_unsigned x) width signed l =
      one_part (widened signed (width_of s x) width) v w HasValue (reads s x) (value_local s v w HasValue IsKnown p r x (width_of s x) (sign_of s x) l)
  value_local s v w HasValue IsKnown p r (unary op x) width signed l =
      one_part (unary_value op width) v w HasValue (reads s x) (value_local s v w HasValue IsKnown p r x width signed l)
  value_local s v w HasValue IsKnown p r (reduction op x) width signed l =
      one_part (λ z. bit (reduction_value op (width_of s x) z)) v w HasValue (reads s x)
      (value_local s v w HasValue IsKnown p r x (width_of s x) (sign_of s x) l)
  value_local s v w HasValue IsKnown p r (binary op x y) width signed l =
      two_parts (λ a b. binary_value op width signed a b) v w HasValue (reads s x) (reads s y)
      (value_local s v w HasValue IsKnown p r x width signed l.0) (value_local s v w HasValue IsKnown p r y width signed l.1)
  value_local s v w HasValue IsKnown p r (shift op x n) width signed l =
      two_parts (λ a b. shift_value op width signed a b) v w HasValue (reads s x) (reads s n)
      (value_local s v w HasValue IsKnown p r x width signed l.0) (value_local s v w HasValue IsKnown p r n (width_of s n) (sign_of s n) l.1)
  value_local s v w HasValue IsKnown p r (power x n) width signed l =
      two_parts (λ a b. power_value width a (integer_from (sign_of s n) (width_of s n) b)) v w HasValue (reads s x) (reads s n)
      (value_local s v w HasValue IsKnown p r x width signed l.0) (value_local s v w HasValue IsKnown p r n (width_of s n) (sign_of s n) l.1)
  value_local s v w HasValue IsKnown p r (comparison op x y) width signed l =
      let m : ℕ = max (width_of s x) (width_of s y) in
      let t : Bool = sign_of s x && sign_of s y in
      two_parts (λ a b. bit (comparison_value op (integer_from t m a) (integer_from t m b))) v w HasValue (reads s x) (reads s y)
      (value_local s v w HasValue IsKnown p r x m t l.0) (value_local s v w HasValue IsKnown p r y m t l.1)
  value_local s v w HasValue IsKnown p r (logical op x y) width signed l =
      two_parts (λ a b. bit (logical_value op (is_nonzero a) (is_nonzero b))) v w HasValue (reads s x) (reads s y)
      (value_local s v w HasValue IsKnown p r x (width_of s x) (sign_of s x) l.0) (value_local s v w HasValue IsKnown p r y (width_of s y) (sign_of s y) l.1)
  value_local s v w HasValue IsKnown p r (conditional c x y) width signed l =
      two_parts chosen v w HasValue (reads s c) (or_in (reads s x) (reads s y))
      (value_local s v w HasValue IsKnown p r c (width_of s c) (sign_of s c) l.0)
      (two_parts paired v w HasValue (reads s x) (reads s y)
      (value_local s v w HasValue IsKnown p r x width signed l.1) (value_local s v w HasValue IsKnown p r y width signed l.2))

  pub joined_local : (s : Scope) (v w : Valuation) (HasValue IsKnown : Name → Type 0) → HasNoConstantMemory s → AreReadable s v w HasValue IsKnown
      → (es : Expressions) → AllLeavesAre IsKnown es → SameOr (joined_value s v es) (joined_value s w es) v w HasValue (reads_in_all s es)
  joined_local s v w HasValue IsKnown p r no_expressions l = inl refl
  joined_local s v w HasValue IsKnown p r (expression e es) l =
      two_parts (λ a b. a * 2 ^ widths_of s es + b) v w HasValue (reads s e) (reads_in_all s es)
      (value_local s v w HasValue IsKnown p r e (width_of s e) (sign_of s e) l.0) (joined_local s v w HasValue IsKnown p r es l.1)

  name_local : (s : Scope) (v w : Valuation) (HasValue IsKnown : Name → Type 0) → HasNoConstantMemory s → AreReadable s v w HasValue IsKnown
      → (n : Name) (x : Selects) → IsKnown n → SelectsAre IsKnown x
      → SameOr (selected s v (s n) (v n) x) (selected s w (s n) (w n) x) v w HasValue (reads s (name n x))
  name_local s v w HasValue IsKnown p r n whole k l = name_whole s v w HasValue n (r n k)
  name_local s v w HasValue IsKnown p r n (one i) k l =
      name_one s v w HasValue n i p (r n k) (index_local s v w HasValue IsKnown p r i l) (bits_local s v w HasValue IsKnown p r (s n) i l)
  name_local s v w HasValue IsKnown p r n (two i j) k l =
      name_two s v w HasValue n i j p (r n k) (index_local s v w HasValue IsKnown p r i l.0) (bits_local s v w HasValue IsKnown p r (s n) j l.1)

  pub index_local : (s : Scope) (v w : Valuation) (HasValue IsKnown : Name → Type 0) → HasNoConstantMemory s → AreReadable s v w HasValue IsKnown
      → (x : Select) → SelectIs IsKnown x → SameOr (select_index s v x) (select_index s w x) v w HasValue (select_reads s x)
  index_local s v w HasValue IsKnown p r (index i) l =
      one_part (integer_from (sign_of s i) (width_of s i)) v w HasValue (reads s i) (value_local s v w HasValue IsKnown p r i (width_of s i) (sign_of s i) l)
  index_local s v w HasValue IsKnown p r (part a b) l = inl refl
  index_local s v w HasValue IsKnown p r (part_up b n) l = inl refl
  index_local s v w HasValue IsKnown p r (part_down b n) l = inl refl

  pub bits_local : (s : Scope) (v w : Valuation) (HasValue IsKnown : Name → Type 0) → HasNoConstantMemory s → AreReadable s v w HasValue IsKnown
      → (o : Object) (x : Select) → SelectIs IsKnown x → SameOr (select_bits s v o x) (select_bits s w o x) v w HasValue (select_reads s x)
  bits_local s v w HasValue IsKnown p r o (index i) l =
      one_part (indexed_bit o (sign_of s i) (width_of s i)) v w HasValue (reads s i)
      (value_local s v w HasValue IsKnown p r i (width_of s i) (sign_of s i) l)
  bits_local s v w HasValue IsKnown p r o (part a b) l = inl refl
  bits_local s v w HasValue IsKnown p r o (part_up b n) l =
      one_part (λ z. bits_upward o (integer_from (sign_of s b) (width_of s b) z)
      (natural_of (integer_from (sign_of s n) (width_of s n) (value_of s no_values n (width_of s n) (sign_of s n))))) v w HasValue (reads s b)
      (value_local s v w HasValue IsKnown p r b (width_of s b) (sign_of s b) l)
  bits_local s v w HasValue IsKnown p r o (part_down b n) l =
      one_part (λ z. bits_downward o (integer_from (sign_of s b) (width_of s b) z)
      (natural_of (integer_from (sign_of s n) (width_of s n) (value_of s no_values n (width_of s n) (sign_of s n))))) v w HasValue (reads s b)
      (value_local s v w HasValue IsKnown p r b (width_of s b) (sign_of s b) l)

-- ---- from the two valuations' own values

fits_both : (s : Scope) (v w : Valuation) (n : Name) → Fits (s n).constant (s n) (v n) → Fits (s n).constant (s n) (w n)
    → IsReadable s v w (λ m. Unit {0}) n
fits_both s v w n h k =
    record {
      small = λ c e. subst (λ q. Fits q (s n) (v n)) e h;
      alike = λ e. alike_values (s n) (v n) (w n) (subst (λ q. Fits q (s n) (v n)) e h) (subst (λ q. Fits q (s n) (w n)) e k);
      has_value = λ e. tt;
    }

pub readable : (s : Scope) (v w : Valuation) (IsKnown : Name → Type 0) → AllFit s IsKnown v → AllFit s IsKnown w
    → AreReadable s v w (λ m. Unit {0}) IsKnown
readable s v w IsKnown f g n k = fits_both s v w n (f n k) (g n k)

told : {A : Type 0} {a b : A} (v w : Valuation) (bits : BitSet) → SameOr a b v w (λ m. Unit {0}) bits → (a ≡ b) ⊎ DifferAt v w (In bits)
told v w bits (inl e) = inl e
told v w bits (inr f) = inr (differ_at v w (λ m. Unit {0}) (In bits) f)

pub value_is_local : ValueIsLocal
value_is_local s v w IsKnown e width signed p f g l =
    told v w (reads s e) (value_local s v w (λ m. Unit {0}) IsKnown p (readable s v w IsKnown f g) e width signed l)

pub self_value_is_local : SelfValueIsLocal
self_value_is_local s v w IsKnown e p f g l =
    told v w (reads s e) (value_local s v w (λ m. Unit {0}) IsKnown p (readable s v w IsKnown f g) e (width_of s e) (sign_of s e) l)

pub assigned_local : (s : Scope) (v w : Valuation) (HasValue IsKnown : Name → Type 0) → HasNoConstantMemory s → AreReadable s v w HasValue IsKnown
    → (width : ℕ) (e : Expression) → LeavesAre IsKnown e → SameOr (assigned_value s v width e) (assigned_value s w width e) v w HasValue (reads s e)
assigned_local s v w HasValue IsKnown p r width e l =
    one_part (λ z. z % 2 ^ width) v w HasValue (reads s e) (value_local s v w HasValue IsKnown p r e (max width (width_of s e)) (sign_of s e) l)

pub assigned_value_is_local : AssignedValueIsLocal
assigned_value_is_local s v w IsKnown e width p f g l =
    told v w (reads s e) (assigned_local s v w (λ m. Unit {0}) IsKnown p (readable s v w IsKnown f g) width e l)
