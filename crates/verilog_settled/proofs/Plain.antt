-- Each bit of a plain right side is the same, or the valuations differ at the bit that is copied to it.
use Rattle.std.proofs.Common.{◌≡◌, ℕ, ◌+◌, ◌-◌, ◌*◌, ◌%◌, ◌^◌, ◌<◌, ◌≤◌, max, true, false, cond, nat_lt, ◌⊎◌, inl, inr, refl, sym, ap, ◌∙◌, Some, None, IsTrue, arith, lt-ltb, le-ltb}
use Rattle.std.proofs.lemmas.Bool.{cases_lt, and_parts, cond-true, cond-false, false≢true}
use Rattle.std.proofs.lemmas.Nat.Bits.{bit_at_cat_low, bit_at_cat_high}
use Rattle.wb_values.specs.Value.{Name, Valuation}
use Rattle.verilog_trees.specs.Syntax.{Expression, number, name, concatenation, replication, as_signed, as_unsigned, unary, reduction, binary, shift, power, comparison, logical, conditional, Expressions, no_expressions, expression}
use Rattle.verilog_meaning.specs.Expression.{Scope, integer_from, natural_of, side_by_side, no_values, width_of, widths_of, sign_of, value_of, joined_value, assigned_value}
use Rattle.verilog_meaning.specs.Register.{is_set}
use Rattle.verilog_designs.specs.Dependence.{Bit, is_plain, are_plain, copied, copied_in}
use Rattle.verilog_settled.specs.Locality.{DifferAt, HasNoConstantMemory, LeavesAre, AllLeavesAre, CopiedBitIsLocal}
use Rattle.verilog_settled.proofs.Bits.{set_from_bit, bit_of_cut, unset_past}
use Rattle.verilog_settled.proofs.Found.{found_so, differ_at}
use Rattle.verilog_settled.proofs.Expressions.{AreReadable, readable}
use Rattle.verilog_settled.proofs.Fitting.{turned, value_fits, parts_fit}
use Rattle.verilog_settled.proofs.Widened.{side_bit, side_fits}
use Rattle.verilog_settled.proofs.Copied.{SetOr, name_copied}

pub at_most : (x : ℕ) → x ≤ x
at_most x = omega arith

pub second_most : (x y : ℕ) → y ≤ max x y
second_most x y = omega arith

pub not_plain : {A : Type 0} → false ≡ true → A
not_plain h = absurd (false≢true h)

-- a bit that stands elsewhere in other numbers
moved : (x y x2 y2 j i : ℕ) (v w : Valuation) (HasValue : Name → Type 0) (P Q : Bit → Type 0) → is_set x j ≡ is_set x2 i → is_set y j ≡ is_set y2 i
    → ((z : Bit) → P z → Q z) → SetOr x2 y2 i v w HasValue P → SetOr x y j v w HasValue Q
moved x y x2 y2 j i v w HasValue P Q e g k (inl h) = inl (e ∙ h ∙ sym g)
moved x y x2 y2 j i v w HasValue P Q e g k (inr f) = inr (found_so v w HasValue P Q k f)

both_unset : (width x y j : ℕ) (v w : Valuation) (HasValue : Name → Type 0) (P : Bit → Type 0) → x < 2 ^ width → y < 2 ^ width → width ≤ j
    → SetOr x y j v w HasValue P
both_unset width x y j v w HasValue P h k l = inl (unset_past width x j h l ∙ sym (unset_past width y j k l))

pub low_of_two : (x n rest j : ℕ) → j < n → is_set (x * 2 ^ n + rest) j ≡ is_set rest j
low_of_two x n rest j h = set_from_bit (x * 2 ^ n + rest) rest j j (bit_at_cat_low x n rest j h)

pub high_of_two : (x n rest j : ℕ) → rest < 2 ^ n → n ≤ j → is_set (x * 2 ^ n + rest) j ≡ is_set x (j - n)
high_of_two x n rest j f h = set_from_bit (x * 2 ^ n + rest) x j (j - n) (bit_at_cat_high x n rest j f h)

-- the bits of copies, from those of what is copied
repeated : (s : Scope) (es : Expressions) (count width x y j : ℕ) (v w : Valuation) (HasValue : Name → Type 0) → x < 2 ^ widths_of s es → y < 2 ^ widths_of s es
    → ((i : ℕ) → SetOr x y i v w HasValue (λ z. copied_in s es i ≡ Some z)) → width ≡ count * widths_of s es
    → SetOr (side_by_side count (widths_of s es) x) (side_by_side count (widths_of s es) y) j v w HasValue
    (λ z. cond (nat_lt j width) (copied_in s es (j % widths_of s es)) None ≡ Some z)
repeated s es count width x y j v w HasValue p q each e = by_place (cases_lt j (count * widths_of s es))
  where
    by_place : (j < count * widths_of s es) ⊎ (count * widths_of s es ≤ j)
        → SetOr (side_by_side count (widths_of s es) x) (side_by_side count (widths_of s es) y) j v w HasValue
        (λ z. cond (nat_lt j width) (copied_in s es (j % widths_of s es)) None ≡ Some z)
    by_place (inl h) =
        moved (side_by_side count (widths_of s es) x) (side_by_side count (widths_of s es) y) x y j (j % widths_of s es) v w HasValue
        (λ z. copied_in s es (j % widths_of s es) ≡ Some z) (λ z. cond (nat_lt j width) (copied_in s es (j % widths_of s es)) None ≡ Some z)
        (side_bit count (widths_of s es) x j p h) (side_bit count (widths_of s es) y j q h)
        (λ z c. cond-true (nat_lt j width) (copied_in s es (j % widths_of s es)) None (ap (nat_lt j) e ∙ lt-ltb j (count * widths_of s es) h) ∙ c)
        (each (j % widths_of s es))
    by_place (inr h) =
        both_unset (count * widths_of s es) (side_by_side count (widths_of s es) x) (side_by_side count (widths_of s es) y) j v w HasValue
        (λ z. cond (nat_lt j width) (copied_in s es (j % widths_of s es)) None ≡ Some z) (side_fits count (widths_of s es) x p)
        (side_fits count (widths_of s es) y q) h

-- the bits of two parts side by side, from those of each
beside : (s : Scope) (e : Expression) (es : Expressions) (x y a b j : ℕ) (v w : Valuation) (HasValue : Name → Type 0)
    → x < 2 ^ width_of s e → y < 2 ^ width_of s e → a < 2 ^ widths_of s es → b < 2 ^ widths_of s es
    → ((i : ℕ) → SetOr x y i v w HasValue (λ z. copied s e (sign_of s e) i ≡ Some z)) → ((i : ℕ) → SetOr a b i v w HasValue (λ z. copied_in s es i ≡ Some z))
    → SetOr (x * 2 ^ widths_of s es + a) (y * 2 ^ widths_of s es + b) j v w HasValue (λ z. copied_in s (expression e es) j ≡ Some z)
beside s e es x y a b j v w HasValue p q f g first rest = by_place (cases_lt j (widths_of s es))
  where
    by_width : widths_of s es ≤ j → (j - widths_of s es < width_of s e) ⊎ (width_of s e ≤ j - widths_of s es)
        → SetOr (x * 2 ^ widths_of s es + a) (y * 2 ^ widths_of s es + b) j v w HasValue (λ z. copied_in s (expression e es) j ≡ Some z)
    by_width h (inl l) =
        moved (x * 2 ^ widths_of s es + a) (y * 2 ^ widths_of s es + b) x y j (j - widths_of s es) v w HasValue
        (λ z. copied s e (sign_of s e) (j - widths_of s es) ≡ Some z) (λ z. copied_in s (expression e es) j ≡ Some z)
        (high_of_two x (widths_of s es) a j f h) (high_of_two y (widths_of s es) b j g h)
        (λ z c. cond-false (nat_lt j (widths_of s es)) (copied_in s es j)
        (cond (nat_lt (j - widths_of s es) (width_of s e)) (copied s e (sign_of s e) (j - widths_of s es)) None) (le-ltb j (widths_of s es) h)
        ∙ cond-true (nat_lt (j - widths_of s es) (width_of s e)) (copied s e (sign_of s e) (j - widths_of s es)) None
        (lt-ltb (j - widths_of s es) (width_of s e) l) ∙ c)
        (first (j - widths_of s es))
    by_width h (inr l) =
        inl (high_of_two x (widths_of s es) a j f h ∙ unset_past (width_of s e) x (j - widths_of s es) p l
        ∙ sym (high_of_two y (widths_of s es) b j g h ∙ unset_past (width_of s e) y (j - widths_of s es) q l))

    by_place : (j < widths_of s es) ⊎ (widths_of s es ≤ j)
        → SetOr (x * 2 ^ widths_of s es + a) (y * 2 ^ widths_of s es + b) j v w HasValue (λ z. copied_in s (expression e es) j ≡ Some z)
    by_place (inl h) =
        moved (x * 2 ^ widths_of s es + a) (y * 2 ^ widths_of s es + b) a b j j v w HasValue (λ z. copied_in s es j ≡ Some z)
        (λ z. copied_in s (expression e es) j ≡ Some z) (low_of_two x (widths_of s es) a j h) (low_of_two y (widths_of s es) b j h)
        (λ z c. cond-true (nat_lt j (widths_of s es)) (copied_in s es j)
        (cond (nat_lt (j - widths_of s es) (width_of s e)) (copied s e (sign_of s e) (j - widths_of s es)) None) (lt-ltb j (widths_of s es) h) ∙ c)
        (rest j)
    by_place (inr h) = by_width h (cases_lt (j - widths_of s es) (width_of s e))

mutual
  pub copied_local : (s : Scope) (v w : Valuation) (HasValue IsKnown : Name → Type 0) → HasNoConstantMemory s → AreReadable s v w HasValue IsKnown
      → (e : Expression) → LeavesAre IsKnown e → IsTrue (is_plain s e) → (width j : ℕ) → width_of s e ≤ width
      → SetOr (value_of s v e width (sign_of s e)) (value_of s w e width (sign_of s e)) j v w HasValue (λ z. copied s e (sign_of s e) j ≡ Some z)
  copied_local s v w HasValue IsKnown p r (number k) l plain width j h = inl refl
  copied_local s v w HasValue IsKnown p r (name n x) l plain width j h =
      name_copied s v w HasValue n x p (r n l.0) (turned s v w HasValue IsKnown r n l.0) plain (sign_of s (name n x)) width j h
  copied_local s v w HasValue IsKnown p r (concatenation es) l plain width j h = parts_copied s v w HasValue IsKnown p r es l plain j
  copied_local s v w HasValue IsKnown p r (replication k es) l plain width j h =
      repeated s es (natural_of (integer_from (sign_of s k) (width_of s k) (value_of s no_values k (width_of s k) (sign_of s k))))
      (width_of s (replication k es)) (joined_value s v es) (joined_value s w es) j v w HasValue (parts_fit s v w HasValue IsKnown p r es l)
      (parts_fit s w v HasValue IsKnown p (turned s v w HasValue IsKnown r) es l) (λ i. parts_copied s v w HasValue IsKnown p r es l plain i) refl
  copied_local s v w HasValue IsKnown p r (as_signed x) l plain width j h = not_plain plain
  copied_local s v w HasValue IsKnown p r (as_unsigned x) l plain width j h = not_plain plain
  copied_local s v w HasValue IsKnown p r (unary op x) l plain width j h = not_plain plain
  copied_local s v w HasValue IsKnown p r (reduction op x) l plain width j h = not_plain plain
  copied_local s v w HasValue IsKnown p r (binary op x y) l plain width j h = not_plain plain
  copied_local s v w HasValue IsKnown p r (shift op x n) l plain width j h = not_plain plain
  copied_local s v w HasValue IsKnown p r (power x n) l plain width j h = not_plain plain
  copied_local s v w HasValue IsKnown p r (comparison op x y) l plain width j h = not_plain plain
  copied_local s v w HasValue IsKnown p r (logical op x y) l plain width j h = not_plain plain
  copied_local s v w HasValue IsKnown p r (conditional c x y) l plain width j h = not_plain plain

  parts_copied : (s : Scope) (v w : Valuation) (HasValue IsKnown : Name → Type 0) → HasNoConstantMemory s → AreReadable s v w HasValue IsKnown
      → (es : Expressions) → AllLeavesAre IsKnown es → IsTrue (are_plain s es) → (j : ℕ)
      → SetOr (joined_value s v es) (joined_value s w es) j v w HasValue (λ z. copied_in s es j ≡ Some z)
  parts_copied s v w HasValue IsKnown p r no_expressions l plain j = inl refl
  parts_copied s v w HasValue IsKnown p r (expression e es) l plain j =
      beside s e es (value_of s v e (width_of s e) (sign_of s e)) (value_of s w e (width_of s e) (sign_of s e)) (joined_value s v es) (joined_value s w es) j v w HasValue
      (value_fits s v w HasValue IsKnown p r e (width_of s e) (sign_of s e) l.0 (at_most (width_of s e)))
      (value_fits s w v HasValue IsKnown p (turned s v w HasValue IsKnown r) e (width_of s e) (sign_of s e) l.0 (at_most (width_of s e)))
      (parts_fit s v w HasValue IsKnown p r es l.1) (parts_fit s w v HasValue IsKnown p (turned s v w HasValue IsKnown r) es l.1)
      (λ i. copied_local s v w HasValue IsKnown p r e l.0 (and_parts (is_plain s e) (are_plain s es) plain).0 (width_of s e) i (at_most (width_of s e)))
      (λ i. parts_copied s v w HasValue IsKnown p r es l.1 (and_parts (is_plain s e) (are_plain s es) plain).1 i)

-- of the value that is assigned
pub assigned_copied : (s : Scope) (v w : Valuation) (HasValue IsKnown : Name → Type 0) → HasNoConstantMemory s → AreReadable s v w HasValue IsKnown
    → (e : Expression) → LeavesAre IsKnown e → IsTrue (is_plain s e) → (width j : ℕ) → j < width
    → SetOr (assigned_value s v width e) (assigned_value s w width e) j v w HasValue (λ z. copied s e (sign_of s e) j ≡ Some z)
assigned_copied s v w HasValue IsKnown p r e l plain width j h =
    moved (assigned_value s v width e) (assigned_value s w width e) (value_of s v e (max width (width_of s e)) (sign_of s e))
    (value_of s w e (max width (width_of s e)) (sign_of s e)) j j v w HasValue (λ z. copied s e (sign_of s e) j ≡ Some z)
    (λ z. copied s e (sign_of s e) j ≡ Some z) (cut (value_of s v e (max width (width_of s e)) (sign_of s e)))
    (cut (value_of s w e (max width (width_of s e)) (sign_of s e))) (λ z c. c)
    (copied_local s v w HasValue IsKnown p r e l plain (max width (width_of s e)) j (second_most width (width_of s e)))
  where
    cut : (x : ℕ) → is_set (x % 2 ^ width) j ≡ is_set x j
    cut x = set_from_bit (x % 2 ^ width) x j j (bit_of_cut x width j h)

pub copied_bit_is_local : CopiedBitIsLocal
copied_bit_is_local s v w IsKnown e width j p f g l plain h =
    told (assigned_copied s v w (λ m. Unit {0}) IsKnown p (readable s v w IsKnown f g) e l plain width j h)
  where
    told : SetOr (assigned_value s v width e) (assigned_value s w width e) j v w (λ m. Unit {0}) (λ z. copied s e (sign_of s e) j ≡ Some z)
        → (is_set (assigned_value s v width e) j ≡ is_set (assigned_value s w width e) j) ⊎ DifferAt v w (λ z. copied s e (sign_of s e) j ≡ Some z)
    told (inl e2) = inl e2
    told (inr d) = inr (differ_at v w (λ m. Unit {0}) (λ z. copied s e (sign_of s e) j ≡ Some z) d)
