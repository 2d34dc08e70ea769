-- Each bit of a plain right side is the bit that is copied to it, where there is one.
use Rattle.std.proofs.Common.{◌≡◌, ℕ, ◌+◌, ◌-◌, ◌*◌, ◌%◌, ◌^◌, ◌<◌, ◌≤◌, max, false, cond, nat_lt, ◌⊎◌, inl, inr, sym, ◌∙◌, Some, None, IsTrue, arith, lt-ltb, le-ltb}
use Rattle.std.proofs.lemmas.Bool.{cases_lt, and_parts, or_parts, cond-true, cond-false}
use Rattle.wb_values.specs.Value.{Name, Valuation}
use Rattle.verilog_trees.specs.Syntax.{Expression, number, name, concatenation, replication, as_signed, as_unsigned, unary, reduction, binary, shift, power, comparison, logical, conditional, Expressions, no_expressions, expression}
use Rattle.verilog_meaning.specs.Expression.{Scope, integer_from, natural_of, side_by_side, no_values, width_of, widths_of, sign_of, value_of, joined_value}
use Rattle.verilog_meaning.specs.Register.{is_set, value_bit}
use Rattle.verilog_designs.specs.Dependence.{Bit, is_plain, are_plain, copied, copied_in}
use Rattle.verilog_settled.specs.Locality.{HasNoConstantMemory, LeavesAre, AllLeavesAre, has_bare_memory, some_bare_memory, CopiedBitIsThereAt}
use Rattle.verilog_settled.proofs.Bits.{set_from_bit, bit_of_cut}
use Rattle.verilog_settled.proofs.Expressions.{AreReadable, readable}
use Rattle.verilog_settled.proofs.Fitting.{selected_fits, parts_fit}
use Rattle.verilog_settled.proofs.Widened.{side_bit}
use Rattle.verilog_settled.proofs.Plain.{at_most, second_most, not_plain, low_of_two, high_of_two}
use Rattle.verilog_settled.proofs.Shown.{Shows, widened_shows}

never_some : (y : Bit) → None ≡ Some y → ⊥
never_some y e = cc

below_most : (x y j : ℕ) → j < x → j < max x y
below_most x y j h = omega (arith, h)

beside_shows : (s : Scope) (v : Valuation) (e : Expression) (es : Expressions) (x a j : ℕ) → a < 2 ^ widths_of s es
    → ((i : ℕ) → i < width_of s e → Shows v x i (copied s e (sign_of s e) i)) → Shows v a j (copied_in s es j)
    → Shows v (x * 2 ^ widths_of s es + a) j (copied_in s (expression e es) j)
beside_shows s v e es x a j f first rest y g = by_place (cases_lt j (widths_of s es))
  where
    by_width : widths_of s es ≤ j → (j - widths_of s es < width_of s e) ⊎ (width_of s e ≤ j - widths_of s es)
        → cond (nat_lt (j - widths_of s es) (width_of s e)) (copied s e (sign_of s e) (j - widths_of s es)) None ≡ Some y
        → is_set (x * 2 ^ widths_of s es + a) j ≡ value_bit (v y.of_name) y.word y.place
    by_width h (inl l) k =
        high_of_two x (widths_of s es) a j f h
        ∙ first (j - widths_of s es) l y
        (sym (cond-true (nat_lt (j - widths_of s es) (width_of s e)) (copied s e (sign_of s e) (j - widths_of s es)) None (lt-ltb (j - widths_of s es) (width_of s e) l)) ∙ k)
    by_width h (inr l) k =
        absurd (never_some y
        (sym (cond-false (nat_lt (j - widths_of s es) (width_of s e)) (copied s e (sign_of s e) (j - widths_of s es)) None (le-ltb (j - widths_of s es) (width_of s e) l)) ∙ k))

    by_place : (j < widths_of s es) ⊎ (widths_of s es ≤ j) → is_set (x * 2 ^ widths_of s es + a) j ≡ value_bit (v y.of_name) y.word y.place
    by_place (inl h) =
        low_of_two x (widths_of s es) a j h
        ∙ rest y (sym (cond-true (nat_lt j (widths_of s es)) (copied_in s es j)
        (cond (nat_lt (j - widths_of s es) (width_of s e)) (copied s e (sign_of s e) (j - widths_of s es)) None) (lt-ltb j (widths_of s es) h)) ∙ g)
    by_place (inr h) =
        by_width h (cases_lt (j - widths_of s es) (width_of s e))
        (sym (cond-false (nat_lt j (widths_of s es)) (copied_in s es j)
        (cond (nat_lt (j - widths_of s es) (width_of s e)) (copied s e (sign_of s e) (j - widths_of s es)) None) (le-ltb j (widths_of s es) h)) ∙ g)

repeated_shows : (s : Scope) (v : Valuation) (es : Expressions) (count x j : ℕ) → x < 2 ^ widths_of s es
    → ((i : ℕ) → Shows v x i (copied_in s es i))
    → Shows v (side_by_side count (widths_of s es) x) j (cond (nat_lt j (count * widths_of s es)) (copied_in s es (j % widths_of s es)) None)
repeated_shows s v es count x j f each y g = by_place (cases_lt j (count * widths_of s es))
  where
    by_place : (j < count * widths_of s es) ⊎ (count * widths_of s es ≤ j)
        → is_set (side_by_side count (widths_of s es) x) j ≡ value_bit (v y.of_name) y.word y.place
    by_place (inl h) =
        side_bit count (widths_of s es) x j f h
        ∙ each (j % widths_of s es) y
        (sym (cond-true (nat_lt j (count * widths_of s es)) (copied_in s es (j % widths_of s es)) None (lt-ltb j (count * widths_of s es) h)) ∙ g)
    by_place (inr h) =
        absurd (never_some y
        (sym (cond-false (nat_lt j (count * widths_of s es)) (copied_in s es (j % widths_of s es)) None (le-ltb j (count * widths_of s es) h)) ∙ g))

mutual
  plain_shows : (s : Scope) (v : Valuation) (HasValue IsKnown : Name → Type 0) → HasNoConstantMemory s → AreReadable s v v HasValue IsKnown
      → (e : Expression) → LeavesAre IsKnown e → IsTrue (is_plain s e) → has_bare_memory s e ≡ false → (width j : ℕ) → width_of s e ≤ width → j < width
      → Shows v (value_of s v e width (sign_of s e)) j (copied s e (sign_of s e) j)
  plain_shows s v HasValue IsKnown p r (number k) l plain bare width j h g = λ y e. absurd (never_some y e)
  plain_shows s v HasValue IsKnown p r (name n x) l plain bare width j h g =
      widened_shows s v p n x (λ c. (r n l.0).alike c) plain bare (selected_fits s v v HasValue p n x (r n l.0)) width j h g
  plain_shows s v HasValue IsKnown p r (concatenation es) l plain bare width j h g = parts_show s v HasValue IsKnown p r es l plain bare j
  plain_shows s v HasValue IsKnown p r (replication k es) l plain bare width j h g =
      repeated_shows s v es (natural_of (integer_from (sign_of s k) (width_of s k) (value_of s no_values k (width_of s k) (sign_of s k))))
      (joined_value s v es) j (parts_fit s v v HasValue IsKnown p r es l) (λ i. parts_show s v HasValue IsKnown p r es l plain bare i)
  plain_shows s v HasValue IsKnown p r (as_signed x) l plain bare width j h g = not_plain plain
  plain_shows s v HasValue IsKnown p r (as_unsigned x) l plain bare width j h g = not_plain plain
  plain_shows s v HasValue IsKnown p r (unary op x) l plain bare width j h g = not_plain plain
  plain_shows s v HasValue IsKnown p r (reduction op x) l plain bare width j h g = not_plain plain
  plain_shows s v HasValue IsKnown p r (binary op x y) l plain bare width j h g = not_plain plain
  plain_shows s v HasValue IsKnown p r (shift op x n) l plain bare width j h g = not_plain plain
  plain_shows s v HasValue IsKnown p r (power x n) l plain bare width j h g = not_plain plain
  plain_shows s v HasValue IsKnown p r (comparison op x y) l plain bare width j h g = not_plain plain
  plain_shows s v HasValue IsKnown p r (logical op x y) l plain bare width j h g = not_plain plain
  plain_shows s v HasValue IsKnown p r (conditional c x y) l plain bare width j h g = not_plain plain

  parts_show : (s : Scope) (v : Valuation) (HasValue IsKnown : Name → Type 0) → HasNoConstantMemory s → AreReadable s v v HasValue IsKnown
      → (es : Expressions) → AllLeavesAre IsKnown es → IsTrue (are_plain s es) → some_bare_memory s es ≡ false → (j : ℕ)
      → Shows v (joined_value s v es) j (copied_in s es j)
  parts_show s v HasValue IsKnown p r no_expressions l plain bare j = λ y e. absurd (never_some y e)
  parts_show s v HasValue IsKnown p r (expression e es) l plain bare j =
      beside_shows s v e es (value_of s v e (width_of s e) (sign_of s e)) (joined_value s v es) j (parts_fit s v v HasValue IsKnown p r es l.1)
      (λ i h. plain_shows s v HasValue IsKnown p r e l.0 (and_parts (is_plain s e) (are_plain s es) plain).0
      (or_parts (has_bare_memory s e) (some_bare_memory s es) bare).0 (width_of s e) i (at_most (width_of s e)) h)
      (parts_show s v HasValue IsKnown p r es l.1 (and_parts (is_plain s e) (are_plain s es) plain).1
      (or_parts (has_bare_memory s e) (some_bare_memory s es) bare).1 j)

pub copied_bit_is_there : (s : Scope) (v : Valuation) (IsKnown : Name → Type 0) → CopiedBitIsThereAt s v IsKnown
copied_bit_is_there s v IsKnown e width j y p f l plain bare h g =
    set_from_bit (value_of s v e (max width (width_of s e)) (sign_of s e) % 2 ^ width) (value_of s v e (max width (width_of s e)) (sign_of s e)) j j
    (bit_of_cut (value_of s v e (max width (width_of s e)) (sign_of s e)) width j h)
    ∙ plain_shows s v (λ m. Unit {0}) IsKnown p (readable s v v IsKnown f f) e l plain bare (max width (width_of s e)) j (second_most width (width_of s e))
    (below_most width (width_of s e) j h) y g
