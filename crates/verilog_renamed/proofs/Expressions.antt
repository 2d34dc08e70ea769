-- An expression with other names has the same sign, width and value.
use Rattle.std.proofs.Common.{◌≡◌, ℕ, ◌+◌, ◌*◌, ◌^◌, max, ◌%◌, Bool, cond, ◌&&◌, refl, ap, ◌∙◌}
use Rattle.wb_values.specs.Value.{Name, Value, Valuation}
use Rattle.verilog_trees.specs.Syntax.{Expression, number, name, concatenation, replication, as_signed, as_unsigned, unary, reduction, binary, shift, power, comparison, logical, conditional, Expressions, no_expressions, expression, Select, index, part, part_up, part_down, Selects, whole, one, two}
use Rattle.verilog_meaning.specs.Expression.{Object, Scope, is_memory, Bits, place_of_bit, bits_taken, widened, integer_from, natural_of, bit, is_nonzero, side_by_side, unary_value, reduction_value, binary_value, shift_value, power_value, comparison_value, logical_value, selects_sign, sign_of, no_values, whole_value, indexed_word, bits_between, bits_upward, bits_downward, object_width, width_of, widths_of, selects_width, value_of, joined_value, selected, select_index, select_bits, self_value, integer_of, is_true, assigned_value}
use Rattle.verilog_renamed.specs.Renamed.{renamed_expression, renamed_expressions, renamed_select, renamed_selects}
use Rattle.verilog_renamed.proofs.Paths.{ap2, ap3, through}

-- The scope of the new names says the same of the renamed expression as it says, seen through f, of the expression itself.
pub record Same (f : Name → Name) (t : Scope) (e : Expression) : Type 0 where
  pub sign : sign_of t (renamed_expression f e) ≡ sign_of (through f t) e
  pub width : width_of t (renamed_expression f e) ≡ width_of (through f t) e
  pub value : (v : Valuation) (w : ℕ) (signed : Bool)
      → value_of t v (renamed_expression f e) w signed ≡ value_of (through f t) (through f v) e w signed

pub record SameParts (f : Name → Name) (t : Scope) (es : Expressions) : Type 0 where
  pub widths : widths_of t (renamed_expressions f es) ≡ widths_of (through f t) es
  pub joined : (v : Valuation) → joined_value t v (renamed_expressions f es) ≡ joined_value (through f t) (through f v) es

pub record SameSelect (f : Name → Name) (t : Scope) (x : Select) : Type 0 where
  pub place : (v : Valuation) → select_index t v (renamed_select f x) ≡ select_index (through f t) (through f v) x
  pub bits : (v : Valuation) (o : Object) → select_bits t v o (renamed_select f x) ≡ select_bits (through f t) (through f v) o x

pub record SameSelects (f : Name → Name) (t : Scope) (x : Selects) : Type 0 where
  pub sign : (o : Object) → selects_sign o (renamed_selects f x) ≡ selects_sign o x
  pub width : (o : Object) → selects_width t o (renamed_selects f x) ≡ selects_width (through f t) o x
  pub value : (v : Valuation) (o : Object) (y : Value) → selected t v o y (renamed_selects f x) ≡ selected (through f t) (through f v) o y x

module _ (f : Name → Name) (t : Scope) where
  pub self : (e : Expression) (v : Valuation) → Same f t e → self_value t v (renamed_expression f e) ≡ self_value (through f t) (through f v) e
  self e v h =
      h.value v (width_of t (renamed_expression f e)) (sign_of t (renamed_expression f e))
      ∙ ap2 (value_of (through f t) (through f v) e) h.width h.sign

  pub integer : (e : Expression) (v : Valuation) → Same f t e → integer_of t v (renamed_expression f e) ≡ integer_of (through f t) (through f v) e
  integer e v h = ap3 integer_from h.sign h.width (self e v h)

  mutual
    pub same : (e : Expression) → Same f t e
    same (number k) = record { sign = refl; width = refl; value = λ v w g. refl }
    same (name n x) =
        let h : SameSelects f t x = same_selects x in
        record {
          sign = h.sign (t (f n));
          width = h.width (t (f n));
          value = λ v w g. ap2 (λ a b. widened g a w b) (h.width (t (f n))) (h.value v (t (f n)) (v (f n)));
        }
    same (concatenation es) =
        let h : SameParts f t es = same_parts es in
        record { sign = refl; width = h.widths; value = λ v w g. ap2 (λ a b. widened g a w b) h.widths (h.joined v) }
    same (replication k es) =
        let c : Same f t k = same k in
        let h : SameParts f t es = same_parts es in
        record {
          sign = refl;
          width = ap2 (λ a b. natural_of a * b) (integer k no_values c) h.widths;
          value = λ v w g. ap3 (λ a b z. widened g (natural_of a * b) w (side_by_side (natural_of a) b z)) (integer k no_values c) h.widths (h.joined v);
        }
    same (as_signed x) =
        let h : Same f t x = same x in
        record { sign = refl; width = h.width; value = λ v w g. ap2 (λ a b. widened g a w b) h.width (self x v h) }
    same (as_unsigned x) =
        let h : Same f t x = same x in
        record { sign = refl; width = h.width; value = λ v w g. ap2 (λ a b. widened g a w b) h.width (self x v h) }
    same (unary op x) =
        let h : Same f t x = same x in
        record { sign = h.sign; width = h.width; value = λ v w g. ap (unary_value op w) (h.value v w g) }
    same (reduction op x) =
        let h : Same f t x = same x in
        record { sign = refl; width = refl; value = λ v w g. ap2 (λ a b. bit (reduction_value op a b)) h.width (self x v h) }
    same (binary op x y) =
        let h : Same f t x = same x in
        let k : Same f t y = same y in
        record {
          sign = ap2 (λ a b. a && b) h.sign k.sign;
          width = ap2 max h.width k.width;
          value = λ v w g. ap2 (binary_value op w g) (h.value v w g) (k.value v w g);
        }
    same (shift op x n) =
        let h : Same f t x = same x in
        let k : Same f t n = same n in
        record { sign = h.sign; width = h.width; value = λ v w g. ap2 (shift_value op w g) (h.value v w g) (self n v k) }
    same (power x n) =
        let h : Same f t x = same x in
        let k : Same f t n = same n in
        record { sign = h.sign; width = h.width; value = λ v w g. ap2 (power_value w) (h.value v w g) (integer n v k) }
    same (comparison op x y) =
        let h : Same f t x = same x in
        let k : Same f t y = same y in
        let a : Expression = renamed_expression f x in
        let b : Expression = renamed_expression f y in
        record {
          sign = refl;
          width = refl;
          value = λ v w g.
              ap2 (λ p q. bit (comparison_value op (integer_from (sign_of t a && sign_of t b) (max (width_of t a) (width_of t b)) p)
              (integer_from (sign_of t a && sign_of t b) (max (width_of t a) (width_of t b)) q)))
              (h.value v (max (width_of t a) (width_of t b)) (sign_of t a && sign_of t b))
              (k.value v (max (width_of t a) (width_of t b)) (sign_of t a && sign_of t b))
              ∙ ap2 (λ m c. bit (comparison_value op (integer_from c m (value_of (through f t) (through f v) x m c))
              (integer_from c m (value_of (through f t) (through f v) y m c))))
              (ap2 max h.width k.width) (ap2 (λ p q. p && q) h.sign k.sign);
        }
    same (logical op x y) =
        let h : Same f t x = same x in
        let k : Same f t y = same y in
        record {
          sign = refl;
          width = refl;
          value = λ v w g. ap2 (λ a b. bit (logical_value op (is_nonzero a) (is_nonzero b))) (self x v h) (self y v k);
        }
    same (conditional c x y) =
        let z : Same f t c = same c in
        let h : Same f t x = same x in
        let k : Same f t y = same y in
        record {
          sign = ap2 (λ a b. a && b) h.sign k.sign;
          width = ap2 max h.width k.width;
          value = λ v w g. ap3 (λ a b d. cond (is_nonzero a) b d) (self c v z) (h.value v w g) (k.value v w g);
        }

    pub same_parts : (es : Expressions) → SameParts f t es
    same_parts no_expressions = record { widths = refl; joined = λ v. refl }
    same_parts (expression e es) =
        let h : Same f t e = same e in
        let k : SameParts f t es = same_parts es in
        record {
          widths = ap2 (λ a b. a + b) h.width k.widths;
          joined = λ v. ap3 (λ a b c. a * 2 ^ b + c) (self e v h) k.widths (k.joined v);
        }

    pub same_select : (x : Select) → SameSelect f t x
    same_select (index i) =
        let h : Same f t i = same i in
        record { place = λ v. integer i v h; bits = λ v o. ap (λ z. record { low = place_of_bit o z; count = 1 }) (integer i v h) }
    same_select (part a b) =
        let h : Same f t a = same a in
        let k : Same f t b = same b in
        record { place = λ v. refl; bits = λ v o. ap2 (bits_between o) (integer a no_values h) (integer b no_values k) }
    same_select (part_up a b) =
        let h : Same f t a = same a in
        let k : Same f t b = same b in
        record { place = λ v. refl; bits = λ v o. ap2 (λ x y. bits_upward o x (natural_of y)) (integer a v h) (integer b no_values k) }
    same_select (part_down a b) =
        let h : Same f t a = same a in
        let k : Same f t b = same b in
        record { place = λ v. refl; bits = λ v o. ap2 (λ x y. bits_downward o x (natural_of y)) (integer a v h) (integer b no_values k) }

    pub same_selects : (x : Selects) → SameSelects f t x
    same_selects whole = record { sign = λ o. refl; width = λ o. refl; value = λ v o y. refl }
    same_selects (one x) =
        let h : SameSelect f t x = same_select x in
        record {
          sign = λ o. refl;
          width = λ o. ap (λ (b : Bits). cond (is_memory o) (object_width o) b.count) (h.bits no_values o);
          value = λ v o y. ap2 (λ i b. cond (is_memory o) (indexed_word o i y) (bits_taken (whole_value o y) b)) (h.place v) (h.bits v o);
        }
    same_selects (two x z) =
        let h : SameSelect f t x = same_select x in
        let k : SameSelect f t z = same_select z in
        record {
          sign = λ o. refl;
          width = λ o. ap (λ (b : Bits). b.count) (k.bits no_values o);
          value = λ v o y. ap2 (λ i b. bits_taken (indexed_word o i y) b) (h.place v) (k.bits v o);
        }

  pub condition : (e : Expression) (v : Valuation) → is_true t v (renamed_expression f e) ≡ is_true (through f t) (through f v) e
  condition e v = ap is_nonzero (self e v (same e))

  pub assigned : (e : Expression) (v : Valuation) (w : ℕ)
      → assigned_value t v w (renamed_expression f e) ≡ assigned_value (through f t) (through f v) w e
  assigned e v w =
      let h : Same f t e = same e in
      ap (λ x. x % 2 ^ w)
      (h.value v (max w (width_of t (renamed_expression f e))) (sign_of t (renamed_expression f e))
      ∙ ap2 (λ m g. value_of (through f t) (through f v) e (max w m) g) h.width h.sign)
