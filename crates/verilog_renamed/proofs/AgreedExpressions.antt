-- Scopes that agree on each name in an expression give it one sign, width and value.
use Rattle.std.proofs.Common.{◌≡◌, ℕ, ◌+◌, ◌*◌, ◌^◌, max, ◌%◌, Bool, cond, ◌&&◌, refl}
use Rattle.wb_values.specs.Value.{Value, Valuation}
use Rattle.verilog_trees.specs.Syntax.{Expression, number, name, concatenation, replication, as_signed, as_unsigned, unary, reduction, binary, shift, power, comparison, logical, conditional, Expressions, no_expressions, expression, Select, index, part, part_up, part_down, Selects, whole, one, two}
use Rattle.verilog_meaning.specs.Expression.{Object, Scope, is_memory, place_of_bit, bits_taken, widened, integer_from, natural_of, bit, is_nonzero, side_by_side, unary_value, reduction_value, binary_value, shift_value, power_value, comparison_value, logical_value, selects_sign, sign_of, no_values, whole_value, indexed_word, bits_between, bits_upward, bits_downward, object_width, width_of, widths_of, selects_width, value_of, joined_value, selected, select_index, select_bits, self_value, integer_of, is_true, assigned_value}
use Rattle.verilog_renamed.specs.EachName.{EachIn, EachInAll, EachInSelect, EachInSelects}
use Rattle.verilog_renamed.specs.Agreement.{IsSameIn}

pub record Agreed (s t : Scope) (e : Expression) : Type 0 where
  pub sign : sign_of t e ≡ sign_of s e
  pub width : width_of t e ≡ width_of s e
  pub value : (v : Valuation) (w : ℕ) (signed : Bool) → value_of t v e w signed ≡ value_of s v e w signed

pub record AgreedParts (s t : Scope) (es : Expressions) : Type 0 where
  pub widths : widths_of t es ≡ widths_of s es
  pub joined : (v : Valuation) → joined_value t v es ≡ joined_value s v es

pub record AgreedSelect (s t : Scope) (x : Select) : Type 0 where
  pub place : (v : Valuation) → select_index t v x ≡ select_index s v x
  pub bits : (v : Valuation) (o : Object) → select_bits t v o x ≡ select_bits s v o x

pub record AgreedSelects (s t : Scope) (x : Selects) : Type 0 where
  pub width : (o : Object) → selects_width t o x ≡ selects_width s o x
  pub value : (v : Valuation) (o : Object) (y : Value) → selected t v o y x ≡ selected s v o y x

module _ (s t : Scope) where
  pub agreed_self : (e : Expression) (v : Valuation) → Agreed s t e → self_value t v e ≡ self_value s v e
  agreed_self e v h = λ i. h.value v (h.width i) (h.sign i) i

  pub agreed_integer : (e : Expression) (v : Valuation) → Agreed s t e → integer_of t v e ≡ integer_of s v e
  agreed_integer e v h = λ i. integer_from (h.sign i) (h.width i) (agreed_self e v h i)

  mutual
    pub agreed : (e : Expression) → EachIn (IsSameIn s t) e → Agreed s t e
    agreed (number k) a = record { sign = refl; width = refl; value = λ v w g. refl }
    agreed (name n x) a =
        let h : AgreedSelects s t x = agreed_selects x a.1 in
        record {
          sign = λ i. selects_sign (a.0 i) x;
          width = λ i. h.width (a.0 i) i;
          value = λ v w g i. widened g (h.width (a.0 i) i) w (h.value v (a.0 i) (v n) i);
        }
    agreed (concatenation es) a =
        let h : AgreedParts s t es = agreed_parts es a in
        record { sign = refl; width = h.widths; value = λ v w g i. widened g (h.widths i) w (h.joined v i) }
    agreed (replication k es) a =
        let c : Agreed s t k = agreed k a.0 in
        let h : AgreedParts s t es = agreed_parts es a.1 in
        let m : natural_of (integer_of t no_values k) ≡ natural_of (integer_of s no_values k) = λ i. natural_of (agreed_integer k no_values c i) in
        record {
          sign = refl;
          width = λ i. m i * h.widths i;
          value = λ v w g i. widened g (m i * h.widths i) w (side_by_side (m i) (h.widths i) (h.joined v i));
        }
    agreed (as_signed x) a =
        let h : Agreed s t x = agreed x a in
        record { sign = refl; width = h.width; value = λ v w g i. widened g (h.width i) w (agreed_self x v h i) }
    agreed (as_unsigned x) a =
        let h : Agreed s t x = agreed x a in
        record { sign = refl; width = h.width; value = λ v w g i. widened g (h.width i) w (agreed_self x v h i) }
    agreed (unary op x) a =
        let h : Agreed s t x = agreed x a in
        record { sign = h.sign; width = h.width; value = λ v w g i. unary_value op w (h.value v w g i) }
    agreed (reduction op x) a =
        let h : Agreed s t x = agreed x a in
        record { sign = refl; width = refl; value = λ v w g i. bit (reduction_value op (h.width i) (agreed_self x v h i)) }
    agreed (binary op x y) a =
        let h : Agreed s t x = agreed x a.0 in
        let k : Agreed s t y = agreed y a.1 in
        record {
          sign = λ i. h.sign i && k.sign i;
          width = λ i. max (h.width i) (k.width i);
          value = λ v w g i. binary_value op w g (h.value v w g i) (k.value v w g i);
        }
    agreed (shift op x n) a =
        let h : Agreed s t x = agreed x a.0 in
        let k : Agreed s t n = agreed n a.1 in
        record { sign = h.sign; width = h.width; value = λ v w g i. shift_value op w g (h.value v w g i) (agreed_self n v k i) }
    agreed (power x n) a =
        let h : Agreed s t x = agreed x a.0 in
        let k : Agreed s t n = agreed n a.1 in
        record { sign = h.sign; width = h.width; value = λ v w g i. power_value w (h.value v w g i) (agreed_integer n v k i) }
    agreed (comparison op x y) a =
        let h : Agreed s t x = agreed x a.0 in
        let k : Agreed s t y = agreed y a.1 in
        let m : max (width_of t x) (width_of t y) ≡ max (width_of s x) (width_of s y) = λ i. max (h.width i) (k.width i) in
        let c : (sign_of t x && sign_of t y) ≡ (sign_of s x && sign_of s y) = λ i. h.sign i && k.sign i in
        record {
          sign = refl;
          width = refl;
          value = λ v w g i.
              bit (comparison_value op (integer_from (c i) (m i) (h.value v (m i) (c i) i)) (integer_from (c i) (m i) (k.value v (m i) (c i) i)));
        }
    agreed (logical op x y) a =
        let h : Agreed s t x = agreed x a.0 in
        let k : Agreed s t y = agreed y a.1 in
        record {
          sign = refl;
          width = refl;
          value = λ v w g i. bit (logical_value op (is_nonzero (agreed_self x v h i)) (is_nonzero (agreed_self y v k i)));
        }
    agreed (conditional c x y) a =
        let z : Agreed s t c = agreed c a.0 in
        let h : Agreed s t x = agreed x a.1 in
        let k : Agreed s t y = agreed y a.2 in
        record {
          sign = λ i. h.sign i && k.sign i;
          width = λ i. max (h.width i) (k.width i);
          value = λ v w g i. cond (is_nonzero (agreed_self c v z i)) (h.value v w g i) (k.value v w g i);
        }

    pub agreed_parts : (es : Expressions) → EachInAll (IsSameIn s t) es → AgreedParts s t es
    agreed_parts no_expressions a = record { widths = refl; joined = λ v. refl }
    agreed_parts (expression e es) a =
        let h : Agreed s t e = agreed e a.0 in
        let k : AgreedParts s t es = agreed_parts es a.1 in
        record {
          widths = λ i. h.width i + k.widths i;
          joined = λ v i. agreed_self e v h i * 2 ^ k.widths i + k.joined v i;
        }

    pub agreed_select : (x : Select) → EachInSelect (IsSameIn s t) x → AgreedSelect s t x
    agreed_select (index j) a =
        let h : Agreed s t j = agreed j a in
        record { place = λ v. agreed_integer j v h; bits = λ v o i. record { low = place_of_bit o (agreed_integer j v h i); count = 1 } }
    agreed_select (part b c) a =
        let h : Agreed s t b = agreed b a.0 in
        let k : Agreed s t c = agreed c a.1 in
        record { place = λ v. refl; bits = λ v o i. bits_between o (agreed_integer b no_values h i) (agreed_integer c no_values k i) }
    agreed_select (part_up b c) a =
        let h : Agreed s t b = agreed b a.0 in
        let k : Agreed s t c = agreed c a.1 in
        record { place = λ v. refl; bits = λ v o i. bits_upward o (agreed_integer b v h i) (natural_of (agreed_integer c no_values k i)) }
    agreed_select (part_down b c) a =
        let h : Agreed s t b = agreed b a.0 in
        let k : Agreed s t c = agreed c a.1 in
        record { place = λ v. refl; bits = λ v o i. bits_downward o (agreed_integer b v h i) (natural_of (agreed_integer c no_values k i)) }

    pub agreed_selects : (x : Selects) → EachInSelects (IsSameIn s t) x → AgreedSelects s t x
    agreed_selects whole a = record { width = λ o. refl; value = λ v o y. refl }
    agreed_selects (one x) a =
        let h : AgreedSelect s t x = agreed_select x a in
        record {
          width = λ o i. cond (is_memory o) (object_width o) (h.bits no_values o i).count;
          value = λ v o y i. cond (is_memory o) (indexed_word o (h.place v i) y) (bits_taken (whole_value o y) (h.bits v o i));
        }
    agreed_selects (two x z) a =
        let h : AgreedSelect s t x = agreed_select x a.0 in
        let k : AgreedSelect s t z = agreed_select z a.1 in
        record {
          width = λ o i. (k.bits no_values o i).count;
          value = λ v o y i. bits_taken (indexed_word o (h.place v i) y) (k.bits v o i);
        }

  pub agreed_condition : (e : Expression) (v : Valuation) → Agreed s t e → is_true t v e ≡ is_true s v e
  agreed_condition e v h = λ i. is_nonzero (agreed_self e v h i)

  pub agreed_assigned : (e : Expression) (v : Valuation) (w : ℕ) → Agreed s t e → assigned_value t v w e ≡ assigned_value s v w e
  agreed_assigned e v w h = λ i. h.value v (max w (h.width i)) (h.sign i) i % 2 ^ w
