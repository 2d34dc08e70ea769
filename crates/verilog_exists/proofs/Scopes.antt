-- What an expression breaks, its width and its value as a constant rest on the names in it alone.
use Rattle.std.proofs.Common.{◌≡◌, ℕ, ◌+◌, ◌*◌, ◌^◌, max, Bool, true, false, cond, not, ◌&&◌, ◌||◌, ◌==◌, nat_le, ◌++◌, inl, inr, refl, ap, ◌∙◌, Option, Some, None, pos, IsTrue}
use Rattle.wb_values.specs.Value.{Name, Value}
use Rattle.wb_values.specs.Choice.{some_if}
use Rattle.verilog_trees.specs.Syntax.{Expression, number, name, concatenation, replication, as_signed, as_unsigned, unary, reduction, binary, shift, power, comparison, logical, conditional, Expressions, no_expressions, expression, Select, index, part, part_up, part_down, Selects, whole, one, two}
use Rattle.verilog_meaning.specs.Expression.{Object, Scope, object_width, is_memory, Bits, place_of_bit, bits_taken, widened, integer_from, natural_of, bit, is_nonzero, side_by_side, unary_value, reduction_value, binary_value, shift_value, power_value, comparison_value, logical_value, selects_sign, sign_of, no_values, whole_value, indexed_word, bits_between, bits_upward, bits_downward, width_of, widths_of, selects_width, value_of, joined_value, selected, select_index, select_bits, self_value, integer_of}
use Rattle.verilog_rules.specs.Expression.{nothing, also, is_unbroken, constant_if, width_if, Position, anywhere, constant, in_context, wider, by_name, is_below, by_total, copies, is_at_most_128, bits_between_bounds, is_over_128, by_bounds, is_unsized, divides, is_bad_divisor, is_bad_exponent, by_itself, as_constant, broken, broken_parts, broken_selects, broken_select, broken_bits, has_width, have_widths, selects_have_width, select_has_width, broken_constant, constant_number}
use Rattle.verilog_designs.specs.Names.{names_in, names_in_all, names_in_select, names_in_selects}
use Rattle.verilog_unique.proofs.Descent.{IsAmong, among_left, among_right}

ap2 : {A B C : Type 0} (f : A → B → C) {a b : A} {c d : B} → a ≡ b → c ≡ d → f a c ≡ f b d
ap2 f {a} {b} {c} {d} e g = ap (λ x. f x c) e ∙ ap (f b) g

ap3 : {A B C D : Type 0} (f : A → B → C → D) {a b : A} {c d : B} {x y : C} → a ≡ b → c ≡ d → x ≡ y → f a c x ≡ f b d y
ap3 f {a} {b} {c} {d} {x} {y} e g h = ap (λ z. f z c x) e ∙ ap (λ z. f b z x) g ∙ ap (f b d) h

-- The two scopes say the same of an expression as a constant.
pub record SameIn (s t : Scope) (e : Expression) : Type 0 where
  pub sign : sign_of s e ≡ sign_of t e
  pub width : width_of s e ≡ width_of t e
  pub value : (w : ℕ) (signed : Bool) → value_of s no_values e w signed ≡ value_of t no_values e w signed
  pub has : has_width s e ≡ has_width t e
  pub rules : (p : Position) → broken s p e ≡ broken t p e

record SameParts (s t : Scope) (es : Expressions) : Type 0 where
  widths : widths_of s es ≡ widths_of t es
  joined : joined_value s no_values es ≡ joined_value t no_values es
  have : have_widths s es ≡ have_widths t es
  rules : (p : Position) → broken_parts s p es ≡ broken_parts t p es

record SameSelect (s t : Scope) (x : Select) : Type 0 where
  place : select_index s no_values x ≡ select_index t no_values x
  bits : (o : Object) → select_bits s no_values o x ≡ select_bits t no_values o x
  rules : (p : Position) → broken_select s p x ≡ broken_select t p x
  bit_rules : (o : Object) → broken_bits s o x ≡ broken_bits t o x
  has : select_has_width s x ≡ select_has_width t x

record SameSelects (s t : Scope) (x : Selects) : Type 0 where
  width : (o : Object) → selects_width s o x ≡ selects_width t o x
  value : (o : Object) (y : Value) → selected s no_values o y x ≡ selected t no_values o y x
  has : (o : Object) → selects_have_width s o x ≡ selects_have_width t o x
  rules : (p : Position) (o : Object) → broken_selects s p o x ≡ broken_selects t p o x

module _ (s t : Scope) where
  self : (e : Expression) → SameIn s t e → self_value s no_values e ≡ self_value t no_values e
  self e h = h.value (width_of s e) (sign_of s e) ∙ ap2 (value_of t no_values e) h.width h.sign

  integer : (e : Expression) → SameIn s t e → integer_of s no_values e ≡ integer_of t no_values e
  integer e h = ap3 integer_from h.sign h.width (self e h)

  own : (p : Position) (e : Expression) → SameIn s t e → broken s (by_itself s p (has_width s e) e) e ≡ broken t (by_itself t p (has_width t e) e) e
  own p e h =
      h.rules (by_itself s p (has_width s e) e)
      ∙ ap (λ q. broken t q e) (ap3 (λ a b c. in_context p (some_if a b) c) h.has h.width h.sign)

  pub constant_rules : (e : Expression) → SameIn s t e → broken_constant s e ≡ broken_constant t e
  constant_rules e h =
      h.rules (as_constant s (has_width s e) e) ∙ ap (λ q. broken t q e) (ap3 (λ a b c. constant (some_if a b) c) h.has h.width h.sign)

  pub constant_same : (e : Expression) → SameIn s t e → constant_number s e ≡ constant_number t e
  constant_same e h = ap2 (λ b i. some_if (is_unbroken b) i) (constant_rules e h) (integer e h)

  divisor : (p : Position) (e : Expression) (c : Bool) → SameIn s t e → is_bad_divisor s p e c ≡ is_bad_divisor t p e c
  divisor anywhere e c h = refl
  divisor (constant None g) e c h = refl
  divisor (constant (Some w) g) e c h = ap2 (λ a b. c && ((nat_le a w && nat_le w 128) && (b == 0))) h.width (h.value w g)

  mutual
    pub same_in : (e : Expression) → ((n : Name) → IsAmong (names_in e) n → s n ≡ t n) → SameIn s t e
    same_in (number k) f = record { sign = refl; width = refl; value = λ w g. refl; has = refl; rules = λ p. refl }
    same_in (name n x) f =
        let q : s n ≡ t n = f n (inl refl) in
        let h : SameSelects s t x = same_selects x (λ m k. f m (inr k)) in
        let width : selects_width s (s n) x ≡ selects_width t (t n) x = h.width (s n) ∙ ap (λ o. selects_width t o x) q in
        record {
          sign = ap (λ o. selects_sign o x) q;
          width = width;
          value = λ w g. ap2 (λ a b. widened g a w b) width (h.value (s n) (no_values n) ∙ ap (λ o. selected t no_values o (no_values n) x) q);
          has = ap2 (λ (o : Object) b. (o.is_declared && nat_le (object_width o) 128) && b) q (h.has (s n) ∙ ap (λ o. selects_have_width t o x) q);
          rules = λ p. ap2 (λ o b. also (by_name p o x) b) q (h.rules p (s n) ∙ ap (λ o. broken_selects t p o x) q);
        }
    same_in (concatenation es) f =
        let h : SameParts s t es = same_parts es f in
        record {
          sign = refl;
          width = h.widths;
          value = λ w g. ap2 (λ a b. widened g a w b) h.widths h.joined;
          has = ap2 (λ a b. is_at_most_128 (some_if a b)) h.have h.widths;
          rules = λ p. ap2 also (ap2 (λ a b. by_total (some_if a b)) h.have h.widths) (h.rules p);
        }
    same_in (replication k es) f =
        let c : SameIn s t k = same_in k (λ n g. f n (among_left (names_in k) (names_in_all es) n g)) in
        let h : SameParts s t es = same_parts es (λ n g. f n (among_right (names_in k) (names_in_all es) n g)) in
        record {
          sign = refl;
          width = ap2 (λ a b. natural_of a * b) (integer k c) h.widths;
          value = λ w g. ap3 (λ a b z. widened g (natural_of a * b) w (side_by_side (natural_of a) b z)) (integer k c) h.widths h.joined;
          has = ap3 (λ a b z. is_at_most_128 (copies a (some_if b z))) (constant_same k c) h.have h.widths;
          rules = λ p.
              ap2 also (ap2 (λ a b. also (constant_if (is_below (pos 1) a)) b) (constant_same k c) (constant_rules k c))
              (ap2 also (ap3 (λ a b z. by_total (copies a (some_if b z))) (constant_same k c) h.have h.widths) (h.rules p));
        }
    same_in (as_signed x) f =
        let h : SameIn s t x = same_in x f in
        record { sign = refl; width = h.width; value = λ w g. ap2 (λ a b. widened g a w b) h.width (self x h); has = h.has; rules = λ p. own p x h }
    same_in (as_unsigned x) f =
        let h : SameIn s t x = same_in x f in
        record { sign = refl; width = h.width; value = λ w g. ap2 (λ a b. widened g a w b) h.width (self x h); has = h.has; rules = λ p. own p x h }
    same_in (unary op x) f =
        let h : SameIn s t x = same_in x f in
        record { sign = h.sign; width = h.width; value = λ w g. ap (unary_value op w) (h.value w g); has = h.has; rules = h.rules }
    same_in (reduction op x) f =
        let h : SameIn s t x = same_in x f in
        record { sign = refl; width = refl; value = λ w g. ap2 (λ a b. bit (reduction_value op a b)) h.width (self x h); has = refl; rules = λ p. own p x h }
    same_in (binary op x y) f =
        let h : SameIn s t x = same_in x (λ n g. f n (among_left (names_in x) (names_in y) n g)) in
        let k : SameIn s t y = same_in y (λ n g. f n (among_right (names_in x) (names_in y) n g)) in
        record {
          sign = ap2 (λ a b. a && b) h.sign k.sign;
          width = ap2 max h.width k.width;
          value = λ w g. ap2 (binary_value op w g) (h.value w g) (k.value w g);
          has = ap2 (λ a b. a && b) h.has k.has;
          rules = λ p.
              ap2 also (h.rules p)
              (ap2 (λ a b. also (constant_if (divides op && a)) b)
              (divisor p y (is_unbroken (broken s p y)) k ∙ ap (λ b. is_bad_divisor t p y (is_unbroken b)) (k.rules p)) (k.rules p));
        }
    same_in (shift op x n) f =
        let h : SameIn s t x = same_in x (λ m g. f m (among_left (names_in x) (names_in n) m g)) in
        let k : SameIn s t n = same_in n (λ m g. f m (among_right (names_in x) (names_in n) m g)) in
        record {
          sign = h.sign;
          width = h.width;
          value = λ w g. ap2 (shift_value op w g) (h.value w g) (self n k);
          has = h.has;
          rules = λ p. ap2 also (h.rules p) (own p n k);
        }
    same_in (power x n) f =
        let h : SameIn s t x = same_in x (λ m g. f m (among_left (names_in x) (names_in n) m g)) in
        let k : SameIn s t n = same_in n (λ m g. f m (among_right (names_in x) (names_in n) m g)) in
        record {
          sign = h.sign;
          width = h.width;
          value = λ w g. ap2 (power_value w) (h.value w g) (integer n k);
          has = h.has;
          rules = λ p.
              ap2 also (h.rules p)
              (ap2 (λ a b. also (constant_if (is_bad_exponent p a)) b) (ap2 (λ b i. some_if (is_unbroken b) i) (own p n k) (integer n k)) (own p n k));
        }
    same_in (comparison op x y) f =
        let h : SameIn s t x = same_in x (λ n g. f n (among_left (names_in x) (names_in y) n g)) in
        let k : SameIn s t y = same_in y (λ n g. f n (among_right (names_in x) (names_in y) n g)) in
        let m : max (width_of s x) (width_of s y) ≡ max (width_of t x) (width_of t y) = ap2 max h.width k.width in
        let c : (sign_of s x && sign_of s y) ≡ (sign_of t x && sign_of t y) = ap2 (λ a b. a && b) h.sign k.sign in
        record {
          sign = refl;
          width = refl;
          value = λ w g.
              ap2 (λ a b. bit (comparison_value op (integer_from (sign_of s x && sign_of s y) (max (width_of s x) (width_of s y)) a)
              (integer_from (sign_of s x && sign_of s y) (max (width_of s x) (width_of s y)) b)))
              (h.value (max (width_of s x) (width_of s y)) (sign_of s x && sign_of s y)) (k.value (max (width_of s x) (width_of s y)) (sign_of s x && sign_of s y))
              ∙ ap2 (λ a b. bit (comparison_value op (integer_from b a (value_of t no_values x a b)) (integer_from b a (value_of t no_values y a b)))) m c;
          has = refl;
          rules = λ p.
              ap2 also
              (h.rules (in_context p (wider (some_if (has_width s x) (width_of s x)) (some_if (has_width s y) (width_of s y))) (sign_of s x && sign_of s y)))
              (k.rules (in_context p (wider (some_if (has_width s x) (width_of s x)) (some_if (has_width s y) (width_of s y))) (sign_of s x && sign_of s y)))
              ∙ ap2 (λ a b. also (broken t (in_context p a b) x) (broken t (in_context p a b) y))
              (ap2 wider (ap2 some_if h.has h.width) (ap2 some_if k.has k.width)) c;
        }
    same_in (logical op x y) f =
        let h : SameIn s t x = same_in x (λ n g. f n (among_left (names_in x) (names_in y) n g)) in
        let k : SameIn s t y = same_in y (λ n g. f n (among_right (names_in x) (names_in y) n g)) in
        record {
          sign = refl;
          width = refl;
          value = λ w g. ap2 (λ a b. bit (logical_value op (is_nonzero a) (is_nonzero b))) (self x h) (self y k);
          has = refl;
          rules = λ p. ap2 also (own p x h) (own p y k);
        }
    same_in (conditional c x y) f =
        let z : SameIn s t c = same_in c (λ n g. f n (among_left (names_in c ++ names_in x) (names_in y) n (among_left (names_in c) (names_in x) n g))) in
        let h : SameIn s t x = same_in x (λ n g. f n (among_left (names_in c ++ names_in x) (names_in y) n (among_right (names_in c) (names_in x) n g))) in
        let k : SameIn s t y = same_in y (λ n g. f n (among_right (names_in c ++ names_in x) (names_in y) n g)) in
        record {
          sign = ap2 (λ a b. a && b) h.sign k.sign;
          width = ap2 max h.width k.width;
          value = λ w g. ap3 (λ a b d. cond (is_nonzero a) b d) (self c z) (h.value w g) (k.value w g);
          has = ap2 (λ a b. a && b) h.has k.has;
          rules = λ p. ap2 also (ap2 also (own p c z) (h.rules p)) (k.rules p);
        }

    same_parts : (es : Expressions) → ((n : Name) → IsAmong (names_in_all es) n → s n ≡ t n) → SameParts s t es
    same_parts no_expressions f = record { widths = refl; joined = refl; have = refl; rules = λ p. refl }
    same_parts (expression e es) f =
        let h : SameIn s t e = same_in e (λ n g. f n (among_left (names_in e) (names_in_all es) n g)) in
        let k : SameParts s t es = same_parts es (λ n g. f n (among_right (names_in e) (names_in_all es) n g)) in
        record {
          widths = ap2 (λ a b. a + b) h.width k.widths;
          joined = ap3 (λ a b c. a * 2 ^ b + c) (self e h) k.widths k.joined;
          have = ap2 (λ a b. a && b) h.has k.have;
          rules = λ p. ap2 (λ a b. also (also (constant_if (is_unsized e)) a) b) (own p e h) (k.rules p);
        }

    same_select : (x : Select) → ((n : Name) → IsAmong (names_in_select x) n → s n ≡ t n) → SameSelect s t x
    same_select (index i) f =
        let h : SameIn s t i = same_in i f in
        record {
          place = integer i h;
          bits = λ o. ap (λ z. record { low = place_of_bit o z; count = 1 }) (integer i h);
          rules = λ p. own p i h;
          bit_rules = λ o. refl;
          has = refl;
        }
    same_select (part a b) f =
        let h : SameIn s t a = same_in a (λ n g. f n (among_left (names_in a) (names_in b) n g)) in
        let k : SameIn s t b = same_in b (λ n g. f n (among_right (names_in a) (names_in b) n g)) in
        record {
          place = refl;
          bits = λ o. ap2 (bits_between o) (integer a h) (integer b k);
          rules = λ p. ap2 also (constant_rules a h) (constant_rules b k);
          bit_rules = λ o. ap2 (by_bounds o) (constant_same a h) (constant_same b k);
          has = ap2 (λ x y. is_at_most_128 (bits_between_bounds x y)) (constant_same a h) (constant_same b k);
        }
    same_select (part_up a b) f =
        let h : SameIn s t a = same_in a (λ n g. f n (among_left (names_in a) (names_in b) n g)) in
        let k : SameIn s t b = same_in b (λ n g. f n (among_right (names_in a) (names_in b) n g)) in
        record {
          place = refl;
          bits = λ o. ap2 (λ x y. bits_upward o x (natural_of y)) (integer a h) (integer b k);
          rules = λ p. ap2 also (own p a h) (ap2 (λ x y. also (constant_if (is_below (pos 1) x)) y) (constant_same b k) (constant_rules b k));
          bit_rules = λ o. ap (λ x. width_if (is_over_128 (copies x (Some 1)))) (constant_same b k);
          has = ap (λ x. is_at_most_128 (copies x (Some 1))) (constant_same b k);
        }
    same_select (part_down a b) f =
        let h : SameIn s t a = same_in a (λ n g. f n (among_left (names_in a) (names_in b) n g)) in
        let k : SameIn s t b = same_in b (λ n g. f n (among_right (names_in a) (names_in b) n g)) in
        record {
          place = refl;
          bits = λ o. ap2 (λ x y. bits_downward o x (natural_of y)) (integer a h) (integer b k);
          rules = λ p. ap2 also (own p a h) (ap2 (λ x y. also (constant_if (is_below (pos 1) x)) y) (constant_same b k) (constant_rules b k));
          bit_rules = λ o. ap (λ x. width_if (is_over_128 (copies x (Some 1)))) (constant_same b k);
          has = ap (λ x. is_at_most_128 (copies x (Some 1))) (constant_same b k);
        }

    same_selects : (x : Selects) → ((n : Name) → IsAmong (names_in_selects x) n → s n ≡ t n) → SameSelects s t x
    same_selects whole f = record { width = λ o. refl; value = λ o y. refl; has = λ o. refl; rules = λ p o. refl }
    same_selects (one x) f =
        let h : SameSelect s t x = same_select x f in
        record {
          width = λ o. ap (λ (b : Bits). cond (is_memory o) (object_width o) b.count) (h.bits o);
          value = λ o y. ap2 (λ i b. cond (is_memory o) (indexed_word o i y) (bits_taken (whole_value o y) b)) h.place (h.bits o);
          has = λ o. ap (λ b. is_memory o || b) h.has;
          rules = λ p o. ap2 (λ a b. also a (cond (is_memory o) nothing b)) (h.rules p) (h.bit_rules o);
        }
    same_selects (two x y) f =
        let h : SameSelect s t x = same_select x (λ n g. f n (among_left (names_in_select x) (names_in_select y) n g)) in
        let k : SameSelect s t y = same_select y (λ n g. f n (among_right (names_in_select x) (names_in_select y) n g)) in
        record {
          width = λ o. ap (λ (b : Bits). b.count) (k.bits o);
          value = λ o z. ap2 (λ i b. bits_taken (indexed_word o i z) b) h.place (k.bits o);
          has = λ o. k.has;
          rules = λ p o. ap2 also (h.rules p) (ap2 also (k.rules p) (k.bit_rules o));
        }

-- ---- names that are declared

module _ (s : Scope) where
  none_of : (a b : Bool) → a ≡ false → b ≡ false → (a || b) ≡ false
  none_of true b e f = e
  none_of false b e f = f

  declared_name : (b : Bool) → IsTrue b → not b ≡ false
  declared_name true t = refl
  declared_name false t = cc

  mutual
    -- an expression whose names are all declared names nothing else
    pub all_declared : (e : Expression) (p : Position) → ((n : Name) → IsAmong (names_in e) n → IsTrue ((s n).is_declared)) → (broken s p e).undeclared ≡ false
    all_declared (number k) p f = refl
    all_declared (name n x) p f =
        none_of _ (broken_selects s p (s n) x).undeclared (declared_name ((s n).is_declared) (f n (inl refl))) (selects_declared x p (s n) (λ m k. f m (inr k)))
    all_declared (concatenation es) p f = none_of _ (broken_parts s p es).undeclared (total (some_if (have_widths s es) (widths_of s es))) (parts_declared es p f)
      where
        total : (w : Option ℕ) → (by_total w).undeclared ≡ false
        total None = refl
        total (Some w) = refl
    all_declared (replication k es) p f =
        none_of _ _
        (all_declared k (as_constant s (has_width s k) k) (λ n g. f n (among_left (names_in k) (names_in_all es) n g)))
        (none_of _ (broken_parts s p es).undeclared (total _) (parts_declared es p (λ n g. f n (among_right (names_in k) (names_in_all es) n g))))
      where
        total : (w : Option ℕ) → (by_total w).undeclared ≡ false
        total None = refl
        total (Some w) = refl
    all_declared (as_signed x) p f = all_declared x (by_itself s p (has_width s x) x) f
    all_declared (as_unsigned x) p f = all_declared x (by_itself s p (has_width s x) x) f
    all_declared (unary op x) p f = all_declared x p f
    all_declared (reduction op x) p f = all_declared x (by_itself s p (has_width s x) x) f
    all_declared (binary op x y) p f =
        none_of (broken s p x).undeclared _ (all_declared x p (λ n g. f n (among_left (names_in x) (names_in y) n g)))
        (all_declared y p (λ n g. f n (among_right (names_in x) (names_in y) n g)))
    all_declared (shift op x y) p f =
        none_of (broken s p x).undeclared _ (all_declared x p (λ n g. f n (among_left (names_in x) (names_in y) n g)))
        (all_declared y (by_itself s p (has_width s y) y) (λ n g. f n (among_right (names_in x) (names_in y) n g)))
    all_declared (power x y) p f =
        none_of (broken s p x).undeclared _ (all_declared x p (λ n g. f n (among_left (names_in x) (names_in y) n g)))
        (all_declared y (by_itself s p (has_width s y) y) (λ n g. f n (among_right (names_in x) (names_in y) n g)))
    all_declared (comparison op x y) p f =
        none_of _ _ (all_declared x _ (λ n g. f n (among_left (names_in x) (names_in y) n g)))
        (all_declared y _ (λ n g. f n (among_right (names_in x) (names_in y) n g)))
    all_declared (logical op x y) p f =
        none_of _ _ (all_declared x (by_itself s p (has_width s x) x) (λ n g. f n (among_left (names_in x) (names_in y) n g)))
        (all_declared y (by_itself s p (has_width s y) y) (λ n g. f n (among_right (names_in x) (names_in y) n g)))
    all_declared (conditional c x y) p f =
        none_of _ (broken s p y).undeclared
        (none_of _ (broken s p x).undeclared
        (all_declared c (by_itself s p (has_width s c) c) (λ n g. f n (among_left (names_in c ++ names_in x) (names_in y) n (among_left (names_in c) (names_in x) n g))))
        (all_declared x p (λ n g. f n (among_left (names_in c ++ names_in x) (names_in y) n (among_right (names_in c) (names_in x) n g)))))
        (all_declared y p (λ n g. f n (among_right (names_in c ++ names_in x) (names_in y) n g)))

    parts_declared : (es : Expressions) (p : Position) → ((n : Name) → IsAmong (names_in_all es) n → IsTrue ((s n).is_declared)) → (broken_parts s p es).undeclared ≡ false
    parts_declared no_expressions p f = refl
    parts_declared (expression e es) p f =
        none_of _ (broken_parts s p es).undeclared
        (all_declared e (by_itself s p (has_width s e) e) (λ n g. f n (among_left (names_in e) (names_in_all es) n g)))
        (parts_declared es p (λ n g. f n (among_right (names_in e) (names_in_all es) n g)))

    select_declared : (x : Select) (p : Position) → ((n : Name) → IsAmong (names_in_select x) n → IsTrue ((s n).is_declared)) → (broken_select s p x).undeclared ≡ false
    select_declared (index i) p f = all_declared i (by_itself s p (has_width s i) i) f
    select_declared (part a b) p f =
        none_of _ _ (all_declared a (as_constant s (has_width s a) a) (λ n g. f n (among_left (names_in a) (names_in b) n g)))
        (all_declared b (as_constant s (has_width s b) b) (λ n g. f n (among_right (names_in a) (names_in b) n g)))
    select_declared (part_up a b) p f =
        none_of _ _ (all_declared a (by_itself s p (has_width s a) a) (λ n g. f n (among_left (names_in a) (names_in b) n g)))
        (all_declared b (as_constant s (has_width s b) b) (λ n g. f n (among_right (names_in a) (names_in b) n g)))
    select_declared (part_down a b) p f =
        none_of _ _ (all_declared a (by_itself s p (has_width s a) a) (λ n g. f n (among_left (names_in a) (names_in b) n g)))
        (all_declared b (as_constant s (has_width s b) b) (λ n g. f n (among_right (names_in a) (names_in b) n g)))

    selects_declared : (x : Selects) (p : Position) (o : Object) → ((n : Name) → IsAmong (names_in_selects x) n → IsTrue ((s n).is_declared))
        → (broken_selects s p o x).undeclared ≡ false
    selects_declared whole p o f = refl
    selects_declared (one x) p o f = none_of (broken_select s p x).undeclared _ (select_declared x p f) (bits (is_memory o))
      where
        of_bits : (y : Select) → (broken_bits s o y).undeclared ≡ false
        of_bits (index i) = refl
        of_bits (part a b) = refl
        of_bits (part_up a b) = refl
        of_bits (part_down a b) = refl

        bits : (m : Bool) → (cond m nothing (broken_bits s o x)).undeclared ≡ false
        bits true = refl
        bits false = of_bits x
    selects_declared (two x y) p o f =
        none_of (broken_select s p x).undeclared _ (select_declared x p (λ n g. f n (among_left (names_in_select x) (names_in_select y) n g)))
        (none_of (broken_select s p y).undeclared _ (select_declared y p (λ n g. f n (among_right (names_in_select x) (names_in_select y) n g))) (of_bits y))
      where
        of_bits : (z : Select) → (broken_bits s o z).undeclared ≡ false
        of_bits (index i) = refl
        of_bits (part a b) = refl
        of_bits (part_up a b) = refl
        of_bits (part_down a b) = refl
