-- A name that is no constant, declared or not, leaves a constant in which it stands without a number.
use Rattle.std.proofs.Common.{◌≡◌, ℕ, Bool, true, false, true≢false, not, cond, ◌&&◌, ◌||◌, ◌++◌, inl, inr, refl, ap, sym, ◌∙◌, subst, Option, Some, None, pos}
use Rattle.std.specs.Prelude.{is_none, ℤ}
use Rattle.wb_values.specs.Value.{Name}
use Rattle.wb_values.specs.Choice.{some_if}
use Rattle.verilog_trees.specs.Syntax.{Expression, number, name, concatenation, replication, as_signed, as_unsigned, unary, reduction, binary, shift, power, comparison, logical, conditional, Expressions, no_expressions, expression, Select, index, part, part_up, part_down, Selects, whole, one, two}
use Rattle.verilog_meaning.specs.Expression.{Object, Scope, is_memory, widths_of, sign_of, width_of}
use Rattle.verilog_rules.specs.Expression.{Broken, nothing, also, is_unbroken, constant_if, Position, constant, wider, by_name, is_below, by_total, copies, is_unsized, divides, is_bad_divisor, is_bad_exponent, number_if, by_itself, as_constant, broken, broken_parts, broken_selects, broken_select, broken_bits, has_width, have_widths, broken_constant, constant_number}
use Rattle.verilog_designs.specs.Names.{names_in, names_in_all, names_in_select, names_in_selects}
use Rattle.verilog_unique.proofs.Descent.{IsAmong, among_either}

-- a name is not declared, or the rule on constants is broken
pub is_bad : Broken → Bool
is_bad b = b.undeclared || b.bad_constant

left : (a b : Broken) → is_bad a ≡ true → is_bad (also a b) ≡ true
unfolding is_bad
left a b h = flags a.undeclared b.undeclared a.bad_constant b.bad_constant h
  where
    or_true : (x : Bool) → (x || true) ≡ true
    or_true true = refl
    or_true false = refl

    flags : (au bu ac bc : Bool) → (au || ac) ≡ true → ((au || bu) || (ac || bc)) ≡ true
    flags true bu ac bc e = refl
    flags false bu true bc e = or_true bu
    flags false bu false bc e = absurd (true≢false (sym e))

right : (a b : Broken) → is_bad b ≡ true → is_bad (also a b) ≡ true
unfolding is_bad
right a b h = flags a.undeclared b.undeclared a.bad_constant b.bad_constant h
  where
    or_true : (x : Bool) → (x || true) ≡ true
    or_true true = refl
    or_true false = refl

    flags : (au bu ac bc : Bool) → (bu || bc) ≡ true → ((au || bu) || (ac || bc)) ≡ true
    flags true bu ac bc e = refl
    flags false true ac bc e = refl
    flags false false ac true e = or_true ac
    flags false false ac false e = absurd (true≢false (sym e))

no_constant : (w : Option ℕ) (g : Bool) (o : Object) (x : Selects) → o.constant ≡ None → is_bad (by_name (constant w g) o x) ≡ true
unfolding is_bad
no_constant w g o x e = flags o.is_declared (is_none o.constant) (ap is_none e)
  where
    flags : (d n : Bool) → n ≡ true → (not d || (d && n)) ≡ true
    flags true n f = f
    flags false n f = refl

-- such a judgement is not without fault
pub bad_not : (b : Broken) → is_bad b ≡ true → is_unbroken b ≡ false
unfolding is_bad
bad_not b e = flags b.undeclared b.has_xz b.bad_constant _ e
  where
    flags : (u x c r : Bool) → (u || c) ≡ true → (not u && (not x && (not c && r))) ≡ false
    flags true x c r f = refl
    flags false true c r f = refl
    flags false false c r f = ap (λ k. not k && r) f

module _ (s : Scope) (n : Name) (none : (s n).constant ≡ None) where
  mutual
    pub name_breaks : (w : Option ℕ) (g : Bool) (e : Expression) → IsAmong (names_in e) n → is_bad (broken s (constant w g) e) ≡ true
    name_breaks w g (number k) h = absurd h
    name_breaks w g (name m x) (inl e) =
        left (by_name (constant w g) (s m) x) (broken_selects s (constant w g) (s m) x) (no_constant w g (s m) x (subst (λ k. (s k).constant ≡ None) (sym e) none))
    name_breaks w g (name m x) (inr h) =
        right (by_name (constant w g) (s m) x) (broken_selects s (constant w g) (s m) x) (name_in_selects w g (s m) x h)
    name_breaks w g (concatenation es) h =
        right (by_total (some_if (have_widths s es) (widths_of s es))) (broken_parts s (constant w g) es) (name_in_parts w g es h)
    name_breaks w g (replication k es) h =
        elim (among_either (names_in k) (names_in_all es) n h) [
          | inl i ↦ left (also (constant_if (is_below (pos 1) (constant_number s k))) (broken_constant s k))
              (also (by_total (copies (constant_number s k) (some_if (have_widths s es) (widths_of s es)))) (broken_parts s (constant w g) es))
              (right (constant_if (is_below (pos 1) (constant_number s k))) (broken_constant s k) (name_breaks (some_if (has_width s k) (width_of s k)) (sign_of s k) k i))
          | inr i ↦ right (also (constant_if (is_below (pos 1) (constant_number s k))) (broken_constant s k))
              (also (by_total (copies (constant_number s k) (some_if (have_widths s es) (widths_of s es)))) (broken_parts s (constant w g) es))
              (right (by_total (copies (constant_number s k) (some_if (have_widths s es) (widths_of s es)))) (broken_parts s (constant w g) es) (name_in_parts w g es i))
        ]
    name_breaks w g (as_signed x) h = name_breaks (some_if (has_width s x) (width_of s x)) (sign_of s x) x h
    name_breaks w g (as_unsigned x) h = name_breaks (some_if (has_width s x) (width_of s x)) (sign_of s x) x h
    name_breaks w g (unary op x) h = name_breaks w g x h
    name_breaks w g (reduction op x) h = name_breaks (some_if (has_width s x) (width_of s x)) (sign_of s x) x h
    name_breaks w g (binary op x y) h =
        let rest : Broken = also (constant_if (divides op && is_bad_divisor s (constant w g) y (is_unbroken (broken s (constant w g) y)))) (broken s (constant w g) y) in
        elim (among_either (names_in x) (names_in y) n h) [
          | inl i ↦ left (broken s (constant w g) x) rest (name_breaks w g x i)
          | inr i ↦ right (broken s (constant w g) x) rest
              (right (constant_if (divides op && is_bad_divisor s (constant w g) y (is_unbroken (broken s (constant w g) y)))) (broken s (constant w g) y) (name_breaks w g y i))
        ]
    name_breaks w g (shift op x y) h =
        elim (among_either (names_in x) (names_in y) n h) [
          | inl i ↦ left (broken s (constant w g) x) (broken s (as_constant s (has_width s y) y) y) (name_breaks w g x i)
          | inr i ↦ right (broken s (constant w g) x) (broken s (as_constant s (has_width s y) y) y) (name_breaks (some_if (has_width s y) (width_of s y)) (sign_of s y) y i)
        ]
    name_breaks w g (power x y) h =
        let own : Broken = broken s (as_constant s (has_width s y) y) y in
        let exponent : Broken = constant_if (is_bad_exponent (constant w g) (number_if own s y)) in
        elim (among_either (names_in x) (names_in y) n h) [
          | inl i ↦ left (broken s (constant w g) x) (also exponent own) (name_breaks w g x i)
          | inr i ↦ right (broken s (constant w g) x) (also exponent own) (right exponent own (name_breaks (some_if (has_width s y) (width_of s y)) (sign_of s y) y i))
        ]
    name_breaks w g (comparison op x y) h =
        let v : Option ℕ = wider (some_if (has_width s x) (width_of s x)) (some_if (has_width s y) (width_of s y)) in
        let t : Bool = sign_of s x && sign_of s y in
        elim (among_either (names_in x) (names_in y) n h) [
          | inl i ↦ left (broken s (constant v t) x) (broken s (constant v t) y) (name_breaks v t x i)
          | inr i ↦ right (broken s (constant v t) x) (broken s (constant v t) y) (name_breaks v t y i)
        ]
    name_breaks w g (logical op x y) h =
        elim (among_either (names_in x) (names_in y) n h) [
          | inl i ↦ left (broken s (as_constant s (has_width s x) x) x) (broken s (as_constant s (has_width s y) y) y)
              (name_breaks (some_if (has_width s x) (width_of s x)) (sign_of s x) x i)
          | inr i ↦ right (broken s (as_constant s (has_width s x) x) x) (broken s (as_constant s (has_width s y) y) y)
              (name_breaks (some_if (has_width s y) (width_of s y)) (sign_of s y) y i)
        ]
    name_breaks w g (conditional c x y) h =
        let own : Broken = broken s (as_constant s (has_width s c) c) c in
        elim (among_either (names_in c ++ names_in x) (names_in y) n h) [
          | inl i ↦ left (also own (broken s (constant w g) x)) (broken s (constant w g) y)
              (elim (among_either (names_in c) (names_in x) n i) [
                | inl k ↦ left own (broken s (constant w g) x) (name_breaks (some_if (has_width s c) (width_of s c)) (sign_of s c) c k)
                | inr k ↦ right own (broken s (constant w g) x) (name_breaks w g x k)
              ])
          | inr i ↦ right (also own (broken s (constant w g) x)) (broken s (constant w g) y) (name_breaks w g y i)
        ]

    name_in_parts : (w : Option ℕ) (g : Bool) (es : Expressions) → IsAmong (names_in_all es) n → is_bad (broken_parts s (constant w g) es) ≡ true
    name_in_parts w g no_expressions h = absurd h
    name_in_parts w g (expression e es) h =
        let own : Broken = broken s (as_constant s (has_width s e) e) e in
        elim (among_either (names_in e) (names_in_all es) n h) [
          | inl i ↦ left (also (constant_if (is_unsized e)) own) (broken_parts s (constant w g) es)
              (right (constant_if (is_unsized e)) own (name_breaks (some_if (has_width s e) (width_of s e)) (sign_of s e) e i))
          | inr i ↦ right (also (constant_if (is_unsized e)) own) (broken_parts s (constant w g) es) (name_in_parts w g es i)
        ]

    name_in_selects : (w : Option ℕ) (g : Bool) (o : Object) (x : Selects) → IsAmong (names_in_selects x) n → is_bad (broken_selects s (constant w g) o x) ≡ true
    name_in_selects w g o whole h = absurd h
    name_in_selects w g o (one x) h =
        left (broken_select s (constant w g) x) (cond (is_memory o) nothing (broken_bits s o x)) (name_in_select w g x h)
    name_in_selects w g o (two x y) h =
        elim (among_either (names_in_select x) (names_in_select y) n h) [
          | inl i ↦ left (broken_select s (constant w g) x) (also (broken_select s (constant w g) y) (broken_bits s o y)) (name_in_select w g x i)
          | inr i ↦ right (broken_select s (constant w g) x) (also (broken_select s (constant w g) y) (broken_bits s o y))
              (left (broken_select s (constant w g) y) (broken_bits s o y) (name_in_select w g y i))
        ]

    name_in_select : (w : Option ℕ) (g : Bool) (x : Select) → IsAmong (names_in_select x) n → is_bad (broken_select s (constant w g) x) ≡ true
    name_in_select w g (index i) h = name_breaks (some_if (has_width s i) (width_of s i)) (sign_of s i) i h
    name_in_select w g (part a b) h =
        elim (among_either (names_in a) (names_in b) n h) [
          | inl i ↦ left (broken_constant s a) (broken_constant s b) (name_breaks (some_if (has_width s a) (width_of s a)) (sign_of s a) a i)
          | inr i ↦ right (broken_constant s a) (broken_constant s b) (name_breaks (some_if (has_width s b) (width_of s b)) (sign_of s b) b i)
        ]
    name_in_select w g (part_up b k) h =
        let count : Broken = constant_if (is_below (pos 1) (constant_number s k)) in
        elim (among_either (names_in b) (names_in k) n h) [
          | inl i ↦ left (broken_constant s b) (also count (broken_constant s k)) (name_breaks (some_if (has_width s b) (width_of s b)) (sign_of s b) b i)
          | inr i ↦ right (broken_constant s b) (also count (broken_constant s k))
              (right count (broken_constant s k) (name_breaks (some_if (has_width s k) (width_of s k)) (sign_of s k) k i))
        ]
    name_in_select w g (part_down b k) h =
        let count : Broken = constant_if (is_below (pos 1) (constant_number s k)) in
        elim (among_either (names_in b) (names_in k) n h) [
          | inl i ↦ left (broken_constant s b) (also count (broken_constant s k)) (name_breaks (some_if (has_width s b) (width_of s b)) (sign_of s b) b i)
          | inr i ↦ right (broken_constant s b) (also count (broken_constant s k))
              (right count (broken_constant s k) (name_breaks (some_if (has_width s k) (width_of s k)) (sign_of s k) k i))
        ]
