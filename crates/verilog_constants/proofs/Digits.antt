-- Which digits an expression has that are refused rests on nothing else.
use Rattle.std.proofs.Common.{◌≡◌, ℕ, Bool, true, false, cond, ◌||◌, refl, ap, sym, ◌∙◌, Option, Some, None}
use Rattle.verilog_trees.specs.Syntax.{Expression, number, name, concatenation, replication, as_signed, as_unsigned, unary, reduction, binary, shift, power, comparison, logical, conditional, Expressions, no_expressions, expression, Select, index, part, part_up, part_down, Selects, whole, one, two}
use Rattle.verilog_meaning.specs.Expression.{Object, Scope, is_memory}
use Rattle.verilog_rules.specs.Expression.{nothing, Position, by_total, broken, broken_parts, broken_selects, broken_select, broken_bits}

pub either : {a b c d : Bool} → a ≡ b → c ≡ d → (a || c) ≡ (b || d)
either {a} {b} {c} {d} e f = ap (λ x. x || c) e ∙ ap (λ x. b || x) f

pub totals : (v w : Option ℕ) → (by_total v).has_xz ≡ (by_total w).has_xz
totals None None = refl
totals None (Some w) = refl
totals (Some v) None = refl
totals (Some v) (Some w) = refl

-- the bits that a select takes have no digits
bits_have_none : (s : Scope) (o : Object) (x : Select) → (broken_bits s o x).has_xz ≡ false
bits_have_none s o (index i) = refl
bits_have_none s o (part h l) = refl
bits_have_none s o (part_up b n) = refl
bits_have_none s o (part_down b n) = refl

chosen_has_none : (s : Scope) (o : Object) (b : Bool) (x : Select) → (cond b nothing (broken_bits s o x)).has_xz ≡ false
chosen_has_none s o true x = refl
chosen_has_none s o false x = bits_have_none s o x

same_none : {a b : Bool} → a ≡ false → b ≡ false → a ≡ b
same_none e f = e ∙ sym f

module _ (s t : Scope) where
  mutual
    pub digits : (p q : Position) (e : Expression) → (broken s p e).has_xz ≡ (broken t q e).has_xz
    digits p q (number k) = refl
    digits p q (name n x) = selects_digits p q (s n) (t n) x
    digits p q (concatenation es) = either (totals _ _) (parts_digits p q es)
    digits p q (replication k es) = either (digits _ _ k) (either (totals _ _) (parts_digits p q es))
    digits p q (as_signed x) = digits _ _ x
    digits p q (as_unsigned x) = digits _ _ x
    digits p q (unary op x) = digits p q x
    digits p q (reduction op x) = digits _ _ x
    digits p q (binary op x y) = either (digits p q x) (digits p q y)
    digits p q (shift op x n) = either (digits p q x) (digits _ _ n)
    digits p q (power x n) = either (digits p q x) (digits _ _ n)
    digits p q (comparison op x y) = either (digits _ _ x) (digits _ _ y)
    digits p q (logical op x y) = either (digits _ _ x) (digits _ _ y)
    digits p q (conditional c x y) = either (either (digits _ _ c) (digits p q x)) (digits p q y)

    parts_digits : (p q : Position) (es : Expressions) → (broken_parts s p es).has_xz ≡ (broken_parts t q es).has_xz
    parts_digits p q no_expressions = refl
    parts_digits p q (expression e es) = either (digits _ _ e) (parts_digits p q es)

    selects_digits : (p q : Position) (o u : Object) (x : Selects) → (broken_selects s p o x).has_xz ≡ (broken_selects t q u x).has_xz
    selects_digits p q o u whole = refl
    selects_digits p q o u (one x) = either (select_digits p q x) (same_none (chosen_has_none s o (is_memory o) x) (chosen_has_none t u (is_memory u) x))
    selects_digits p q o u (two x y) =
        either (select_digits p q x) (either (select_digits p q y) (same_none (bits_have_none s o y) (bits_have_none t u y)))

    select_digits : (p q : Position) (x : Select) → (broken_select s p x).has_xz ≡ (broken_select t q x).has_xz
    select_digits p q (index i) = digits _ _ i
    select_digits p q (part h l) = either (digits _ _ h) (digits _ _ l)
    select_digits p q (part_up b n) = either (digits _ _ b) (digits _ _ n)
    select_digits p q (part_down b n) = either (digits _ _ b) (digits _ _ n)
