-- Constants in two scopes that differ in some names: a constant without such a name is the same in both, and one with such a name is
-- refused in each scope in which these names are nets.
use Rattle.std.proofs.Common.{◌≡◌, ℕ, ◌∙◌, refl, sym, ap, Bool, true, false, cond, not, ◌&&◌, ◌||◌, List, [], ◌∷◌, ◌++◌, Option, None, is_none, pos, ◌⊎◌, inl, inr}
use Rattle.std.proofs.lemmas.Bool.{false≢true}
use Rattle.std.specs.List.{list_any}
use Rattle.wb_values.specs.Value.{Name}
use Rattle.wb_values.specs.Choice.{some_if}
use Rattle.verilog_trees.specs.Syntax.{Expression, number, name, concatenation, replication, as_signed, as_unsigned, unary, reduction, binary, shift, power, comparison, logical, conditional, Expressions, no_expressions, expression, Select, index, part, part_up, part_down, Selects, whole, one, two}
use Rattle.verilog_meaning.specs.Expression.{Object, Scope, is_memory, width_of, widths_of, sign_of, no_values, integer_of}
use Rattle.verilog_rules.specs.Expression.{Broken, nothing, is_unbroken, constant, wider, by_name, is_below, by_total, copies, is_unsized, divides, is_bad_divisor, is_bad_exponent, number_if, broken, broken_parts, broken_selects, broken_select, broken_bits, has_width, have_widths, broken_constant, constant_number}
use Rattle.verilog_designs.specs.Names.{names_in, names_in_all, names_in_select, names_in_selects}
use Rattle.verilog_unique.proofs.Descent.{IsAmong}
use Rattle.v_sound.specs.Alike.{IsNet}
use Rattle.verilog_exists.proofs.Scopes.{SameIn, same_in, constant_rules, constant_same}

-- ---- truth values

pub neither : (a b : Bool) → a || b ≡ false → (a ≡ false) × (b ≡ false)
neither false b h = (refl, h)
neither true b h = absurd (false≢true (sym h))

pub or-left : (a b : Bool) → a ≡ true → a || b ≡ true
or-left a b h = ap (λ z. z || b) h

pub or-right : (a b : Bool) → b ≡ true → a || b ≡ true
or-right true b h = refl
or-right false b h = h

pub either : (a b : Bool) → a || b ≡ true → (a ≡ true) ⊎ (b ≡ true)
either true b h = inl refl
either false b h = inr h

pub any-append : (w : Name → Bool) (xs ys : List Name) → list_any w (xs ++ ys) ≡ list_any w xs || list_any w ys
any-append w [] ys = refl
any-append w (x ∷ xs) ys = ap (λ b. w x || b) (any-append w xs ys) ∙ sym (or-assoc (w x) (list_any w xs) (list_any w ys))
  where
    or-assoc : (a b c : Bool) → (a || b) || c ≡ a || (b || c)
    or-assoc true b c = refl
    or-assoc false b c = refl

one-of : (w : Name → Bool) (xs ys : List Name) → list_any w (xs ++ ys) ≡ true → (list_any w xs ≡ true) ⊎ (list_any w ys ≡ true)
one-of w xs ys h = either (list_any w xs) (list_any w ys) (sym (any-append w xs ys) ∙ h)

-- none of the names is so
none-of : (w : Name → Bool) (ns : List Name) → list_any w ns ≡ false → (n : Name) → IsAmong ns n → w n ≡ false
none-of w [] h n m = absurd m
none-of w (x ∷ ns) h n (inl e) = ap w (sym e) ∙ (neither (w x) (list_any w ns) h).0
none-of w (x ∷ ns) h n (inr m) = none-of w ns (neither (w x) (list_any w ns) h).1 n m

-- ---- a net where a constant is wanted

net-refused : (o : Object) (v : Option ℕ) (u : Bool) (x : Selects) → IsNet o → (by_name (constant v u) o x).bad_constant ≡ true
net-refused o v u x h = ap (λ b. b && (true && is_none o.constant)) h.0 ∙ ap is_none h.1

module _ (s : Scope) (w : Name → Bool) (are_nets : (n : Name) → w n ≡ true → IsNet (s n)) where
  mutual
    pub net-within : (e : Expression) → list_any w (names_in e) ≡ true → (v : Option ℕ) (u : Bool) → (broken s (constant v u) e).bad_constant ≡ true
    net-within (number k) h v u = absurd (false≢true h)
    net-within (name n x) h v u = elim (either (w n) (list_any w (names_in_selects x)) h) as (λ _. (broken s (constant v u) (name n x)).bad_constant ≡ true) [
      | inl a ↦ or-left (by_name (constant v u) (s n) x).bad_constant (broken_selects s (constant v u) (s n) x).bad_constant (net-refused (s n) v u x (are_nets n a))
      | inr b ↦ or-right (by_name (constant v u) (s n) x).bad_constant (broken_selects s (constant v u) (s n) x).bad_constant (net-in-selects (s n) x b v u)
    ]
    net-within (concatenation es) h v u = or-right (by_total (some_if (have_widths s es) (widths_of s es))).bad_constant (broken_parts s (constant v u) es).bad_constant (net-in-parts es h v u)
    net-within (replication k es) h v u =
        let b : Broken = broken_constant s k in
        let c : Bool = is_below (pos 1) (constant_number s k) || b.bad_constant in
        let d : Bool = (by_total (copies (constant_number s k) (some_if (have_widths s es) (widths_of s es)))).bad_constant || (broken_parts s (constant v u) es).bad_constant in
        elim (one-of w (names_in k) (names_in_all es) h) as (λ _. c || d ≡ true) [
          | inl a ↦ or-left c d (or-right (is_below (pos 1) (constant_number s k)) b.bad_constant (net-within k a (some_if (has_width s k) (width_of s k)) (sign_of s k)))
          | inr a ↦ or-right c d (or-right (by_total (copies (constant_number s k) (some_if (have_widths s es) (widths_of s es)))).bad_constant (broken_parts s (constant v u) es).bad_constant (net-in-parts es a v u))
        ]
    net-within (as_signed x) h v u = net-within x h (some_if (has_width s x) (width_of s x)) (sign_of s x)
    net-within (as_unsigned x) h v u = net-within x h (some_if (has_width s x) (width_of s x)) (sign_of s x)
    net-within (unary op x) h v u = net-within x h v u
    net-within (reduction op x) h v u = net-within x h (some_if (has_width s x) (width_of s x)) (sign_of s x)
    net-within (binary op x y) h v u =
        let b : Broken = broken s (constant v u) y in
        let c : Bool = divides op && is_bad_divisor s (constant v u) y (is_unbroken b) in
        elim (one-of w (names_in x) (names_in y) h) as (λ _. (broken s (constant v u) x).bad_constant || (c || b.bad_constant) ≡ true) [
          | inl a ↦ or-left (broken s (constant v u) x).bad_constant (c || b.bad_constant) (net-within x a v u)
          | inr a ↦ or-right (broken s (constant v u) x).bad_constant (c || b.bad_constant) (or-right c b.bad_constant (net-within y a v u))
        ]
    net-within (shift op x n) h v u =
        let a : Broken = broken s (constant v u) x in
        let b : Broken = broken s (constant (some_if (has_width s n) (width_of s n)) (sign_of s n)) n in
        elim (one-of w (names_in x) (names_in n) h) as (λ _. a.bad_constant || b.bad_constant ≡ true) [
          | inl c ↦ or-left a.bad_constant b.bad_constant (net-within x c v u)
          | inr c ↦ or-right a.bad_constant b.bad_constant (net-within n c (some_if (has_width s n) (width_of s n)) (sign_of s n))
        ]
    net-within (power x n) h v u =
        let a : Broken = broken s (constant v u) x in
        let b : Broken = broken s (constant (some_if (has_width s n) (width_of s n)) (sign_of s n)) n in
        let c : Bool = is_bad_exponent (constant v u) (number_if b s n) in
        elim (one-of w (names_in x) (names_in n) h) as (λ _. a.bad_constant || (c || b.bad_constant) ≡ true) [
          | inl d ↦ or-left a.bad_constant (c || b.bad_constant) (net-within x d v u)
          | inr d ↦ or-right a.bad_constant (c || b.bad_constant) (or-right c b.bad_constant (net-within n d (some_if (has_width s n) (width_of s n)) (sign_of s n)))
        ]
    net-within (comparison op x y) h v u =
        let m : Option ℕ = wider (some_if (has_width s x) (width_of s x)) (some_if (has_width s y) (width_of s y)) in
        let t : Bool = sign_of s x && sign_of s y in
        elim (one-of w (names_in x) (names_in y) h) as (λ _. (broken s (constant m t) x).bad_constant || (broken s (constant m t) y).bad_constant ≡ true) [
          | inl a ↦ or-left (broken s (constant m t) x).bad_constant (broken s (constant m t) y).bad_constant (net-within x a m t)
          | inr a ↦ or-right (broken s (constant m t) x).bad_constant (broken s (constant m t) y).bad_constant (net-within y a m t)
        ]
    net-within (logical op x y) h v u =
        let a : Broken = broken s (constant (some_if (has_width s x) (width_of s x)) (sign_of s x)) x in
        let b : Broken = broken s (constant (some_if (has_width s y) (width_of s y)) (sign_of s y)) y in
        elim (one-of w (names_in x) (names_in y) h) as (λ _. a.bad_constant || b.bad_constant ≡ true) [
          | inl c ↦ or-left a.bad_constant b.bad_constant (net-within x c (some_if (has_width s x) (width_of s x)) (sign_of s x))
          | inr c ↦ or-right a.bad_constant b.bad_constant (net-within y c (some_if (has_width s y) (width_of s y)) (sign_of s y))
        ]
    net-within (conditional c x y) h v u =
        let a : Broken = broken s (constant (some_if (has_width s c) (width_of s c)) (sign_of s c)) c in
        let b : Broken = broken s (constant v u) x in
        let d : Broken = broken s (constant v u) y in
        elim (one-of w (names_in c ++ names_in x) (names_in y) h) as (λ _. (a.bad_constant || b.bad_constant) || d.bad_constant ≡ true) [
          | inl k ↦ or-left (a.bad_constant || b.bad_constant) d.bad_constant (elim (one-of w (names_in c) (names_in x) k) as (λ _. a.bad_constant || b.bad_constant ≡ true) [
            | inl l ↦ or-left a.bad_constant b.bad_constant (net-within c l (some_if (has_width s c) (width_of s c)) (sign_of s c))
            | inr l ↦ or-right a.bad_constant b.bad_constant (net-within x l v u)
          ])
          | inr k ↦ or-right (a.bad_constant || b.bad_constant) d.bad_constant (net-within y k v u)
        ]

    net-in-parts : (es : Expressions) → list_any w (names_in_all es) ≡ true → (v : Option ℕ) (u : Bool) → (broken_parts s (constant v u) es).bad_constant ≡ true
    net-in-parts no_expressions h v u = absurd (false≢true h)
    net-in-parts (expression e es) h v u =
        let b : Broken = broken s (constant (some_if (has_width s e) (width_of s e)) (sign_of s e)) e in
        let d : Broken = broken_parts s (constant v u) es in
        elim (one-of w (names_in e) (names_in_all es) h) as (λ _. (is_unsized e || b.bad_constant) || d.bad_constant ≡ true) [
          | inl a ↦ or-left (is_unsized e || b.bad_constant) d.bad_constant (or-right (is_unsized e) b.bad_constant (net-within e a (some_if (has_width s e) (width_of s e)) (sign_of s e)))
          | inr a ↦ or-right (is_unsized e || b.bad_constant) d.bad_constant (net-in-parts es a v u)
        ]

    net-in-selects : (o : Object) (x : Selects) → list_any w (names_in_selects x) ≡ true → (v : Option ℕ) (u : Bool) → (broken_selects s (constant v u) o x).bad_constant ≡ true
    net-in-selects o whole h v u = absurd (false≢true h)
    net-in-selects o (one x) h v u = or-left (broken_select s (constant v u) x).bad_constant (cond (is_memory o) nothing (broken_bits s o x)).bad_constant (net-in-select x h v u)
    net-in-selects o (two x y) h v u =
        let b : Bool = (broken_select s (constant v u) y).bad_constant || (broken_bits s o y).bad_constant in
        elim (one-of w (names_in_select x) (names_in_select y) h) as (λ _. (broken_select s (constant v u) x).bad_constant || b ≡ true) [
          | inl a ↦ or-left (broken_select s (constant v u) x).bad_constant b (net-in-select x a v u)
          | inr a ↦ or-right (broken_select s (constant v u) x).bad_constant b (or-left (broken_select s (constant v u) y).bad_constant (broken_bits s o y).bad_constant (net-in-select y a v u))
        ]

    net-in-select : (x : Select) → list_any w (names_in_select x) ≡ true → (v : Option ℕ) (u : Bool) → (broken_select s (constant v u) x).bad_constant ≡ true
    net-in-select (index i) h v u = net-within i h (some_if (has_width s i) (width_of s i)) (sign_of s i)
    net-in-select (part a b) h v u = elim (one-of w (names_in a) (names_in b) h) as (λ _. (broken_constant s a).bad_constant || (broken_constant s b).bad_constant ≡ true) [
      | inl c ↦ or-left (broken_constant s a).bad_constant (broken_constant s b).bad_constant (net-within a c (some_if (has_width s a) (width_of s a)) (sign_of s a))
      | inr c ↦ or-right (broken_constant s a).bad_constant (broken_constant s b).bad_constant (net-within b c (some_if (has_width s b) (width_of s b)) (sign_of s b))
    ]
    net-in-select (part_up a b) h v u =
        let c : Bool = (broken_constant s a).bad_constant in
        let d : Bool = is_below (pos 1) (constant_number s b) in
        let f : Bool = (broken_constant s b).bad_constant in
        elim (one-of w (names_in a) (names_in b) h) as (λ _. c || (d || f) ≡ true) [
          | inl g ↦ or-left c (d || f) (net-within a g (some_if (has_width s a) (width_of s a)) (sign_of s a))
          | inr g ↦ or-right c (d || f) (or-right d f (net-within b g (some_if (has_width s b) (width_of s b)) (sign_of s b)))
        ]
    net-in-select (part_down a b) h v u =
        let c : Bool = (broken_constant s a).bad_constant in
        let d : Bool = is_below (pos 1) (constant_number s b) in
        let f : Bool = (broken_constant s b).bad_constant in
        elim (one-of w (names_in a) (names_in b) h) as (λ _. c || (d || f) ≡ true) [
          | inl g ↦ or-left c (d || f) (net-within a g (some_if (has_width s a) (width_of s a)) (sign_of s a))
          | inr g ↦ or-right c (d || f) (or-right d f (net-within b g (some_if (has_width s b) (width_of s b)) (sign_of s b)))
        ]

  pub net-in-constant : (e : Expression) → list_any w (names_in e) ≡ true → (broken_constant s e).bad_constant ≡ true
  net-in-constant e h = net-within e h (some_if (has_width s e) (width_of s e)) (sign_of s e)

bad-broken : (b : Broken) → b.bad_constant ≡ true → is_unbroken b ≡ false
bad-broken b h = shown b.undeclared b.has_xz b.bad_constant _ h
  where
    shown : (u x c r : Bool) → c ≡ true → not u && (not x && (not c && r)) ≡ false
    shown true x c r h = refl
    shown false true c r h = refl
    shown false false c r h = ap (λ z. not z && r) h

pub no-number : (s : Scope) (e : Expression) → (broken_constant s e).bad_constant ≡ true → constant_number s e ≡ None
no-number s e h = ap (λ z. some_if z (integer_of s no_values e)) (bad-broken (broken_constant s e) h)

-- The scopes say the same of the names that are not so.
module _ (s t : Scope) (w : Name → Bool) (same : (n : Name) → w n ≡ false → s n ≡ t n) where
  pub same-constant : (e : Expression) → list_any w (names_in e) ≡ false → SameIn s t e
  same-constant e h = same_in s t e (λ n m. same n (none-of w (names_in e) h n m))

  pub same-rules : (e : Expression) → list_any w (names_in e) ≡ false → broken_constant s e ≡ broken_constant t e
  same-rules e h = constant_rules s t e (same-constant e h)

  pub same-number : (e : Expression) → list_any w (names_in e) ≡ false → constant_number s e ≡ constant_number t e
  same-number e h = constant_same s t e (same-constant e h)
