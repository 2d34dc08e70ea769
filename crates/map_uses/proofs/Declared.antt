-- Where an expression breaks no rule on names, all names in it are declared; and where it breaks no rule and is of a text, it is narrow.
use Rattle.std.proofs.Common.{◌≡◌, Bool, true, false, cond, not, inl, inr, refl, sym, ap, subst, ◌∙◌, List, ◌++◌, Option, Some, None, is_some}
use Rattle.std.specs.Prelude.{IsTrue, ◌&&◌, pos, Contains}
use Rattle.std.proofs.lemmas.Bool.{false≢true}
use Rattle.wb_values.specs.Choice.{some_if}
use Rattle.wb_values.specs.Value.{Name}
use Rattle.verilog_trees.specs.Syntax.{Expression, number, name, concatenation, replication, as_signed, as_unsigned, unary, reduction, binary, shift, power, comparison, logical, conditional, Expressions, no_expressions, expression, Select, index, part, part_up, part_down, Selects, whole, one, two}
use Rattle.verilog_meaning.specs.Expression.{Object, Scope, is_memory, width_of, widths_of, sign_of}
use Rattle.verilog_rules.specs.Expression.{Kind, undeclared_name, Broken, nothing, also, constant_if, first_broken, Position, anywhere, in_context, wider, by_name, is_below, by_total, copies, is_unsized, divides, is_bad_divisor, is_bad_exponent, number_if, is_unbroken, by_itself, as_constant, broken, broken_parts, broken_selects, broken_select, broken_bits, has_width, have_widths, refusal_of}
use Rattle.verilog_designs.specs.Names.{names_in, names_in_all, names_in_select, names_in_selects}
use Rattle.verilog_unique.proofs.Options.{first_false, second_false, not_is_false}
use Rattle.verilog_unique.proofs.Descent.{IsAmong, among_either, among_contains}
use Rattle.v_value.specs.Narrow.{IsNarrow, HasNarrowObjects}
use Rattle.v_size.proofs.Unbroken.{unbroken-holds}

left_ok : (a b : Broken) → (also a b).undeclared ≡ false → a.undeclared ≡ false
left_ok a b h = first_false a.undeclared b.undeclared h

right_ok : (a b : Broken) → (also a b).undeclared ≡ false → b.undeclared ≡ false
right_ok a b h = second_false a.undeclared b.undeclared h

one_of : {A : Type 0} (ms ns : List Name) (n : Name) → (IsAmong ms n → A) → (IsAmong ns n → A) → IsAmong (ms ++ ns) n → A
one_of {A = A} ms ns n f g h = elim (among_either ms ns n h) as (λ _. A) [ inl k ↦ f k | inr k ↦ g k ]

module _ (s : Scope) (n : Name) where
  abbrev Declared : Type 0
  Declared = IsTrue ((s n).is_declared)

  mutual
    known : (p : Position) (e : Expression) → (broken s p e).undeclared ≡ false → IsAmong (names_in e) n → Declared
    known p (number k) b h = absurd h
    known p (name m x) b (inl e) =
        subst (λ k. IsTrue ((s k).is_declared)) e
        (not_is_false (s m).is_declared (left_ok (by_name p (s m) x) (broken_selects s p (s m) x) b))
    known p (name m x) b (inr h) = selects_known p (s m) x (right_ok (by_name p (s m) x) (broken_selects s p (s m) x) b) h
    known p (concatenation es) b h = parts_known p es (right_ok (by_total (some_if (have_widths s es) (widths_of s es))) (broken_parts s p es) b) h
    known p (replication k es) b h =
        let c : Broken = broken s (as_constant s (has_width s k) k) k in
        let t : Broken = by_total (copies (number_if c s k) (some_if (have_widths s es) (widths_of s es))) in
        let d : Broken = also (constant_if (is_below (pos 1) (number_if c s k))) c in
        one_of (names_in k) (names_in_all es) n
        (known (as_constant s (has_width s k) k) k (right_ok (constant_if (is_below (pos 1) (number_if c s k))) c (left_ok d (also t (broken_parts s p es)) b)))
        (parts_known p es (right_ok t (broken_parts s p es) (right_ok d (also t (broken_parts s p es)) b))) h
    known p (as_signed x) b h = known (by_itself s p (has_width s x) x) x b h
    known p (as_unsigned x) b h = known (by_itself s p (has_width s x) x) x b h
    known p (unary op x) b h = known p x b h
    known p (reduction op x) b h = known (by_itself s p (has_width s x) x) x b h
    known p (binary op x y) b h =
        let c : Broken = constant_if (divides op && is_bad_divisor s p y (is_unbroken (broken s p y))) in
        one_of (names_in x) (names_in y) n (known p x (left_ok (broken s p x) (also c (broken s p y)) b))
        (known p y (right_ok c (broken s p y) (right_ok (broken s p x) (also c (broken s p y)) b))) h
    known p (shift op x y) b h =
        let q : Position = by_itself s p (has_width s y) y in
        one_of (names_in x) (names_in y) n (known p x (left_ok (broken s p x) (broken s q y) b)) (known q y (right_ok (broken s p x) (broken s q y) b)) h
    known p (power x y) b h =
        let q : Position = by_itself s p (has_width s y) y in
        let c : Broken = constant_if (is_bad_exponent p (number_if (broken s q y) s y)) in
        one_of (names_in x) (names_in y) n (known p x (left_ok (broken s p x) (also c (broken s q y)) b))
        (known q y (right_ok c (broken s q y) (right_ok (broken s p x) (also c (broken s q y)) b))) h
    known p (comparison op x y) b h =
        let q : Position = in_context p (wider (some_if (has_width s x) (width_of s x)) (some_if (has_width s y) (width_of s y))) (sign_of s x && sign_of s y) in
        one_of (names_in x) (names_in y) n (known q x (left_ok (broken s q x) (broken s q y) b)) (known q y (right_ok (broken s q x) (broken s q y) b)) h
    known p (logical op x y) b h =
        let q : Position = by_itself s p (has_width s x) x in
        let r : Position = by_itself s p (has_width s y) y in
        one_of (names_in x) (names_in y) n (known q x (left_ok (broken s q x) (broken s r y) b)) (known r y (right_ok (broken s q x) (broken s r y) b)) h
    known p (conditional c x y) b h =
        let q : Position = by_itself s p (has_width s c) c in
        let one : (also (broken s q c) (broken s p x)).undeclared ≡ false = left_ok (also (broken s q c) (broken s p x)) (broken s p y) b in
        one_of (names_in c ++ names_in x) (names_in y) n
        (one_of (names_in c) (names_in x) n (known q c (left_ok (broken s q c) (broken s p x) one)) (known p x (right_ok (broken s q c) (broken s p x) one)))
        (known p y (right_ok (also (broken s q c) (broken s p x)) (broken s p y) b)) h

    parts_known : (p : Position) (es : Expressions) → (broken_parts s p es).undeclared ≡ false → IsAmong (names_in_all es) n → Declared
    parts_known p no_expressions b h = absurd h
    parts_known p (expression e es) b h =
        let q : Position = by_itself s p (has_width s e) e in
        let d : Broken = also (constant_if (is_unsized e)) (broken s q e) in
        one_of (names_in e) (names_in_all es) n (known q e (right_ok (constant_if (is_unsized e)) (broken s q e) (left_ok d (broken_parts s p es) b)))
        (parts_known p es (right_ok d (broken_parts s p es) b)) h

    selects_known : (p : Position) (o : Object) (x : Selects) → (broken_selects s p o x).undeclared ≡ false → IsAmong (names_in_selects x) n → Declared
    selects_known p o whole b h = absurd h
    selects_known p o (one x) b h = select_known p x (left_ok (broken_select s p x) (cond (is_memory o) nothing (broken_bits s o x)) b) h
    selects_known p o (two x y) b h =
        let c : Broken = also (broken_select s p y) (broken_bits s o y) in
        one_of (names_in_select x) (names_in_select y) n (select_known p x (left_ok (broken_select s p x) c b))
        (select_known p y (left_ok (broken_select s p y) (broken_bits s o y) (right_ok (broken_select s p x) c b))) h

    select_known : (p : Position) (x : Select) → (broken_select s p x).undeclared ≡ false → IsAmong (names_in_select x) n → Declared
    select_known p (index i) b h = known (by_itself s p (has_width s i) i) i b h
    select_known p (part l r) b h =
        let q : Position = as_constant s (has_width s l) l in
        let t : Position = as_constant s (has_width s r) r in
        one_of (names_in l) (names_in r) n (known q l (left_ok (broken s q l) (broken s t r) b)) (known t r (right_ok (broken s q l) (broken s t r) b)) h
    select_known p (part_up l r) b h =
        let q : Position = by_itself s p (has_width s l) l in
        let t : Position = as_constant s (has_width s r) r in
        let c : Broken = constant_if (is_below (pos 1) (number_if (broken s t r) s r)) in
        one_of (names_in l) (names_in r) n (known q l (left_ok (broken s q l) (also c (broken s t r)) b))
        (known t r (right_ok c (broken s t r) (right_ok (broken s q l) (also c (broken s t r)) b))) h
    select_known p (part_down l r) b h =
        let q : Position = by_itself s p (has_width s l) l in
        let t : Position = as_constant s (has_width s r) r in
        let c : Broken = constant_if (is_below (pos 1) (number_if (broken s t r) s r)) in
        one_of (names_in l) (names_in r) n (known q l (left_ok (broken s q l) (also c (broken s t r)) b))
        (known t r (right_ok c (broken s t r) (right_ok (broken s q l) (also c (broken s t r)) b))) h

none_undeclared : (b : Broken) → first_broken b ≡ None → b.undeclared ≡ false
none_undeclared b h = by b.undeclared h
  where
    by : (t : Bool) → cond t (Some undeclared_name) (first_broken (record b { undeclared = false })) ≡ None → t ≡ false
    by true e = absurd (false≢true (sym (ap is_some e)))
    by false e = refl

pub names_declared : (s : Scope) (e : Expression) → refusal_of s e ≡ None → (n : Name) → Contains (names_in e) n → IsTrue ((s n).is_declared)
names_declared s e h n c = known s n anywhere e (none_undeclared (broken s anywhere e) h) (among_contains (names_in e) n c)

-- ---- narrow ones

not_chosen : (c : Bool) (k : Kind) (r : Option Kind) → cond c (Some k) r ≡ None → (not c ≡ true) × (r ≡ None)
not_chosen false k r e = (refl, e)
not_chosen true k r e = absurd (false≢true (sym (ap is_some e)))

not_last : (c : Bool) (k : Kind) → some_if c k ≡ None → not c ≡ true
not_last false k e = refl
not_last true k e = absurd (false≢true (sym (ap is_some e)))

and_both : (a b : Bool) → a ≡ true → b ≡ true → a && b ≡ true
and_both a b i j = ap (λ z. z && b) i ∙ j

none_broken : (b : Broken) → b.misshapen ≡ false → first_broken b ≡ None → is_unbroken b ≡ true
none_broken b m e =
    let a1 = not_chosen b.undeclared _ _ e in
    let a2 = not_chosen b.has_xz _ _ a1.1 in
    let a3 = not_chosen b.bad_constant _ _ a2.1 in
    let a4 = not_chosen b.width_over_128 _ _ a3.1 in
    let a5 = not_chosen b.bad_select _ _ a4.1 in
    let a6 = not_last b.memory_use _ a5.1 in
    and_both _ _ a1.0 (and_both _ _ a2.0 (and_both _ _ a3.0 (and_both _ _ a4.0 (and_both _ _ a5.0 (and_both _ _ a6 (ap not m))))))

pub is_narrow : (s : Scope) (e : Expression) → HasNarrowObjects s → (broken s anywhere e).misshapen ≡ false → refusal_of s e ≡ None → IsNarrow s e
is_narrow s e objects shapely unbroken = (unbroken-holds s objects anywhere e (none_broken (broken s anywhere e) shapely unbroken)).1
