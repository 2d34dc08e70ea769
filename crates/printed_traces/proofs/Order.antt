-- Names in the order of their bytes: the keys of an object follow one another, and each name is that of one entry.
use Rattle.std.proofs.Common.{◌≡◌, ◌∙◌, ℕ, zero, suc, ◌<◌, Bool, true, false, cond, ◌&&◌, [], ◌∷◌, length, Some, Ordering, Less, Equal, Greater, nat_cmp, is_eq, refl, sym, ap, subst, arith, eq-eqb, inl, inr, ◌⊎◌}
use Rattle.std.specs.Prelude.{◌==◌, nat_lt, slice_index_or, Contains}
use Rattle.std.specs.Ordering.{ordering_reverse, ordering_then}
use Rattle.std.specs.Cmp.Lexicographic.{slice_cmp}
use Rattle.std.proofs.lemmas.Bool.{and_parts, or_cases, cond-true, eqb-true, le-ltb}
use Rattle.std.proofs.lemmas.Cmp.{nat_list_cmp_total, tied_itself}
use Rattle.std.proofs.lemmas.Map.Text.{is_eq-slice_cmp}
use Rattle.wb_values.specs.Value.{Name, same_name, Value, Entries, entry_of}
use Rattle.verilog_meaning.specs.Settled.{names_of}
use Rattle.reports.specs.Report.{is_before, is_in_order}

abbrev pub compare : Name → Name → Ordering
compare m n = slice_cmp nat_cmp m n

less_first : (x y : ℕ) → nat_lt x y ≡ true → nat_cmp x y ≡ Less
less_first x y e = cond-true (nat_lt x y) Less (cond (x == y) Equal Greater) e

same_first : (x y : ℕ) → x ≡ y → nat_cmp x y ≡ Equal
same_first x y e = subst (λ z. nat_cmp x z ≡ Equal) e (tied x)
  where
    tied : (z : ℕ) → nat_cmp z z ≡ Equal
    tied z = by (nat_lt z z) (z == z) (le-ltb z z (omega arith)) (eq_itself z)
      where
        eq_itself : (w : ℕ) → (w == w) ≡ true
        eq_itself w = eq-eqb w w refl

        by : (a b : Bool) → a ≡ false → b ≡ true → cond a Less (cond b Equal Greater) ≡ Equal
        by a b p q = rw (p, q) refl

pub before_less : (m n : Name) → is_before m n ≡ true → compare m n ≡ Less
before_less [] [] h = cc
before_less [] (y ∷ n) h = refl
before_less (x ∷ m) [] h = cc
before_less (x ∷ m) (y ∷ n) h = by (or_cases (nat_lt x y) ((x == y) && is_before m n) h) (λ e. before_less m n e)
  where
    by : (nat_lt x y ≡ true) ⊎ (((x == y) && is_before m n) ≡ true) → (is_before m n ≡ true → compare m n ≡ Less) → compare (x ∷ m) (y ∷ n) ≡ Less
    by (inl e) f = ap (λ o. ordering_then o (compare m n)) (less_first x y e)
    by (inr e) f =
        let p = and_parts (x == y) (is_before m n) e in
        ap (λ o. ordering_then o (compare m n)) (same_first x y (eqb-true x y p.0)) ∙ f p.1

pub before_trans : (a b c : Name) → compare a b ≡ Less → compare b c ≡ Less → compare a c ≡ Less
before_trans a b c p q = nat_list_cmp_total.trans a b c p q

pub turned : (k l : Name) → compare l k ≡ Less → compare k l ≡ Greater
turned k l e = nat_list_cmp_total.antisymm k l ∙ ap ordering_reverse e

-- a name is not one before it
apart : (m n : Name) → compare m n ≡ Less → same_name m n ≡ false
apart m n e = sym (is_eq-slice_cmp m n) ∙ ap is_eq e

itself : (n : Name) → same_name n n ≡ true
itself n = sym (is_eq-slice_cmp n n) ∙ ap is_eq (tied_itself nat_list_cmp_total n)

-- ---- entries

-- what stands after an entry has a later name
after_first : (e : Name × Value) (es : Entries Value) (n : Name) (x : Value) → is_in_order (names_of (e ∷ es)) ≡ true
    → (k : ℕ) → k < length es → slice_index_or es k (n, x) ≡ (n, x) → compare e.0 n ≡ Less
after_first e [] n x o k l is = absurd (omega (arith, l))
after_first e (f ∷ es) n x o zero l is =
    let p = and_parts (is_before e.0 f.0) (is_in_order (names_of (f ∷ es))) o in
    subst (λ m. compare e.0 m ≡ Less) (ap (λ (q : Name × Value). q.0) is) (before_less e.0 f.0 p.0)
after_first e (f ∷ es) n x o (suc k) l is =
    let p = and_parts (is_before e.0 f.0) (is_in_order (names_of (f ∷ es))) o in
    before_trans e.0 f.0 n (before_less e.0 f.0 p.0) (after_first f es n x p.1 k (omega (arith, l)) is)

in_order_after : (e : Name × Value) (es : Entries Value) → is_in_order (names_of (e ∷ es)) ≡ true → is_in_order (names_of es) ≡ true
in_order_after e [] o = refl
in_order_after e (f ∷ es) o = (and_parts (is_before e.0 f.0) (is_in_order (names_of (f ∷ es))) o).1

entry_at : (es : Entries Value) (n : Name) (x : Value) → is_in_order (names_of es) ≡ true
    → (k : ℕ) → k < length es → slice_index_or es k (n, x) ≡ (n, x) → entry_of es n ≡ Some x
entry_at [] n x o k l is = absurd (omega (arith, l))
entry_at (e ∷ es) n x o zero l is =
    subst (λ (q : Name × Value). cond (same_name q.0 n) (Some q.1) (entry_of es n) ≡ Some x) (sym is) (ap (λ b. cond b (Some x) (entry_of es n)) (itself n))
entry_at (e ∷ es) n x o (suc k) l is =
    ap (λ b. cond b (Some e.1) (entry_of es n)) (apart e.0 n (after_first e es n x o k (omega (arith, l)) is))
    ∙ entry_at es n x (in_order_after e es o) k (omega (arith, l)) is

-- An entry is what stands under its name.
pub entry_found : (es : Entries Value) (n : Name) (x : Value) → is_in_order (names_of es) ≡ true → Contains es (n, x) → entry_of es n ≡ Some x
entry_found es n x o c = entry_at es n x o c.0 c.1 c.2
