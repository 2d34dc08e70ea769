-- Where terms may be read: in a child and in those inside it, what may be read around it; and a term where each name that it reads may be.
use Rattle.std.proofs.Common.{◌≡◌, ℕ, zero, suc, Bool, true, false, cond, ◌||◌, List, Option, Some, None, inl, inr, refl, sym, ap, ◌∙◌, subst}
use Rattle.std.specs.Prelude.{◌==◌, ◌⊎◌}
use Rattle.std.proofs.lemmas.Bool.{false≢true, eqb-true, eq-eqb}
use Rattle.wb_values.specs.Value.{Name, Entries, entry_of}
use Rattle.model_meaning.specs.Term.{Term}
use Rattle.model_files.specs.Written.{UnaryForm, not, neg, BinaryForm, and, or, xor, add, sub, mul, shl, lshr, ashr, eq, ult, ule, slt, sle, concat, load, Widening, zext, sext, WrittenTerm, name, constant_truth, const, unary, binary, extract, widen, ite, store}
use Rattle.model_files.specs.Scope.{Visible, unary_term, binary_term, widened_term, term_named, term_of}
use Rattle.ila_model.specs.declared.parts.Child.{Child}
use Rattle.ila_model.specs.declared.scopes.Scope.{Scope}
use Rattle.ila_model.specs.declared.scopes.Scope.TheVariants.{Anywhere, Within, Nowhere}
use Rattle.ila_model.specs.Scope.{nesting, around, encloses, is_nested, is_around, is_child_nested, may_read, joined, scope_of}

or_cases : (a b : Bool) → (a || b) ≡ true → (a ≡ true) ⊎ (b ≡ true)
or_cases true b h = inl refl
or_cases false b h = inr h

or_right : (a b : Bool) → b ≡ true → (a || b) ≡ true
or_right true b h = refl
or_right false b h = h

or_left : (a b : Bool) → a ≡ true → (a || b) ≡ true
or_left true b h = refl
or_left false b h = absurd (false≢true h)

-- ---- children around one another

-- what is around a place within so many levels is so within one more
enclosed_more : (cs : List Child) (l a : ℕ) (at : Option ℕ) → encloses cs l a at ≡ true → encloses cs (suc l) a at ≡ true
enclosed_more cs zero a at h = absurd (false≢true h)
enclosed_more cs (suc l) a None h = absurd (false≢true h)
enclosed_more cs (suc l) a (Some c) h = by_case (or_cases (c == a) (encloses cs l a (around cs c)) h) (enclosed_more cs l a (around cs c)) where
  by_case : ((c == a) ≡ true) ⊎ (encloses cs l a (around cs c) ≡ true) → (encloses cs l a (around cs c) ≡ true → encloses cs (suc l) a (around cs c) ≡ true) → encloses cs (suc (suc l)) a (Some c) ≡ true
  by_case (inl e) rest = or_left (c == a) (encloses cs (suc l) a (around cs c)) e
  by_case (inr e) rest = or_right (c == a) (encloses cs (suc l) a (around cs c)) (rest e)

-- and within one less, where no more are around one another there
enclosed_less : (cs : List Child) (l a : ℕ) (at : Option ℕ) → is_nested cs l at ≡ true → encloses cs (suc l) a at ≡ true → encloses cs l a at ≡ true
enclosed_less cs zero a None n h = absurd (false≢true h)
enclosed_less cs zero a (Some c) n h = absurd (false≢true n)
enclosed_less cs (suc l) a None n h = absurd (false≢true h)
enclosed_less cs (suc l) a (Some c) n h = by_case (or_cases (c == a) (encloses cs (suc l) a (around cs c)) h) (enclosed_less cs l a (around cs c) n) where
  by_case : ((c == a) ≡ true) ⊎ (encloses cs (suc l) a (around cs c) ≡ true) → (encloses cs (suc l) a (around cs c) ≡ true → encloses cs l a (around cs c) ≡ true) → encloses cs (suc l) a (Some c) ≡ true
  by_case (inl e) rest = or_left (c == a) (encloses cs l a (around cs c)) e
  by_case (inr e) rest = or_right (c == a) (encloses cs l a (around cs c)) (rest e)

-- Of two children around one place one is around the other.
one_around : (cs : List Child) (l a b : ℕ) (at : Option ℕ) → encloses cs l a at ≡ true → encloses cs l b at ≡ true → (encloses cs l a (Some b) ≡ true) ⊎ (encloses cs l b (Some a) ≡ true)
one_around cs zero a b at h k = absurd (false≢true h)
one_around cs (suc l) a b None h k = absurd (false≢true h)
one_around cs (suc l) a b (Some c) h k = by_case (or_cases (c == a) (encloses cs l a (around cs c)) h) (or_cases (c == b) (encloses cs l b (around cs c)) k) (one_around cs l a b (around cs c)) where
  by_case : ((c == a) ≡ true) ⊎ (encloses cs l a (around cs c) ≡ true) → ((c == b) ≡ true) ⊎ (encloses cs l b (around cs c) ≡ true)
      → (encloses cs l a (around cs c) ≡ true → encloses cs l b (around cs c) ≡ true → (encloses cs l a (Some b) ≡ true) ⊎ (encloses cs l b (Some a) ≡ true))
      → (encloses cs (suc l) a (Some b) ≡ true) ⊎ (encloses cs (suc l) b (Some a) ≡ true)
  by_case (inl e) q rest = inr (subst (λ x. encloses cs (suc l) b (Some x) ≡ true) (eqb-true c a e) k)
  by_case (inr e) (inl f) rest = inl (subst (λ x. encloses cs (suc l) a (Some x) ≡ true) (eqb-true c b f) h)
  by_case (inr e) (inr f) rest = lift (rest e f) where
    lift : (encloses cs l a (Some b) ≡ true) ⊎ (encloses cs l b (Some a) ≡ true) → (encloses cs (suc l) a (Some b) ≡ true) ⊎ (encloses cs (suc l) b (Some a) ≡ true)
    lift (inl g) = inl (enclosed_more cs l a (Some b) g)
    lift (inr g) = inr (enclosed_more cs l b (Some a) g)

-- ---- where things may be read

-- What may be read around a child may be read in it.
pub read_inside : (cs : List Child) (k : ℕ) (at : Option ℕ) (s : Scope) → around cs k ≡ at → is_child_nested cs k ≡ true → may_read cs at s ≡ true → may_read cs (Some k) s ≡ true
unfolding is_around is_child_nested nesting
read_inside cs k at Anywhere e n h = refl
read_inside cs k at (Within a) e n h =
    or_right (k == a) (encloses cs 2 a (around cs k)) (enclosed_less cs 2 a (around cs k) n (subst (λ x. encloses cs 3 a x ≡ true) (sym e) h))
read_inside cs k at Nowhere e n h = absurd (false≢true h)

-- A child's own states may be read in it.
pub read_own : (cs : List Child) (k : ℕ) → may_read cs (Some k) (Within k) ≡ true
unfolding is_around nesting
read_own cs k = or_left (k == k) (encloses cs 2 k (around cs k)) (eq-eqb k k refl)

pub read_both : (cs : List Child) (at : Option ℕ) (s t : Scope) → may_read cs at s ≡ true → may_read cs at t ≡ true → may_read cs at (joined cs s t) ≡ true
unfolding is_around
read_both cs at Anywhere t h k = k
read_both cs at (Within a) Anywhere h k = h
read_both cs at (Within a) (Within b) h k = by_test (is_around cs a (Some b)) (is_around cs b (Some a)) (one_around cs nesting a b at h k) where
  by_test : (x y : Bool) → (x ≡ true) ⊎ (y ≡ true) → may_read cs at (cond x (Within b) (cond y (Within a) Nowhere)) ≡ true
  by_test true y e = k
  by_test false true e = h
  by_test false false (inl e) = absurd (false≢true e)
  by_test false false (inr e) = absurd (false≢true e)
read_both cs at (Within a) Nowhere h k = k
read_both cs at Nowhere t h k = h

-- ---- terms

-- Each visible name stands for a term that may be read at the place.
abbrev pub AreReadAt : List Child → (Name → Scope) → Option ℕ → Entries Visible → Type 0
AreReadAt cs home at names = (n : Name) (v : Visible) → entry_of names n ≡ Some v → may_read cs at (scope_of cs home v.term) ≡ true

abbrev IsReadAt : List Child → (Name → Scope) → Option ℕ → Term → Type 0
IsReadAt cs home at t = may_read cs at (scope_of cs home t) ≡ true

read_name : (cs : List Child) (home : Name → Scope) (at : Option ℕ) (o : Option Visible) → ((v : Visible) → o ≡ Some v → IsReadAt cs home at v.term) → IsReadAt cs home at (term_named o)
read_name cs home at None h = refl
read_name cs home at (Some v) h = h v refl

read_unary : (cs : List Child) (home : Name → Scope) (at : Option ℕ) (op : UnaryForm) (x : Term) → IsReadAt cs home at x → IsReadAt cs home at (unary_term op x)
read_unary cs home at not x h = h
read_unary cs home at neg x h = h

read_widened : (cs : List Child) (home : Name → Scope) (at : Option ℕ) (z : Widening) (n : ℕ) (x : Term) → IsReadAt cs home at x → IsReadAt cs home at (widened_term z n x)
read_widened cs home at zext n x h = h
read_widened cs home at sext n x h = h

binary_scope : (cs : List Child) (home : Name → Scope) (op : BinaryForm) (x y : Term) → scope_of cs home (binary_term op x y) ≡ joined cs (scope_of cs home x) (scope_of cs home y)
binary_scope cs home and x y = refl
binary_scope cs home or x y = refl
binary_scope cs home xor x y = refl
binary_scope cs home add x y = refl
binary_scope cs home sub x y = refl
binary_scope cs home mul x y = refl
binary_scope cs home shl x y = refl
binary_scope cs home lshr x y = refl
binary_scope cs home ashr x y = refl
binary_scope cs home eq x y = refl
binary_scope cs home ult x y = refl
binary_scope cs home ule x y = refl
binary_scope cs home slt x y = refl
binary_scope cs home sle x y = refl
binary_scope cs home concat x y = refl
binary_scope cs home load x y = refl

-- Where each visible name may be read, so may a term over them.
pub read_term : (cs : List Child) (home : Name → Scope) (at : Option ℕ) (names : Entries Visible) (e : WrittenTerm) → AreReadAt cs home at names → IsReadAt cs home at (term_of names e)
read_term cs home at names (name n) h = read_name cs home at (entry_of names n) (h n)
read_term cs home at names (constant_truth b) h = refl
read_term cs home at names (const w x) h = refl
read_term cs home at names (unary op x) h = read_unary cs home at op (term_of names x) (read_term cs home at names x h)
read_term cs home at names (binary op x y) h =
    ap (may_read cs at) (binary_scope cs home op (term_of names x) (term_of names y)) ∙ read_both cs at _ _ (read_term cs home at names x h) (read_term cs home at names y h)
read_term cs home at names (extract a b x) h = read_term cs home at names x h
read_term cs home at names (widen z n x) h = read_widened cs home at z n (term_of names x) (read_term cs home at names x h)
read_term cs home at names (ite c x y) h =
    read_both cs at _ _ (read_both cs at _ _ (read_term cs home at names c h) (read_term cs home at names x h)) (read_term cs home at names y h)
read_term cs home at names (store c x y) h =
    read_both cs at _ _ (read_both cs at _ _ (read_term cs home at names c h) (read_term cs home at names x h)) (read_term cs home at names y h)
