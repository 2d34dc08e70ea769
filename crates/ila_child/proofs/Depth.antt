-- Lemmas on the children around a place, and on what may be read there.
use Rattle.std.proofs.Common.{◌≡◌, ℕ, zero, suc, ◌<◌, ◌≤◌, Bool, true, false, cond, List, Option, Some, None, ◌⊎◌, inl, inr, refl, sym, ap, ◌∙◌, subst, arith}
use Rattle.std.specs.Prelude.{◌||◌, ◌==◌}
use Rattle.std.proofs.lemmas.Bool.{eq-eqb, eqb-true, ne_eqb, false≢true}
use Rattle.wb_values.specs.Value.{Name, Valuation}
use Rattle.model_meaning.specs.Term.{Term, name, constant_truth, const, not, neg, and, or, xor, add, sub, mul, shl, lshr, ashr, eq, ult, ule, slt, sle, concat, extract, zext, sext, ite, load, store, val}
use Rattle.ila_model.specs.declared.parts.Child.{Child}
use Rattle.ila_model.specs.declared.scopes.Scope.{Scope}
use Rattle.ila_model.specs.declared.scopes.Scope.TheVariants.{Anywhere, Within, Nowhere}
use Rattle.ila_model.specs.Scope.{nesting, around, encloses, is_nested, is_around, is_child_nested, may_read, joined, scope_of}
use Rattle.ila_child.specs.Running.{HasDepth}

either : (a b : Bool) → (a || b) ≡ true → (a ≡ true) ⊎ (b ≡ true)
either true b h = inl refl
either false b h = inr h

or_right : (a b : Bool) → b ≡ true → (a || b) ≡ true
or_right true b h = refl
or_right false b h = h

pub depth_unique : (cs : List Child) (d e : ℕ) (at : Option ℕ) → HasDepth cs d at → HasDepth cs e at → d ≡ e
depth_unique cs zero zero at h k = refl
depth_unique cs zero (suc e) None h k = absurd k
depth_unique cs zero (suc e) (Some c) h k = absurd h
depth_unique cs (suc d) e None h k = absurd h
depth_unique cs (suc d) zero (Some c) h k = absurd k
depth_unique cs (suc d) (suc e) (Some c) h k = ap suc (depth_unique cs d e (around cs c) h k)

-- a child that stands around a place is no deeper than the place
pub depth_around : (cs : List Child) (l a : ℕ) (at : Option ℕ) (d e : ℕ) → encloses cs l a at ≡ true → HasDepth cs d at → HasDepth cs e (Some a) → e ≤ d
depth_around cs zero a at d e h p q = absurd (false≢true h)
depth_around cs (suc l) a None d e h p q = absurd (false≢true h)
depth_around cs (suc l) a (Some c) zero e h p q = absurd p
depth_around cs (suc l) a (Some c) (suc d) e h p q = elim (either (c == a) (encloses cs l a (around cs c)) h) [
  | inl t ↦
      let same : c ≡ a = eqb-true c a t in
      let u = depth_unique cs (suc d) e (Some a) (subst (λ x. HasDepth cs (suc d) (Some x)) same p) q in
      omega (arith, u)
  | inr t ↦ let r = depth_around cs l a (around cs c) d e t p q in omega (arith, r)
]

pub depth_nested : (cs : List Child) (l : ℕ) (at : Option ℕ) (d : ℕ) → is_nested cs l at ≡ true → HasDepth cs d at → d ≤ l
depth_nested cs l at zero h p = omega arith
depth_nested cs l None (suc d) h p = absurd p
depth_nested cs zero (Some c) (suc d) h p = absurd (false≢true h)
depth_nested cs (suc l) (Some c) (suc d) h p = let r = depth_nested cs l (around cs c) d h p in omega (arith, r)

-- enough levels find what more levels find
pub encloses-enough : (cs : List Child) (m l a : ℕ) (at : Option ℕ) (d : ℕ) → HasDepth cs d at → d ≤ l → encloses cs m a at ≡ true → encloses cs l a at ≡ true
encloses-enough cs zero l a at d p w h = absurd (false≢true h)
encloses-enough cs (suc m) l a None d p w h = absurd (false≢true h)
encloses-enough cs (suc m) l a (Some c) zero p w h = absurd p
encloses-enough cs (suc m) zero a (Some c) (suc d) p w h = absurd (omega arith)
encloses-enough cs (suc m) (suc l) a (Some c) (suc d) p w h = elim (either (c == a) (encloses cs m a (around cs c)) h) [
  | inl t ↦ ap (λ b. b || encloses cs l a (around cs c)) t
  | inr t ↦ or_right (c == a) _ (encloses-enough cs m l a (around cs c) d p (omega arith) t)
]

-- what is around a child that is around a place is around the place
encloses-through : (cs : List Child) (l m a b : ℕ) (at : Option ℕ) (d : ℕ) → HasDepth cs d at → d ≤ l → encloses cs l b at ≡ true → encloses cs m a (Some b) ≡ true → encloses cs l a at ≡ true
encloses-through cs zero m a b at d p w h k = absurd (false≢true h)
encloses-through cs (suc l) m a b None d p w h k = absurd (false≢true h)
encloses-through cs (suc l) m a b (Some c) zero p w h k = absurd p
encloses-through cs (suc l) m a b (Some c) (suc d) p w h k = elim (either (c == b) (encloses cs l b (around cs c)) h) [
  | inl t ↦
      let same : b ≡ c = sym (eqb-true c b t) in
      encloses-enough cs m (suc l) a (Some c) (suc d) p w (subst (λ x. encloses cs m a (Some x) ≡ true) same k)
  | inr t ↦ or_right (c == a) _ (encloses-through cs l m a b (around cs c) d p (omega arith) t k)
]

is_around-through : (cs : List Child) (a b : ℕ) (at : Option ℕ) (d : ℕ) → HasDepth cs d at → d ≤ nesting → is_around cs b at ≡ true → is_around cs a (Some b) ≡ true → is_around cs a at ≡ true
unfolding is_around
is_around-through cs a b at d p w h k = encloses-through cs nesting nesting a b at d p w h k

joined_within : (cs : List Child) (a b : ℕ) (at : Option ℕ) (d : ℕ) (x y : Bool) → HasDepth cs d at → d ≤ nesting → x ≡ is_around cs a (Some b) → y ≡ is_around cs b (Some a) → may_read cs at (cond x (Within b) (cond y (Within a) Nowhere)) ≡ true → (is_around cs a at ≡ true) × (is_around cs b at ≡ true)
joined_within cs a b at d true y p w e f h = (is_around-through cs a b at d p w h (sym e), h)
joined_within cs a b at d false true p w e f h = (h, is_around-through cs b a at d p w h (sym f))
joined_within cs a b at d false false p w e f h = absurd (false≢true h)

-- what reads two things may be read only where both may
pub joined_read : (cs : List Child) (at : Option ℕ) (d : ℕ) (s t : Scope) → HasDepth cs d at → d ≤ nesting → may_read cs at (joined cs s t) ≡ true → (may_read cs at s ≡ true) × (may_read cs at t ≡ true)
joined_read cs at d Anywhere t p w h = (refl, h)
joined_read cs at d (Within a) Anywhere p w h = (h, refl)
joined_read cs at d (Within a) (Within b) p w h = joined_within cs a b at d (is_around cs a (Some b)) (is_around cs b (Some a)) p w refl refl h
joined_read cs at d (Within a) Nowhere p w h = absurd (false≢true h)
joined_read cs at d Nowhere t p w h = absurd (false≢true h)

-- A term has one value at two points that agree on what may be read.
module _ (cs : List Child) (home : Name → Scope) (at : Option ℕ) (d : ℕ) (deep : HasDepth cs d at) (low : d ≤ nesting) (v w : Valuation) (agree : (n : Name) → may_read cs at (home n) ≡ true → v n ≡ w n) where
  two : (x y : Term) → may_read cs at (joined cs (scope_of cs home x) (scope_of cs home y)) ≡ true → (may_read cs at (scope_of cs home x) ≡ true) × (may_read cs at (scope_of cs home y) ≡ true)
  two x y h = joined_read cs at d (scope_of cs home x) (scope_of cs home y) deep low h

  three : (x y z : Term) → may_read cs at (joined cs (joined cs (scope_of cs home x) (scope_of cs home y)) (scope_of cs home z)) ≡ true → (may_read cs at (scope_of cs home x) ≡ true) × (may_read cs at (scope_of cs home y) ≡ true) × (may_read cs at (scope_of cs home z) ≡ true)
  three x y z h =
      let a = joined_read cs at d (joined cs (scope_of cs home x) (scope_of cs home y)) (scope_of cs home z) deep low h in
      let b = two x y a.0 in
      (b.0, b.1, a.1)

  pub val_read : (t : Term) → may_read cs at (scope_of cs home t) ≡ true → val t v ≡ val t w
  val_read (name n s) h = agree n h
  val_read (constant_truth b) h = refl
  val_read (const k x) h = refl
  val_read (not x) h = rw (val_read x h) refl
  val_read (neg x) h = rw (val_read x h) refl
  val_read (and x y) h = let b = two x y h in rw (val_read x b.0, val_read y b.1) refl
  val_read (or x y) h = let b = two x y h in rw (val_read x b.0, val_read y b.1) refl
  val_read (xor x y) h = let b = two x y h in rw (val_read x b.0, val_read y b.1) refl
  val_read (add x y) h = let b = two x y h in rw (val_read x b.0, val_read y b.1) refl
  val_read (sub x y) h = let b = two x y h in rw (val_read x b.0, val_read y b.1) refl
  val_read (mul x y) h = let b = two x y h in rw (val_read x b.0, val_read y b.1) refl
  val_read (shl x y) h = let b = two x y h in rw (val_read x b.0, val_read y b.1) refl
  val_read (lshr x y) h = let b = two x y h in rw (val_read x b.0, val_read y b.1) refl
  val_read (ashr x y) h = let b = two x y h in rw (val_read x b.0, val_read y b.1) refl
  val_read (eq x y) h = let b = two x y h in rw (val_read x b.0, val_read y b.1) refl
  val_read (ult x y) h = let b = two x y h in rw (val_read x b.0, val_read y b.1) refl
  val_read (ule x y) h = let b = two x y h in rw (val_read x b.0, val_read y b.1) refl
  val_read (slt x y) h = let b = two x y h in rw (val_read x b.0, val_read y b.1) refl
  val_read (sle x y) h = let b = two x y h in rw (val_read x b.0, val_read y b.1) refl
  val_read (concat x y) h = let b = two x y h in rw (val_read x b.0, val_read y b.1) refl
  val_read (load x y) h = let b = two x y h in rw (val_read x b.0, val_read y b.1) refl
  val_read (extract k l x) h = rw (val_read x h) refl
  val_read (zext k x) h = rw (val_read x h) refl
  val_read (sext k x) h = rw (val_read x h) refl
  val_read (ite x y z) h = let b = three x y z h in rw (val_read x b.0, val_read y b.1, val_read z b.2) refl
  val_read (store x y z) h = let b = three x y z h in rw (val_read x b.0, val_read y b.1, val_read z b.2) refl
