-- The numbers of constants, divisors and exponents, and what is answered for an expression, over what the calls returned.
use Rattle.std.proofs.Common.{◌≡◌, ◌≤◌, ◌∙◌, refl, ap, sym, subst, ℕ, Bool, true, false, not, cond, ◌&&◌, ◌==◌, nat_le, Option, Some, None, ℤ, pos, arith}
use Rattle.std.proofs.lemmas.Bool.{false≢true}
use Rattle.std.proofs.lemmas.Bool.Decides.{nat_tests}
use Rattle.std.specs.Prelude.{Result, Ok, Err}
use Rattle.wb_values.specs.Choice.{some_if}
use Rattle.verilog_trees.specs.Syntax as pure
use Rattle.verilog_meaning.specs.Expression as meaning
use Rattle.verilog_meaning.specs.Expression.{Scope, width_of, sign_of, value_of, no_values}
use Rattle.verilog_rules.specs.Expression as rules
use Rattle.v_value.specs.declared.select.Integer.{Integer}
use Rattle.v_value.specs.Index.{integer_at}
use Rattle.v_value.specs.Narrow.{IsNarrow, HasNarrowObjects}
use Rattle.v_value.specs.Evaluation.{sign_at}
use Rattle.v_size.specs.declared.rule.Broken.{Broken}
use Rattle.v_size.specs.declared.rule.Judged.{Judged}
use Rattle.v_size.specs.declared.rule.Kind.{Kind}
use Rattle.v_size.specs.declared.rule.Position.{Position}
use Rattle.v_size.specs.declared.rule.Position.TheVariants.{Anywhere, Constant}
use Rattle.v_size.specs.declared.sizing.SizeRefusal.{SizeRefusal}
use Rattle.v_size.specs.Rule.{coded, unbroken, position_of, number_at, kind_of, kind_option, first_kind}
use Rattle.v_size.specs.Judged.{sized_at, judged_at, itself_at, constant_broken_at, constant_number_at, fits_context, divisor_test, exponent_test}
use Rattle.v_size.specs.Sizing.{IsSizing, given}
use Rattle.v_size.proofs.Unbroken.{unbroken-holds}

-- a constant, and what it breaks in the context of its own width and sign
module _ (s : Scope) (e : pure.Expression) (b : Broken) (i : b ≡ constant_broken_at s e) where
  same-unbroken : (t : Bool) → unbroken b ≡ t → rules.is_unbroken (rules.broken_constant s e) ≡ t
  unfolding constant_broken_at
  same-unbroken t h = sym (ap unbroken i) ∙ h

  pub constant-narrow : HasNarrowObjects s → unbroken b ≡ true → IsNarrow s e
  constant-narrow objects h = (unbroken-holds s objects (rules.as_constant s (rules.has_width s e) e) e (same-unbroken true h)).1

  pub known-number : unbroken b ≡ true → (n : Integer) → integer_at n ≡ meaning.integer_of s no_values e → number_at (Some n) ≡ constant_number_at s e
  unfolding constant_number_at
  known-number h n k = ap Some k ∙ sym (ap (λ t. some_if t (meaning.integer_of s no_values e)) (same-unbroken true h))

  pub no-number : unbroken b ≡ false → number_at None ≡ constant_number_at s e
  unfolding constant_number_at
  no-number h = sym (ap (λ t. some_if t (meaning.integer_of s no_values e)) (same-unbroken false h))

  number-of : constant_number_at s e ≡ some_if (unbroken b) (meaning.integer_of s no_values e)
  unfolding constant_broken_at constant_number_at
  number-of = ap (λ t. some_if t (meaning.integer_of s no_values e)) (sym (ap unbroken i))

pub itself-constant : (s : Scope) (w : Option ℕ) (t : Bool) (e : pure.Expression) → (itself_at s (Constant w t) e).broken ≡ constant_broken_at s e
unfolding judged_at sized_at sign_at constant_broken_at
itself-constant s w t e = refl

-- an exponent by itself
module _ (s : Scope) (p : Position) (e : pure.Expression) (b : Broken) where
  pub exponent-anywhere : p ≡ Anywhere → true ≡ exponent_test s p e b
  unfolding exponent_test
  exponent-anywhere i = sym (ap (λ q. exponent_test s q e b) i)

  module _ (w : Option ℕ) (t : Bool) (i : p ≡ Constant w t) (h : b ≡ (itself_at s p e).broken) where
    pub exponent-constant : b ≡ constant_broken_at s e
    exponent-constant = h ∙ ap (λ q. (itself_at s q e).broken) i ∙ itself-constant s w t e

    test-constant : exponent_test s p e b ≡ rules.is_below (pos 0) (some_if (unbroken b) (meaning.integer_of s no_values e))
    unfolding exponent_test
    test-constant = ap (λ q. exponent_test s q e b) i

    pub exponent-below : (r : Bool) (n : Option ℤ) → r ≡ rules.is_below (pos 0) n → n ≡ constant_number_at s e → r ≡ exponent_test s p e b
    exponent-below r n k j = k ∙ ap (rules.is_below (pos 0)) (j ∙ number-of s e b exponent-constant) ∙ sym test-constant

at-most : (a b : ℕ) → nat_le a b ≡ true → a ≤ b
at-most a b h = grind (arith, nat_tests, h)

first-true : (a b : Bool) → a && b ≡ true → a ≡ true
first-true true b h = refl
first-true false b h = absurd (false≢true h)

second-true : (a b : Bool) → a && b ≡ true → b ≡ true
second-true true b h = h
second-true false b h = absurd (false≢true h)

-- a divisor in its place
module _ (s : Scope) (y : pure.Expression) where
  pub divisor-anywhere : (p : Position) (b : Broken) → p ≡ Anywhere → true ≡ divisor_test s p y b
  unfolding divisor_test
  divisor-anywhere p b i = sym (ap (λ q. divisor_test s q y b) i)

  pub divisor-unsized : (w : Option ℕ) (b : Broken) (t : Bool) → w ≡ None → false ≡ divisor_test s (Constant w t) y b
  unfolding divisor_test
  divisor-unsized w b t i = sym (ap (λ q. divisor_test s (Constant q t) y b) i)

  module _ (w : ℕ) (t : Bool) (j : Judged) (is_j : j ≡ judged_at s (Constant (Some w) t) y) where
    divisor-unbroken : unbroken j.broken ≡ true → rules.is_unbroken (rules.broken s (rules.constant (Some w) t) y) ≡ true
    unfolding judged_at
    divisor-unbroken h = sym (ap (λ (k : Judged). unbroken k.broken) is_j) ∙ h

    pub divisor-broken : unbroken j.broken ≡ false → false ≡ divisor_test s (Constant (Some w) t) y j.broken
    unfolding divisor_test
    divisor-broken h = sym (ap (λ b. b && ((nat_le (width_of s y) w && nat_le w 128) && (value_of s no_values y w t == 0))) h)

    module _ (objects : HasNarrowObjects s) (h : unbroken j.broken ≡ true) where
      pub divisor-narrow : IsNarrow s y
      divisor-narrow = (unbroken-holds s objects (rules.constant (Some w) t) y (divisor-unbroken h)).1

      sized : j.width ≡ Some (width_of s y)
      unfolding judged_at sized_at
      sized = ap (λ (k : Judged). k.width) is_j ∙ ap (λ b. some_if b (width_of s y)) (unbroken-holds s objects (rules.constant (Some w) t) y (divisor-unbroken h)).0

      module _ (f : Bool) (is_f : f ≡ fits_context j.width w) where
        fits-is : (b : Bool) → f ≡ b → nat_le (width_of s y) w && nat_le w 128 ≡ b
        fits-is b i = sym (is_f ∙ ap (λ a. fits_context a w) sized) ∙ i

        pub divisor-unfit : f ≡ false → false ≡ divisor_test s (Constant (Some w) t) y j.broken
        unfolding divisor_test
        divisor-unfit i =
            sym (ap (λ b. b && ((nat_le (width_of s y) w && nat_le w 128) && (value_of s no_values y w t == 0))) h ∙ ap (λ b. b && (value_of s no_values y w t == 0)) (fits-is false i))

        pub divisor-within : f ≡ true → width_of s y ≤ w
        divisor-within i = let e = first-true (nat_le (width_of s y) w) (nat_le w 128) (fits-is true i) in at-most (width_of s y) w e

        pub divisor-most : f ≡ true → w ≤ 128
        divisor-most i = let e = second-true (nat_le (width_of s y) w) (nat_le w 128) (fits-is true i) in at-most w 128 e

        pub divisor-value : f ≡ true → (v : ℕ) → v ≡ value_of s no_values y w t → (v == 0) ≡ divisor_test s (Constant (Some w) t) y j.broken
        unfolding divisor_test
        divisor-value i v k =
            ap (λ x. x == 0) k ∙ sym (ap (λ b. b && ((nat_le (width_of s y) w && nat_le w 128) && (value_of s no_values y w t == 0))) h ∙ ap (λ b. b && (value_of s no_values y w t == 0)) (fits-is true i))

-- where the place or its width is known
module _ (s : Scope) (y : pure.Expression) (p q : Position) (i : p ≡ q) where
  pub judged-moved : (j : Judged) → j ≡ judged_at s p y → j ≡ judged_at s q y
  judged-moved j h = h ∙ ap (λ k. judged_at s k y) i

  pub test-moved : (b : Broken) (r : Bool) → r ≡ divisor_test s q y b → r ≡ divisor_test s p y b
  test-moved b r h = h ∙ sym (ap (λ k. divisor_test s k y b) i)

-- the answer
one-none : (c : Bool) (k : rules.Kind) (r : Option rules.Kind) → cond c (Some k) r ≡ None → (c ≡ false) × (r ≡ None)
one-none false k r h = (refl, h)
one-none true k r h = absurd (false≢true (ap is_there (sym h)))
  where
    is_there : Option rules.Kind → Bool
    is_there (Some x) = true
    is_there None = false

and-not : (a r : Bool) → a ≡ false → r ≡ true → not a && r ≡ true
and-not a r i j = ap (λ b. not b && r) i ∙ j

none-broken : (b : rules.Broken) → rules.first_broken b ≡ None → b.misshapen ≡ false → rules.is_unbroken b ≡ true
none-broken b h m =
    let p = one-none b.undeclared _ _ h in
    let q = one-none b.has_xz _ _ p.1 in
    let r = one-none b.bad_constant _ _ q.1 in
    let t = one-none b.width_over_128 _ _ r.1 in
    let u = one-none b.bad_select _ _ t.1 in
    let v = one-none b.memory_use rules.bad_use_of_memory None u.1 in
    and-not b.undeclared _ p.0 (and-not b.has_xz _ q.0 (and-not b.bad_constant _ r.0 (and-not b.width_over_128 _ t.0 (and-not b.bad_select _ u.0 (and-not b.memory_use _ v.0 (ap not m))))))

-- j is what was found of the expression, and k the first kind
module _ (s : Scope) (objects : HasNarrowObjects s) (e : pure.Expression) (j : Judged) (is_j : j ≡ judged_at s Anywhere e) (k : Option Kind) (is_k : kind_option k ≡ first_kind j.broken) where
  first-is : first_kind j.broken ≡ rules.refusal_of s e
  unfolding judged_at
  first-is = ap (λ (i : Judged). first_kind i.broken) is_j

  pub refused : (r : SizeRefusal) → k ≡ Some r.kind → rules.refusal_of s e ≡ Some (kind_of r.kind)
  refused r h = sym first-is ∙ sym is_k ∙ ap kind_option h

  module _ (h : k ≡ None) (m : (rules.broken s rules.anywhere e).misshapen ≡ false) where
    right : rules.refusal_of s e ≡ None
    right = sym first-is ∙ sym is_k ∙ ap kind_option h

    whole-width : j.width ≡ Some (width_of s e)
    unfolding judged_at sized_at
    whole-width = ap (λ (i : Judged). i.width) is_j
        ∙ ap (λ b. some_if b (width_of s e)) (unbroken-holds s objects rules.anywhere e (none-broken (rules.broken s rules.anywhere e) right m)).0

    or-zero : Option ℕ → ℕ
    or-zero (Some x) = x
    or-zero None = 0

    is_there : Option ℕ → Bool
    is_there (Some x) = true
    is_there None = false

    pub answered : (w : ℕ) → j.width ≡ Some w → (t : Bool) → t ≡ sign_of s e → (rules.refusal_of s e ≡ None) × (w ≡ width_of s e) × (t ≡ sign_of s e)
    unfolding or-zero
    answered w i t g = (right, ap or-zero (sym i ∙ whole-width), g)

    pub not_without : j.width ≡ None → ⊥
    unfolding is_there
    not_without i = false≢true (ap is_there (sym i ∙ whole-width))

  given-by : (m : (rules.broken s rules.anywhere e).misshapen ≡ false) (t : Bool) → t ≡ sign_of s e → (q : Option Kind) → k ≡ q → (w : Option ℕ) → j.width ≡ w → IsSizing s e (given q w t)
  given-by m t g (Some x) i w u = refused (record { kind = x }) i
  given-by m t g None i (Some w) u = answered i m w u t g
  given-by m t g None i None u = absurd (not_without i m u)

  pub sizing : (t : Bool) → t ≡ sign_of s e → (r : Result (ℕ × Bool) SizeRefusal) → r ≡ given k j.width t → (rules.broken s rules.anywhere e).misshapen ≡ false → IsSizing s e r
  sizing t g r h m = subst (IsSizing s e) (sym h) (given-by m t g k refl j.width refl)
