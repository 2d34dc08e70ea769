-- What the rules say of chains, over the lists of their links.
use Rattle.std.proofs.Common.{◌≡◌, ◌∙◌, refl, ap, sym, ℕ, zero, suc, ⊎_elim, pos, int_le, ◌==◌, ◌+◌, ◌*◌, ◌≤◌, min, max, Bool, true, false, not, cond, ◌&&◌, ◌||◌, nat_le, nat_lt, List, [], ◌∷◌, Option, Some, None, ℤ, arith}
use Rattle.std.proofs.lemmas.Bool.{cases_lt}
use Rattle.std.proofs.lemmas.Bool.Decides.{nat_tests}
use Rattle.wb_values.specs.Choice.{some_if}
use Rattle.verilog_trees.specs.Syntax as pure
use Rattle.verilog_meaning.specs.Expression as meaning
use Rattle.verilog_meaning.specs.Expression.{Scope, width_of, widths_of, sign_of}
use Rattle.verilog_rules.specs.Expression as rules
use Rattle.v_syntax.specs.declared.tree.PrefixOperator.{PrefixOperator}
use Rattle.v_syntax.specs.declared.tree.PrefixOperator.TheVariants.{Plus, Minus, Complement}
use Rattle.v_syntax.specs.declared.tree.BinaryOperator.{BinaryOperator}
use Rattle.v_syntax.specs.declared.tree.BinaryOperator.TheVariants.{Power, ShiftLeft, ShiftRight, ArithmeticShiftRight, Divide, Modulo}
use Rattle.v_syntax.specs.declared.tree.TestOperator.{TestOperator}
use Rattle.v_syntax.specs.declared.tree.TestOperator.TheVariants.{Both, Either}
use Rattle.v_syntax.specs.declared.tree.Expression.{Expression}
use Rattle.v_syntax.specs.declared.tree.BinaryLink.{BinaryLink}
use Rattle.v_syntax.specs.declared.tree.TestLink.{TestLink}
use Rattle.v_syntax.specs.declared.tree.Choice.{Choice}
use Rattle.v_syntax.specs.Tree.{tree_of, prefixed, all_prefixed, combined, tested, expressions_of}
use Rattle.v_syntax.specs.Chain.{linked, test_linked, chosen}
use Rattle.v_value.specs.Links.{is_reduction, has_reduction}
use Rattle.v_value.specs.Evaluation.{is_logical, sign_at, count_at}
use Rattle.v_value.proofs.Signs.{sign-all_prefixed}
use Rattle.v_size.specs.declared.rule.Broken.{Broken}
use Rattle.v_size.specs.declared.rule.Judged.{Judged}
use Rattle.v_size.specs.declared.rule.Position.{Position}
use Rattle.v_size.specs.declared.rule.Position.TheVariants.{Anywhere, Constant}
use Rattle.v_size.specs.declared.judged.Left.{Left}
use Rattle.v_size.specs.Rule.{coded, both, unbroken, position_of}
use Rattle.v_size.specs.Judged.{capped, added, fitting, own_place, sized_at, judged_at, itself_at, constant_broken_at, constant_number_at, regarded, one_bit, is_none_before, kept, prefixed_at, divisor_test, exponent_test, constant_rule, right_at, applied, links_judged, left_place, first_place, test_place, tested_at, tests_judged, with_choice, choices_judged, with_part, no_parts, parts_judged, joined, repeated}

-- two widths together, where both have values
wider-some : (h k : Bool) (v w : ℕ) → some_if (h && k) (max v w) ≡ rules.wider (some_if h v) (some_if k w)
wider-some true true v w = refl
wider-some true false v w = refl
wider-some false k v w = refl

abbrev made : Broken → Bool → Option ℕ → Judged
made b u w = record { broken = b; width = w; unsized_number = u }

with_width : (b : Broken) (u : Bool) {v w : Option ℕ} → v ≡ w → made b u v ≡ made b u w
with_width b u e = ap (made b u) e

combined-judged : (s : Scope) (p : Position) (o : BinaryOperator) (x y : pure.Expression) → judged_at s p (combined o x y) ≡ applied o (judged_at s p x) (right_at s p o y)
unfolding judged_at sized_at sign_at divisor_test exponent_test
combined-judged s Anywhere Power x y = refl
combined-judged s (Constant w t) Power x y = refl
combined-judged s Anywhere ShiftLeft x y = refl
combined-judged s (Constant w t) ShiftLeft x y = refl
combined-judged s Anywhere ShiftRight x y = refl
combined-judged s (Constant w t) ShiftRight x y = refl
combined-judged s Anywhere ArithmeticShiftRight x y = refl
combined-judged s (Constant w t) ArithmeticShiftRight x y = refl
combined-judged s p o x y = with_width (judged_at s p (combined o x y)).broken false (wider-some (rules.has_width s x) (rules.has_width s y) (width_of s x) (width_of s y))

pub linked-judged : (s : Scope) (p : Position) (ls : List BinaryLink) (x : pure.Expression) → judged_at s p (linked ls x) ≡ links_judged s p (judged_at s p x) ls
linked-judged s p [] x = refl
linked-judged s p (l ∷ ls) x =
    linked-judged s p ls (combined l.operator x (tree_of l.operand)) ∙ ap (λ j. links_judged s p j ls) (combined-judged s p l.operator x (tree_of l.operand))

-- tests
tested-judged : (s : Scope) (p : Position) (o : TestOperator) (x y : pure.Expression) → judged_at s p (tested o x y)
    ≡ record { broken = both (judged_at s (left_place p o (sized_at s x) (sign_at s x) (sized_at s y) (sign_at s y)) x).broken (tested_at s p (sized_at s x) (sign_at s x) o y); width = Some 1; unsized_number = false }
unfolding judged_at sized_at sign_at tested_at
tested-judged s Anywhere Both x y = refl
tested-judged s (Constant w t) Both x y = refl
tested-judged s Anywhere _ x y = refl
tested-judged s (Constant w t) _ x y = refl

tested-sized : (s : Scope) (o : TestOperator) (x y : pure.Expression) → sized_at s (tested o x y) ≡ Some 1
unfolding sized_at
tested-sized s Both x y = refl
tested-sized s _ x y = refl

tested-sign : (s : Scope) (o : TestOperator) (x y : pure.Expression) → sign_at s (tested o x y) ≡ false
unfolding sign_at
tested-sign s Both x y = refl
tested-sign s _ x y = refl

tested-unsized : (o : TestOperator) (x y : pure.Expression) → rules.is_unsized (tested o x y) ≡ false
tested-unsized Both x y = refl
tested-unsized _ x y = refl

-- a test breaks the same in each context
context-same : (s : Scope) (p : Position) (w : Option ℕ) (t : Bool) (o : TestOperator) (x y : pure.Expression) → judged_at s (own_place p w t) (tested o x y) ≡ judged_at s p (tested o x y)
unfolding judged_at
context-same s Anywhere w t o x y = refl
context-same s (Constant v u) w t Both x y = refl
context-same s (Constant v u) w t _ x y = refl

either-place : (s : Scope) (b : Bool) (p q : Position) (x : pure.Expression) (j : Judged) → judged_at s p x ≡ j → judged_at s q x ≡ j → judged_at s (cond b p q) x ≡ j
either-place s true p q x j h k = h
either-place s false p q x j h k = k

first-same : (s : Scope) (p : Position) (w : Option ℕ) (t : Bool) (ls : List TestLink) (o : TestOperator) (x y : pure.Expression) → judged_at s (first_place s p w t ls) (tested o x y) ≡ judged_at s p (tested o x y)
first-same s p w t [] o x y = refl
first-same s p w t (l ∷ ls) o x y = either-place s (is_logical l.operator) _ _ (tested o x y) _ (context-same s p _ _ o x y) (context-same s p _ _ o x y)

left_of : Broken → Option ℕ → Bool → Bool → Left
left_of b w t u = record { broken = b; width = w; signed = t; unsized_number = u }

abbrev pub first_left : Scope → Position → List TestLink → pure.Expression → Left
first_left s p ls x =
    record { broken = (judged_at s (first_place s p (sized_at s x) (sign_at s x) ls) x).broken; width = sized_at s x; signed = sign_at s x; unsized_number = rules.is_unsized x }

no_link-judged : (s : Scope) (p : Position) (x : pure.Expression) → judged_at s p x ≡ tests_judged s p (first_left s p [] x) []
unfolding judged_at
no_link-judged s p x = refl

first-left : (s : Scope) (p : Position) (ls : List TestLink) (o : TestOperator) (x y : pure.Expression) → first_left s p ls (tested o x y)
    ≡ record { broken = both (judged_at s (left_place p o (sized_at s x) (sign_at s x) (sized_at s y) (sign_at s y)) x).broken (tested_at s p (sized_at s x) (sign_at s x) o y); width = Some 1; signed = false; unsized_number = false }
first-left s p ls o x y =
    let b : (judged_at s (first_place s p (sized_at s (tested o x y)) (sign_at s (tested o x y)) ls) (tested o x y)).broken
    ≡ both (judged_at s (left_place p o (sized_at s x) (sign_at s x) (sized_at s y) (sign_at s y)) x).broken (tested_at s p (sized_at s x) (sign_at s x) o y)
    = ap (λ (j : Judged). j.broken) (first-same s p _ _ ls o x y ∙ tested-judged s p o x y) in
    λ i. record { broken = b i; width = tested-sized s o x y i; signed = tested-sign s o x y i; unsized_number = tested-unsized o x y i }

pub test_linked-judged : (s : Scope) (p : Position) (ls : List TestLink) (x : pure.Expression) → judged_at s p (test_linked ls x) ≡ tests_judged s p (first_left s p ls x) ls
test_linked-judged s p [] x = no_link-judged s p x
test_linked-judged s p (l ∷ ls) x =
    test_linked-judged s p ls (tested l.operator x (tree_of l.operand)) ∙ ap (λ a. tests_judged s p a ls) (first-left s p ls l.operator x (tree_of l.operand))

-- conditionals
conditional-judged : (s : Scope) (p : Position) (c x y : pure.Expression) → judged_at s p (pure.conditional c x y) ≡ with_choice (judged_at s p y) (itself_at s p c) (judged_at s p x)
unfolding judged_at sized_at sign_at
conditional-judged s Anywhere c x y = with_width (judged_at s Anywhere (pure.conditional c x y)).broken false (wider-some (rules.has_width s x) (rules.has_width s y) (width_of s x) (width_of s y))
conditional-judged s (Constant w t) c x y = with_width (judged_at s (Constant w t) (pure.conditional c x y)).broken false (wider-some (rules.has_width s x) (rules.has_width s y) (width_of s x) (width_of s y))

or-swap : (x y z : Bool) → x || (y || z) ≡ y || (x || z)
or-swap true true z = refl
or-swap true false z = refl
or-swap false true z = refl
or-swap false false z = refl

both-swap : (a b c : Broken) → both a (both b c) ≡ both b (both a c)
both-swap a b c = λ i. record {
  undeclared = or-swap a.undeclared b.undeclared c.undeclared i;
  has_xz = or-swap a.has_xz b.has_xz c.has_xz i;
  bad_constant = or-swap a.bad_constant b.bad_constant c.bad_constant i;
  width_over_128 = or-swap a.width_over_128 b.width_over_128 c.width_over_128 i;
  bad_select = or-swap a.bad_select b.bad_select c.bad_select i;
  memory_use = or-swap a.memory_use b.memory_use c.memory_use i;
  misshapen = or-swap a.misshapen b.misshapen c.misshapen i;
}

wider-swap : (u v w : Option ℕ) → rules.wider u (rules.wider v w) ≡ rules.wider v (rules.wider u w)
wider-swap (Some a) (Some b) (Some c) = let e : max a (max b c) ≡ max b (max a c) = omega arith in ap Some e
wider-swap (Some a) (Some b) None = refl
wider-swap (Some a) None w = refl
wider-swap None (Some b) (Some c) = refl
wider-swap None (Some b) None = refl
wider-swap None None w = refl

choice-swap : (a c v d w : Judged) → with_choice (with_choice a c v) d w ≡ with_choice (with_choice a d w) c v
choice-swap a c v d w = λ i. record { broken = both-swap (both d.broken w.broken) (both c.broken v.broken) a.broken i; width = wider-swap w.width v.width a.width i; unsized_number = false }

choices-swap : (s : Scope) (p : Position) (cs : List Choice) (a c v : Judged) → choices_judged s p (with_choice a c v) cs ≡ with_choice (choices_judged s p a cs) c v
choices-swap s p [] a c v = refl
choices-swap s p (d ∷ cs) a c v =
    ap (λ j. choices_judged s p j cs) (choice-swap a c v (itself_at s p (tree_of d.condition)) (judged_at s p (tree_of d.value)))
    ∙ choices-swap s p cs (with_choice a (itself_at s p (tree_of d.condition)) (judged_at s p (tree_of d.value))) c v

pub chosen-judged : (s : Scope) (p : Position) (cs : List Choice) (y : pure.Expression) → judged_at s p (chosen cs y) ≡ choices_judged s p (judged_at s p y) cs
chosen-judged s p [] y = refl
chosen-judged s p (c ∷ cs) y =
    conditional-judged s p (tree_of c.condition) (tree_of c.value) (chosen cs y)
    ∙ ap (λ j. with_choice j (itself_at s p (tree_of c.condition)) (judged_at s p (tree_of c.value))) (chosen-judged s p cs y)
    ∙ sym (choices-swap s p cs (judged_at s p y) (itself_at s p (tree_of c.condition)) (judged_at s p (tree_of c.value)))

-- parts side by side
or-assoc : (x y z : Bool) → x || (y || z) ≡ (x || y) || z
or-assoc true y z = refl
or-assoc false y z = refl

or-none : (x : Bool) → x ≡ x || false
or-none true = refl
or-none false = refl

pub both-assoc : (a b c : Broken) → both a (both b c) ≡ both (both a b) c
both-assoc a b c = λ i. record {
  undeclared = or-assoc a.undeclared b.undeclared c.undeclared i;
  has_xz = or-assoc a.has_xz b.has_xz c.has_xz i;
  bad_constant = or-assoc a.bad_constant b.bad_constant c.bad_constant i;
  width_over_128 = or-assoc a.width_over_128 b.width_over_128 c.width_over_128 i;
  bad_select = or-assoc a.bad_select b.bad_select c.bad_select i;
  memory_use = or-assoc a.memory_use b.memory_use c.memory_use i;
  misshapen = or-assoc a.misshapen b.misshapen c.misshapen i;
}

pub both-none : (a : Broken) → a ≡ both a (coded rules.nothing)
both-none a = λ i. record {
  undeclared = or-none a.undeclared i;
  has_xz = or-none a.has_xz i;
  bad_constant = or-none a.bad_constant i;
  width_over_128 = or-none a.width_over_128 i;
  bad_select = or-none a.bad_select i;
  memory_use = or-none a.memory_use i;
  misshapen = or-none a.misshapen i;
}

part-broken : (s : Scope) (p : Position) (e : pure.Expression) (es : pure.Expressions)
    → coded (rules.broken_parts s (position_of p) (pure.expression e es)) ≡ both (both (coded (rules.constant_if (itself_at s p e).unsized_number)) (itself_at s p e).broken) (coded (rules.broken_parts s (position_of p) es))
unfolding judged_at sized_at sign_at
part-broken s Anywhere e es = refl
part-broken s (Constant w t) e es = refl

pub parts-broken : (s : Scope) (p : Position) (es : List Expression) (a : Judged) → (parts_judged s p a es).broken ≡ both a.broken (coded (rules.broken_parts s (position_of p) (expressions_of es)))
parts-broken s p [] a = both-none a.broken
parts-broken s p (e ∷ es) a =
    parts-broken s p es (with_part a (itself_at s p (tree_of e)))
    ∙ sym (both-assoc a.broken (both (coded (rules.constant_if (itself_at s p (tree_of e)).unsized_number)) (itself_at s p (tree_of e)).broken) (coded (rules.broken_parts s (position_of p) (expressions_of es))))
    ∙ ap (both a.broken) (sym (part-broken s p (tree_of e) (expressions_of es)))

itself-width : (s : Scope) (p : Position) (e : pure.Expression) → (itself_at s p e).width ≡ some_if (rules.has_width s e) (width_of s e)
unfolding judged_at sized_at
itself-width s p e = refl

added-some : (a : Option ℕ) (h k : Bool) (v w : ℕ) → added (added a (some_if h v)) (some_if k w) ≡ added a (some_if (h && k) (v + w))
added-some None h k v w = refl
added-some (Some u) true true v w = let e : min (min (u + v) 129 + w) 129 ≡ min (u + (v + w)) 129 = omega arith in ap Some e
added-some (Some u) true false v w = refl
added-some (Some u) false k v w = refl

added-none : (a : Option ℕ) → a ≡ capped a → a ≡ added a (Some 0)
added-none None h = refl
added-none (Some u) h = let e : min u 129 ≡ min (u + 0) 129 = omega arith in h ∙ ap Some e

added-capped : (a b : Option ℕ) → added a b ≡ capped (added a b)
added-capped (Some u) (Some v) = let e : min (u + v) 129 ≡ min (min (u + v) 129) 129 = omega arith in ap Some e
added-capped (Some u) None = refl
added-capped None b = refl

pub parts-width : (s : Scope) (p : Position) (es : List Expression) (a : Judged) → a.width ≡ capped a.width
    → (parts_judged s p a es).width ≡ added a.width (some_if (rules.have_widths s (expressions_of es)) (widths_of s (expressions_of es)))
parts-width s p [] a h = added-none a.width h
parts-width s p (e ∷ es) a h =
    parts-width s p es (with_part a (itself_at s p (tree_of e))) (added-capped a.width (itself_at s p (tree_of e)).width)
    ∙ ap (λ w. added (added a.width w) (some_if (rules.have_widths s (expressions_of es)) (widths_of s (expressions_of es)))) (itself-width s p (tree_of e))
    ∙ added-some a.width (rules.has_width s (tree_of e)) (rules.have_widths s (expressions_of es)) (width_of s (tree_of e)) (widths_of s (expressions_of es))

parts-unsized : (s : Scope) (p : Position) (es : List Expression) (a : Judged) → a.unsized_number ≡ false → (parts_judged s p a es).unsized_number ≡ false
parts-unsized s p [] a h = h
parts-unsized s p (e ∷ es) a h = parts-unsized s p es (with_part a (itself_at s p (tree_of e))) refl

added-zero : (a : Option ℕ) → added (Some 0) a ≡ capped a
added-zero None = refl
added-zero (Some u) = let e : min (0 + u) 129 ≡ min u 129 = omega arith in ap Some e

-- 129 stands for all widths above 128
over-same : (w : ℕ) → nat_lt 128 (min w 129) ≡ nat_lt 128 w
over-same w = grind (arith, nat_tests)

zero-same : (w : ℕ) → (min w 129 == 0) ≡ (w == 0)
zero-same zero = refl
zero-same (suc w) = grind (arith, nat_tests)

pub total-capped : (a : Option ℕ) → coded (rules.by_total (capped a)) ≡ coded (rules.by_total a)
total-capped None = refl
total-capped (Some w) =
    let e : nat_lt 128 (min w 129) ≡ nat_lt 128 w = over-same w in
    let f : (min w 129 == 0) ≡ (w == 0) = zero-same w in
    λ i. record { undeclared = false; has_xz = false; bad_constant = false; width_over_128 = e i; bad_select = false; memory_use = false; misshapen = f i }

fitting-by : (w : ℕ) (b : Bool) → nat_le w 128 ≡ b → some_if (nat_le (min w 129) 128) (min w 129) ≡ some_if (nat_le w 128) w
fitting-by w true h = let e : min w 129 ≡ w = grind (arith, nat_tests, h) in ap (λ z. some_if (nat_le z 128) z) e
fitting-by w false h = let e : nat_le (min w 129) 128 ≡ false = grind (arith, nat_tests, h) in ap (λ z. some_if z (min w 129)) e ∙ sym (ap (λ z. some_if z w) h)

fitting-capped : (a : Option ℕ) → fitting (capped a) ≡ fitting a
fitting-capped None = refl
fitting-capped (Some w) = fitting-by w (nat_le w 128) refl

product : (c w : ℕ) → min (c * min (min w 129) 129) 129 ≡ min (c * w) 129
product zero w = omega arith
product (suc c) w = ⊎_elim
    (λ h. let e : min (min w 129) 129 ≡ w = omega (arith, h) in ap (λ k. min (suc c * k) 129) e)
    (λ h. let e : min (min w 129) 129 ≡ 129 = omega (arith, h) in ap (λ k. min (suc c * k) 129) e ∙ omega (arith, h))
    (cases_lt w 130)

copies-by : (c w : ℕ) (b : Bool) → capped (some_if b (c * min (min w 129) 129)) ≡ capped (some_if b (c * w))
copies-by c w true = ap Some (product c w)
copies-by c w false = refl

copies-capped : (n : Option ℤ) (a : Option ℕ) → capped (rules.copies n (capped (capped a))) ≡ capped (rules.copies n a)
copies-capped (Some n) (Some w) = copies-by (meaning.natural_of n) w (int_le (pos 1) n)
copies-capped (Some n) None = refl
copies-capped None a = refl

-- parts as a whole
known-fits : (h : Bool) (w : ℕ) → some_if (rules.is_at_most_128 (some_if h w)) w ≡ fitting (some_if h w)
known-fits true w = refl
known-fits false w = refl

module _ (s : Scope) (p : Position) (es : List Expression) where
  parts-known : (parts_judged s p no_parts es).width ≡ capped (some_if (rules.have_widths s (expressions_of es)) (widths_of s (expressions_of es)))
  parts-known = parts-width s p es no_parts refl ∙ added-zero _

  parts-rules : (parts_judged s p no_parts es).broken ≡ coded (rules.broken_parts s (position_of p) (expressions_of es))
  parts-rules = parts-broken s p es no_parts

  pub joined-judged : judged_at s p (pure.concatenation (expressions_of es)) ≡ joined (parts_judged s p no_parts es)
  unfolding judged_at sized_at
  joined-judged =
      let h : Bool = rules.have_widths s (expressions_of es) in
      let w : ℕ = widths_of s (expressions_of es) in
      λ i. record {
        broken = both ((sym (total-capped (some_if h w)) ∙ ap (λ a. coded (rules.by_total a)) (sym parts-known)) i) (sym parts-rules i);
        width = (known-fits h w ∙ sym (fitting-capped (some_if h w)) ∙ ap fitting (sym parts-known)) i;
        unsized_number = false;
      }

  copies-known : (n : Option ℤ) → capped (rules.copies n (some_if (rules.have_widths s (expressions_of es)) (widths_of s (expressions_of es)))) ≡ capped (rules.copies n (capped (parts_judged s p no_parts es).width))
  copies-known n = sym (copies-capped n _) ∙ ap (λ a. capped (rules.copies n (capped a))) (sym parts-known)

  -- the width of copies, b saying whether the count has a number
  copies-width : (b h : Bool) (n : ℤ) (w : ℕ) → some_if (rules.is_at_most_128 (rules.copies (some_if b n) (some_if h w))) (meaning.natural_of n * w) ≡ fitting (rules.copies (some_if b n) (some_if h w))
  copies-width true true n w = known-fits (int_le (pos 1) n) (meaning.natural_of n * w)
  copies-width true false n w = refl
  copies-width false h n w = refl

  pub repeated-judged : (k : pure.Expression) → judged_at s p (pure.replication k (expressions_of es)) ≡ repeated (constant_broken_at s k) (constant_number_at s k) (parts_judged s p no_parts es)
  unfolding judged_at sized_at constant_broken_at constant_number_at
  repeated-judged k =
      let h : Bool = rules.have_widths s (expressions_of es) in
      let w : ℕ = widths_of s (expressions_of es) in
      let n : Option ℤ = rules.constant_number s k in
      λ i. record {
        broken = both (both (coded (rules.constant_if (rules.is_below (pos 1) n))) (coded (rules.broken_constant s k)))
            (both ((sym (total-capped (rules.copies n (some_if h w))) ∙ ap (λ a. coded (rules.by_total a)) (copies-known n)) i) (sym parts-rules i));
        width = (copies-width (rules.is_unbroken (rules.broken_constant s k)) h (meaning.integer_of s meaning.no_values k) w
            ∙ sym (fitting-capped (rules.copies n (some_if h w))) ∙ ap fitting (copies-known n)) i;
        unsized_number = false;
      }

-- operators before an operand
prefixed-judged : (s : Scope) (p : Position) (o : PrefixOperator) (x : pure.Expression) → judged_at s p (prefixed o x) ≡ cond (is_reduction o) (one_bit (itself_at s p x)) (regarded (judged_at s p x))
unfolding judged_at sized_at sign_at
prefixed-judged s p Plus x = refl
prefixed-judged s p Minus x = refl
prefixed-judged s p Complement x = refl
prefixed-judged s Anywhere _ x = refl
prefixed-judged s (Constant w t) _ x = refl

own-own : (p : Position) (v w : Option ℕ) (t u : Bool) → own_place (own_place p v t) w u ≡ own_place p w u
own-own Anywhere v w t u = refl
own-own (Constant a b) v w t u = refl

pub judged-width : (s : Scope) (p : Position) (x : pure.Expression) → (judged_at s p x).width ≡ sized_at s x
unfolding judged_at
judged-width s p x = refl

pub judged-unsized : (s : Scope) (p : Position) (x : pure.Expression) → (judged_at s p x).unsized_number ≡ rules.is_unsized x
unfolding judged_at
judged-unsized s p x = refl

sign-same : (s : Scope) (os : List PrefixOperator) (x : pure.Expression) → has_reduction os ≡ false → sign_at s (all_prefixed os x) ≡ sign_at s x
unfolding sign_at
sign-same s os x h = sign-all_prefixed s os x ∙ ap (λ b. not b && sign_of s x) h

-- by itself, after operators; r says whether one of them makes one bit
module _ (s : Scope) (os : List PrefixOperator) (x : pure.Expression) (same : (p : Position) → judged_at s p (all_prefixed os x) ≡ prefixed_at s p os x) where
  itself-after : (p : Position) (r : Bool) → has_reduction os ≡ r → one_bit (itself_at s p (all_prefixed os x)) ≡ one_bit (itself_at s p x)
  itself-after p true h =
      let w : Option ℕ = sized_at s (all_prefixed os x) in
      let t : Bool = sign_at s (all_prefixed os x) in
      ap one_bit (same (own_place p w t)) ∙ ap (λ b. one_bit (cond b (one_bit (itself_at s (own_place p w t) x)) (kept (is_none_before os) (judged_at s (own_place p w t) x)))) h
      ∙ ap (λ q. one_bit (judged_at s q x)) (own-own p w (sized_at s x) t (sign_at s x))
  itself-after p false h =
      let w : Option ℕ = sized_at s (all_prefixed os x) in
      let t : Bool = sign_at s (all_prefixed os x) in
      let e : w ≡ sized_at s x =
      sym (judged-width s Anywhere (all_prefixed os x)) ∙ ap (λ (j : Judged). j.width) (same Anywhere ∙ ap (λ b. cond b (one_bit (itself_at s Anywhere x)) (kept (is_none_before os) (judged_at s Anywhere x))) h) ∙ judged-width s Anywhere x in
      ap one_bit (same (own_place p w t)) ∙ ap (λ b. one_bit (cond b (one_bit (itself_at s (own_place p w t) x)) (kept (is_none_before os) (judged_at s (own_place p w t) x)))) h
      ∙ ap (λ v. one_bit (judged_at s (own_place p v t) x)) e ∙ ap (λ u. one_bit (judged_at s (own_place p (sized_at s x) u) x)) (sign-same s os x h)

  regarded-after : (p : Position) (r : Bool) → regarded (cond r (one_bit (itself_at s p x)) (kept (is_none_before os) (judged_at s p x))) ≡ cond r (one_bit (itself_at s p x)) (kept false (judged_at s p x))
  regarded-after p true = refl
  regarded-after p false = refl

  after : (p : Position) (o : PrefixOperator) (r : Bool) → is_reduction o ≡ r → cond r (one_bit (itself_at s p (all_prefixed os x))) (regarded (judged_at s p (all_prefixed os x))) ≡ cond (r || has_reduction os) (one_bit (itself_at s p x)) (kept false (judged_at s p x))
  after p o true h = itself-after p (has_reduction os) refl
  after p o false h = ap regarded (same p) ∙ regarded-after p (has_reduction os)

pub all_prefixed-judged : (s : Scope) (os : List PrefixOperator) (p : Position) (x : pure.Expression) → judged_at s p (all_prefixed os x) ≡ prefixed_at s p os x
all_prefixed-judged s [] p x = refl
all_prefixed-judged s (o ∷ os) p x =
    prefixed-judged s p o (all_prefixed os x) ∙ after s os x (λ q. all_prefixed-judged s os q x) p o (is_reduction o) refl
