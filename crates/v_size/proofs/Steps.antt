-- One step of the walk: an expression by itself, the places of tests, over what the calls returned.
use Rattle.std.proofs.Common.{◌≡◌, ◌∙◌, refl, ap, sym, ℕ, Bool, true, false, cond, ◌&&◌, List, [], ◌∷◌, Option, None}
use Rattle.verilog_trees.specs.Syntax as pure
use Rattle.verilog_meaning.specs.Expression.{Scope}
use Rattle.verilog_rules.specs.Expression as rules
use Rattle.v_syntax.specs.declared.tree.PrefixOperator.{PrefixOperator}
use Rattle.v_syntax.specs.declared.tree.BinaryOperator.{BinaryOperator}
use Rattle.v_syntax.specs.declared.tree.TestOperator.{TestOperator}
use Rattle.v_syntax.specs.declared.tree.TestLink.{TestLink}
use Rattle.v_syntax.specs.Tree.{tree_of}
use Rattle.v_value.specs.Links.{has_reduction}
use Rattle.v_value.specs.Evaluation.{is_logical, sign_at}
use Rattle.v_size.specs.declared.rule.Broken.{Broken}
use Rattle.v_size.specs.declared.rule.Judged.{Judged}
use Rattle.v_size.specs.declared.rule.Position.{Position}
use Rattle.v_size.specs.declared.rule.Position.TheVariants.{Anywhere, Constant}
use Rattle.v_size.specs.Judged.{own_place, sized_at, judged_at, itself_at, constant_broken_at, first_place, test_place, tested_at, one_bit, kept, is_none_before, prefixed_at, right_at, constant_rule, exponent_test, exponent_at, divisor_test, divisor_at}
use Rattle.v_size.proofs.Chains.{judged-width}
use Rattle.v_size.proofs.Known.{itself-constant}

-- own is what was found of the expression anywhere, t its sign
module _ (s : Scope) (e : pure.Expression) (own : Judged) (is_own : own ≡ judged_at s Anywhere e) (t : Bool) (is_t : t ≡ sign_at s e) where
  own-width : own.width ≡ sized_at s e
  own-width = ap (λ (j : Judged). j.width) is_own ∙ judged-width s Anywhere e

  pub itself-by : (p q : Position) → q ≡ own_place p own.width t → (r : Judged) → r ≡ judged_at s q e → r ≡ itself_at s p e
  itself-by p q is_q r is_r = is_r ∙ ap (λ k. judged_at s k e) (is_q ∙ ap (λ w. own_place p w t) own-width ∙ ap (own_place p (sized_at s e)) is_t)

  pub tested-by : (p q : Position) (o : TestOperator) (w : Option ℕ) (v : Bool) → q ≡ test_place p o w v own.width t → (j : Judged) → j ≡ judged_at s q e → j.broken ≡ tested_at s p w v o e
  unfolding tested_at
  tested-by p q o w v is_q j is_j =
      ap (λ (k : Judged). k.broken) (is_j ∙ ap (λ k. judged_at s k e) (is_q ∙ ap (λ a. test_place p o w v a t) own-width ∙ ap (test_place p o w v (sized_at s e)) is_t))

  pub context-by : (p : Position) (w : Option ℕ) (v : Bool) (q : Option ℕ) → q ≡ rules.wider w own.width → (u : Bool) → u ≡ (v && t) → (r : Position) → r ≡ own_place p q u
      → r ≡ own_place p (rules.wider w (sized_at s e)) (v && sign_at s e)
  context-by p w v q is_q u is_u r is_r =
      is_r ∙ ap (λ a. own_place p a u) (is_q ∙ ap (rules.wider w) own-width) ∙ ap (own_place p (rules.wider w (sized_at s e))) (is_u ∙ ap (λ b. v && b) is_t)

either-same : (b : Bool) → Anywhere ≡ cond b Anywhere Anywhere
either-same true = refl
either-same false = refl

first-there : (s : Scope) (w : Option ℕ) (t : Bool) (ls : List TestLink) → Anywhere ≡ first_place s Anywhere w t ls
first-there s w t [] = refl
first-there s w t (l ∷ ls) = either-same (is_logical l.operator)

pub first-anywhere : (s : Scope) (p : Position) (w : Option ℕ) (t : Bool) (ls : List TestLink) → p ≡ Anywhere → Anywhere ≡ first_place s p w t ls
first-anywhere s p w t ls i = first-there s w t ls ∙ sym (ap (λ q. first_place s q w t ls) i)

pub first-constant : (s : Scope) (p q : Position) (w : Option ℕ) (t : Bool) (ls : List TestLink) → p ≡ q → (r : Position) → r ≡ first_place s q w t ls → r ≡ first_place s p w t ls
first-constant s p q w t ls i r h = h ∙ sym (ap (λ k. first_place s k w t ls) i)

-- a constant is what the expression is by itself where a constant is wanted
pub constant-by : (s : Scope) (e : pure.Expression) (j : Judged) → j ≡ itself_at s (Constant None false) e → j.broken ≡ constant_broken_at s e
constant-by s e j h = ap (λ (k : Judged). k.broken) h ∙ itself-constant s None false e

pub in-place : (s : Scope) (p q : Position) (e : pure.Expression) → p ≡ q → (r : Judged) → r ≡ judged_at s q e → r ≡ judged_at s p e
in-place s p q e i r h = h ∙ sym (ap (λ k. judged_at s k e) i)

-- operators before an operand
module _ (s : Scope) (p : Position) (os : List PrefixOperator) (x : pure.Expression) (b : Bool) (is_b : b ≡ has_reduction os) (r a : Judged) where
  pub prefixed-one : b ≡ true → a ≡ itself_at s p x → r ≡ one_bit a → r ≡ prefixed_at s p os x
  prefixed-one i h k =
      k ∙ ap one_bit h ∙ sym (ap (λ z. cond z (one_bit (itself_at s p x)) (kept (is_none_before os) (judged_at s p x))) (sym is_b ∙ i))

  pub prefixed-kept : b ≡ false → a ≡ judged_at s p x → r ≡ kept (is_none_before os) a → r ≡ prefixed_at s p os x
  prefixed-kept i h k =
      k ∙ ap (kept (is_none_before os)) h ∙ sym (ap (λ z. cond z (one_bit (itself_at s p x)) (kept (is_none_before os) (judged_at s p x))) (sym is_b ∙ i))

-- right operands
pub right-of : (s : Scope) (p : Position) (y : pure.Expression) (o q : BinaryOperator) → o ≡ q → (r : Judged) → r ≡ right_at s p q y → r ≡ right_at s p o y
right-of s p y o q i r h = h ∙ sym (ap (λ k. right_at s p k y) i)

module _ (s : Scope) (p : Position) (y : pure.Expression) (j : Judged) (t : Bool) (r : Judged) (h : r ≡ constant_rule t j) where
  pub exponent-by : j ≡ itself_at s p y → t ≡ exponent_test s p y j.broken → r ≡ exponent_at s p y
  exponent-by i k = h ∙ ap (λ b. constant_rule b j) k ∙ ap (λ (z : Judged). constant_rule (exponent_test s p y z.broken) z) i

  pub divisor-by : j ≡ judged_at s p y → t ≡ divisor_test s p y j.broken → r ≡ divisor_at s p y
  divisor-by i k = h ∙ ap (λ b. constant_rule b j) k ∙ ap (λ (z : Judged). constant_rule (divisor_test s p y z.broken) z) i
