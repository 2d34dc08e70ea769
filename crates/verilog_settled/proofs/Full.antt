-- A full case takes an arm: what is done where none is taken doesn't matter.
use Rattle.std.proofs.Common.{◌≡◌, ◌≢◌, ℕ, zero, suc, ◌^◌, ◌<◌, max, Bool, true, cond, ◌&&◌, ◌==◌, nat_le, inl, inr, refl, sym, ap, ◌∙◌, subst, IsTrue, arith, eqb-true, eq-eqb}
use Rattle.std.proofs.lemmas.Bool.{cases_eq, and_parts, or_cases, or_left, or_right, cond-true, false≢true}
use Rattle.wb_values.specs.Value.{Valuation}
use Rattle.verilog_trees.specs.Syntax.{Expression, Expressions, no_expressions, expression, CaseKind, exact_case, wild_case, CaseItems, no_items, arm, default_arm}
use Rattle.verilog_meaning.specs.Expression.{Scope, no_values, width_of, sign_of, value_of}
use Rattle.verilog_meaning.specs.Statement.{Effect, any_matches, items_width, items_signed, run, run_case}
use Rattle.verilog_meaning.specs.Register.{is_constant}
use Rattle.verilog_designs.specs.Reads.{has_default, one_is, items_have, items_have_all, is_full}
use Rattle.verilog_settled.specs.Locality.{HasNoConstantMemory}
use Rattle.verilog_settled.proofs.Constant.{same_value}

default_any : (s : Scope) (v : Valuation) (kind : CaseKind) (w : ℕ) (signed : Bool) (a : ℕ) (items : CaseItems) (o q : Effect) → IsTrue (has_default items)
    → run_case s v kind w signed a items o ≡ run_case s v kind w signed a items q
default_any s v kind w signed a no_items o q h = absurd (false≢true h)
default_any s v kind w signed a (arm es y items) o q h =
    ap (λ z. cond (any_matches s v kind w signed a es) (run s y v) z) (default_any s v kind w signed a items o q h)
default_any s v kind w signed a (default_arm y items) o q h = refl

-- a constant item with the value matches
one_matches : (s : Scope) (v : Valuation) → HasNoConstantMemory s → (w : ℕ) (signed : Bool) (a : ℕ) (es : Expressions) → IsTrue (one_is s w signed a es)
    → any_matches s v exact_case w signed a es ≡ true
one_matches s v p w signed a no_expressions h = absurd (false≢true h)
one_matches s v p w signed a (expression e es) h =
    elim (or_cases (is_constant s e && (value_of s no_values e w signed == a)) (one_is s w signed a es) h) [
      | inl g ↦ or_left (a == value_of s v e w signed) (any_matches s v exact_case w signed a es)
          (let both : IsTrue (is_constant s e) × IsTrue (value_of s no_values e w signed == a) =
          and_parts (is_constant s e) (value_of s no_values e w signed == a) g in
          eq-eqb a (value_of s v e w signed) (sym (eqb-true (value_of s no_values e w signed) a both.1) ∙ same_value s no_values v p e w signed both.0))
      | inr g ↦ or_right (a == value_of s v e w signed) (any_matches s v exact_case w signed a es) (one_matches s v p w signed a es g)
    ]

have_any : (s : Scope) (v : Valuation) → HasNoConstantMemory s → (w : ℕ) (signed : Bool) (a : ℕ) (items : CaseItems) (o q : Effect)
    → IsTrue (items_have s w signed a items) → run_case s v exact_case w signed a items o ≡ run_case s v exact_case w signed a items q
have_any s v p w signed a no_items o q h = absurd (false≢true h)
have_any s v p w signed a (arm es y items) o q h =
    elim (or_cases (one_is s w signed a es) (items_have s w signed a items) h) [
      | inl g ↦ (let t : any_matches s v exact_case w signed a es ≡ true = one_matches s v p w signed a es g in
          cond-true (any_matches s v exact_case w signed a es) (run s y v) (run_case s v exact_case w signed a items o) t
          ∙ sym (cond-true (any_matches s v exact_case w signed a es) (run s y v) (run_case s v exact_case w signed a items q) t))
      | inr g ↦ ap (λ z. cond (any_matches s v exact_case w signed a es) (run s y v) z) (have_any s v p w signed a items o q g)
    ]
have_any s v p w signed a (default_arm y items) o q h = refl

below_all : (s : Scope) (w : ℕ) (signed : Bool) (n a : ℕ) (items : CaseItems) → IsTrue (items_have_all s w signed n items) → a < n
    → IsTrue (items_have s w signed a items)
below_all s w signed zero a items h l = absurd (omega (arith, l))
below_all s w signed (suc n) a items h l =
    elim (cases_eq a n) [
      | inl e ↦ subst (λ i. IsTrue (items_have s w signed i items)) (sym e)
          (and_parts (items_have s w signed n items) (items_have_all s w signed n items) h).0
      | inr d ↦ below_all s w signed n a items (and_parts (items_have s w signed n items) (items_have_all s w signed n items) h).1
          (let g : a ≢ n = d in omega (arith, l, g))
    ]

-- A full case on a value of its width.
pub full_any : (s : Scope) (v : Valuation) → HasNoConstantMemory s → (kind : CaseKind) (e : Expression) (items : CaseItems) (a : ℕ) (o q : Effect)
    → is_full s kind e items ≡ true → a < 2 ^ max (width_of s e) (items_width s items)
    → run_case s v kind (max (width_of s e) (items_width s items)) (sign_of s e && items_signed s items) a items o
    ≡ run_case s v kind (max (width_of s e) (items_width s items)) (sign_of s e && items_signed s items) a items q
full_any s v p wild_case e items a o q h l =
    default_any s v wild_case (max (width_of s e) (items_width s items)) (sign_of s e && items_signed s items) a items o q h
full_any s v p exact_case e items a o q h l =
    elim (or_cases (has_default items)
    (nat_le (max (width_of s e) (items_width s items)) 8
    && items_have_all s (max (width_of s e) (items_width s items)) (sign_of s e && items_signed s items) (2 ^ max (width_of s e) (items_width s items)) items) h) [
      | inl g ↦ default_any s v exact_case (max (width_of s e) (items_width s items)) (sign_of s e && items_signed s items) a items o q g
      | inr g ↦ have_any s v p (max (width_of s e) (items_width s items)) (sign_of s e && items_signed s items) a items o q
          (below_all s (max (width_of s e) (items_width s items)) (sign_of s e && items_signed s items) (2 ^ max (width_of s e) (items_width s items)) a items
          (and_parts (nat_le (max (width_of s e) (items_width s items)) 8)
          (items_have_all s (max (width_of s e) (items_width s items)) (sign_of s e && items_signed s items) (2 ^ max (width_of s e) (items_width s items)) items) g).1 l)
    ]
