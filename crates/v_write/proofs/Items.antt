-- What the items of a case do in their order, with the default last, is the run of the case.
use Rattle.std.proofs.Common.{◌≡◌, ◌∙◌, ◌≤◌, ◌<◌, ◌+◌, ℕ, suc, max, refl, ap, sym, subst, Bool, cond, List, [], ◌∷◌, length, get_or, Option, Some, None, arith}
use Rattle.std.specs.Option.{IfSome}
use Rattle.wb_values.specs.Value.{Valuation}
use Rattle.verilog_trees.specs.Syntax as pure
use Rattle.verilog_trees.specs.Syntax.{CaseKind, CaseItems, case}
use Rattle.verilog_meaning.specs.Expression.{Scope, width_of, value_of}
use Rattle.verilog_meaning.specs.Statement.{Effect, unchanged, run, run_case, any_matches, items_width}
use Rattle.wb_terms.specs.Graph.{Graph}
use Rattle.wb_terms.specs.declared.nodes.TermId.{TermId}
use Rattle.v_syntax.specs.declared.tree.Statement.{Empty}
use Rattle.v_syntax.specs.declared.tree.CaseItem.{CaseItem, Values, Default}
use Rattle.v_syntax.specs.Tree.{expressions_of, statement_of}
use Rattle.v_operators.specs.Meaning.{Grows}
use Rattle.v_lower.specs.Lowered.{Images, HasImages}
use Rattle.v_write.specs.Guard.{IsGuard}
use Rattle.v_write.specs.Sound.{item_list}
use Rattle.v_write.specs.Matching.{IsSelector}
use Rattle.v_write.specs.Cases.{items_effect, default_from, item_statement}
use Rattle.v_write.specs.Running.{Always, IsWorth, IsGoing}
use Rattle.v_write.proofs.Running.{started, going_kept, going_on, going_by}

-- the index of the default is that of an item, or the one so far
default_below : (n j i : ℕ) (items : List CaseItem) (d : Option ℕ) → i + length items ≤ n → (Some j ≡ d → j < n) → Some j ≡ default_from i items d → j < n
default_below n j i [] d b p h = p h
default_below n j i (Values es x ∷ items) d b p h = default_below n j (i + 1) items d (omega (arith, b)) p h
default_below n j i (Default x ∷ items) d b p h = default_below n j (i + 1) items (Some i) (omega (arith, b)) (λ e. let same : j ≡ i = cc e in omega (arith, same, b)) h

pub is_below : (items : List CaseItem) (o : Option ℕ) → o ≡ default_from 0 items None → IfSome o (λ j. j < length items)
is_below items None h = tt
is_below items (Some j) h = default_below (length items) j 0 items None (omega arith) (λ e. cc e) h

module _ (s : Scope) (v : Valuation) (k : CaseKind) (w : ℕ) (t : Bool) (a : ℕ) where
  -- the effects of the items from index i on
  abbrev AreAt : (ℕ → Effect) → ℕ → List CaseItem → Type 0
  AreAt at i [] = Unit {0}
  AreAt at i (x ∷ items) = (at i ≡ run s (item_statement x) v) × AreAt at (i + 1) items

  abbrev effect_at : (ℕ → Effect) → Option ℕ → Effect
  effect_at at None = unchanged v
  effect_at at (Some j) = at j

  case-items : (at : ℕ → Effect) (i : ℕ) (items : List CaseItem) (d : Option ℕ) → AreAt at i items
      → run_case s v k w t a (item_list items) (effect_at at d) ≡ items_effect s k w t a items v (effect_at at (default_from i items d))
  case-items at i [] d h = refl
  case-items at i (Values es x ∷ items) d h = ap (λ e. cond (any_matches s v k w t a (expressions_of es.items)) (run s (statement_of x) v) e) (case-items at (i + 1) items d h.1)
  case-items at i (Default x ∷ items) d h = ap (λ e. run_case s v k w t a (item_list items) e) (sym h.0) ∙ case-items at (i + 1) items (Some i) h.1

  -- those of a list by their indexes
  are_at : (at : ℕ → Effect) (i : ℕ) (items : List CaseItem) (d : CaseItem) → ((j : ℕ) → j < length items → at (i + j) ≡ run s (item_statement (get_or items j d)) v) → AreAt at i items
  are_at at i [] d h = tt
  are_at at i (x ∷ items) d h = (
    let e : i + 0 ≡ i = omega arith in subst (λ m. at m ≡ run s (item_statement x) v) e (h 0 (omega arith)),
    are_at at (i + 1) items d
        (λ j b. let e : i + suc j ≡ i + 1 + j = omega arith in subst (λ m. at m ≡ run s (item_statement (get_or items j d)) v) e (h (suc j) (omega (arith, b)))),
  )

  all_items : (items : List CaseItem) (d : CaseItem)
      → run_case s v k w t a (item_list items) (unchanged v) ≡ items_effect s k w t a items v (effect_at (λ j. run s (item_statement (get_or items j d)) v) (default_from 0 items None))
  all_items items d =
      case-items (λ j. run s (item_statement (get_or items j d)) v) 0 items None
      (are_at (λ j. run s (item_statement (get_or items j d)) v) 0 items d (λ j b. let z : 0 + j ≡ j = omega arith in ap (λ m. run s (item_statement (get_or items m d)) v) z))

  with_default : (items : List CaseItem) (j : ℕ) (r : CaseItem) → Some j ≡ default_from 0 items None → r ≡ get_or items j r
      → items_effect s k w t a items v (run s (item_statement r) v) ≡ run_case s v k w t a (item_list items) (unchanged v)
  with_default items j r h is =
      ap (λ i. items_effect s k w t a items v (run s (item_statement i) v)) is
      ∙ (ap (λ o. items_effect s k w t a items v (effect_at (λ m. run s (item_statement (get_or items m r)) v) o)) h ∙ sym (all_items items r))

  without_default : (items : List CaseItem) → None ≡ default_from 0 items None → items_effect s k w t a items v (unchanged v) ≡ run_case s v k w t a (item_list items) (unchanged v)
  without_default items h =
      ap (λ o. items_effect s k w t a items v (effect_at (λ m. run s (item_statement (get_or items m (Default Empty))) v) o)) h ∙ sym (all_items items (Default Empty))

-- in the context that the expression is lowered in
module _ (s : Scope) (im : Images) (g : Graph) (k : CaseKind) (e : pure.Expression) (items : List CaseItem) (w : ℕ) (t : Bool) (id : ℕ) (selector : IsSelector s im g e (item_list items) w t id) where
  in_context : (v : Valuation) → run_case s v k w t (value_of s v e w t) (item_list items) (unchanged v) ≡ run s (case k e (item_list items)) v
  in_context v =
      ap (λ z. run_case s v k z t (value_of s v e z t) (item_list items) (unchanged v)) selector.width
      ∙ ap (λ q. run_case s v k (max (width_of s e) (items_width s (item_list items))) q (value_of s v e (max (width_of s e) (items_width s (item_list items))) q) (item_list items) (unchanged v)) selector.sign

  pub case_with_default : (j : ℕ) (r : CaseItem) → Some j ≡ default_from 0 items None → r ≡ get_or items j r → (v : Valuation)
      → items_effect s k w t (value_of s v e w t) items v (run s (item_statement r) v) ≡ run s (case k e (item_list items)) v
  case_with_default j r h is v = with_default s v k w t (value_of s v e w t) items j r h is ∙ in_context v

  pub case_without_default : None ≡ default_from 0 items None → (v : Valuation) → items_effect s k w t (value_of s v e w t) items v (unchanged v) ≡ run s (case k e (item_list items)) v
  case_without_default h v = without_default s v k w t (value_of s v e w t) items h ∙ in_context v

-- ---- the whole case

pub items_within : (s : Scope) (im : Images) (g : Graph) (e : pure.Expression) (items : CaseItems) (w : ℕ) (t : Bool) (id : ℕ) → IsSelector s im g e items w t id → items_width s items ≤ w
items_within s im g e items w t id selector = omega (arith, selector.width)

-- g is the store before, and f that with the term of the expression
pub case_going : (s : Scope) (a n b m : Images) (g f h : Graph) (guard on : Option TermId) (k j : CaseKind) (e : pure.Expression) (items : List CaseItem) (w : ℕ) (t : Bool) (id : ℕ) (rest : Valuation → Effect)
    → HasImages s a g → HasImages s n g → IsGuard g guard → Grows g f → j ≡ k → IsSelector s a f e (item_list items) w t id
    → ((x : ℕ) → IsGoing s a n f (IsWorth f id w x) guard (λ v. items_effect s j w t x items v (rest v)) b m h on rest)
    → ((v : Valuation) → items_effect s k w t (value_of s v e w t) items v (rest v) ≡ run s (case k e (item_list items)) v)
    → IsGoing s a n g Always guard (λ v. run s (case k e (item_list items)) v) b m h on rest
case_going s a n b m g f h guard on k j e items w t id rest known next there gf same selector so is_run =
    let whole : Valuation → Effect = λ v. run s (case k e (item_list items)) v in
    going_on s a n a n b m g f h Always Always guard guard on whole whole rest (λ p is. is)
    (going_kept s a n g Always guard whole a n g f guard whole gf (started s a n g Always guard whole known next there))
    (going_by s a n b m f h guard on id w (λ v. value_of s v e w t) (λ x v. items_effect s j w t x items v (rest v)) whole rest so (λ p v st. selector.lowered.value p v st)
    (λ v. ap (λ z. items_effect s z w t (value_of s v e w t) items v (rest v)) same ∙ is_run v))
