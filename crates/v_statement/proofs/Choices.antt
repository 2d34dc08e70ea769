-- Which item of a case is run, over the list of its items.
use Rattle.std.proofs.Common.{◌≡◌, ◌∙◌, ◌≤◌, ◌<◌, ◌+◌, ◌==◌, ℕ, zero, suc, refl, ap, sym, subst, Bool, true, false, cond, List, [], ◌∷◌, length, get_or, Option, Some, None, arith}
use Rattle.std.specs.Option.{IfSome}
use Rattle.v_syntax.specs.declared.tree.Statement.{Empty}
use Rattle.std.specs.declared.boxed.Box.{Box}
use Rattle.std.specs.declared.vec.Vec.{Vec}
use Rattle.std.specs.declared.alloc.Global.{Global}
use Rattle.std.proofs.lemmas.Bool.Decides.{nat_tests}
use Rattle.wb_values.specs.Value.{Valuation}
use Rattle.verilog_trees.specs.Syntax as pure
use Rattle.verilog_trees.specs.Syntax.{CaseKind, no_expressions, expression, case}
use Rattle.verilog_meaning.specs.Expression.{Scope}
use Rattle.verilog_meaning.specs.Statement.{Effect, unchanged, run, run_case, any_matches, wild_bits, greatest_width, items_width}
use Rattle.v_syntax.specs.declared.tree.PrefixOperator.{PrefixOperator}
use Rattle.v_syntax.specs.declared.tree.PrefixOperator.TheVariants.{Plus}
use Rattle.v_syntax.specs.declared.tree.BinaryOperator.{BinaryOperator}
use Rattle.v_syntax.specs.declared.tree.BinaryOperator.TheVariants.{Power}
use Rattle.v_syntax.specs.declared.tree.TestOperator.{TestOperator}
use Rattle.v_syntax.specs.declared.tree.TestOperator.TheVariants.{Less}
use Rattle.v_syntax.specs.declared.tree.BinaryLink.{BinaryLink}
use Rattle.v_syntax.specs.declared.tree.TestLink.{TestLink}
use Rattle.v_syntax.specs.declared.tree.Choice.{Choice}
use Rattle.v_syntax.specs.declared.tree.Expression.{Expression, Prefix, Binary, Test, Conditional}
use Rattle.v_syntax.specs.declared.tree.CaseItem.{CaseItem, Values, Default}
use Rattle.v_syntax.specs.Tree.{tree_of, prefixed, all_prefixed, combined, tested, expressions_of}
use Rattle.v_syntax.specs.Chain.{linked, test_linked, chosen}
use Rattle.v_value.specs.Narrow.{AreNarrow}
use Rattle.v_statement.specs.Statements.{IsNarrowStatement, AreNarrowItems}
use Rattle.v_statement.specs.Effects.{item_list, item_statement, matching_from, AreValuesNarrow, chosen_item}
use Rattle.v_syntax.proofs.Trees.{tree_of-Binary, tree_of-Test, tree_of-Conditional}
use Rattle.v_value.proofs.Narrows.{narrow_width}

not_none : (n : ℕ) → (suc n == 0) ≡ false
not_none n = grind (arith, nat_tests)

-- what is 0 where links follow
followed : (n x y : ℕ) → x ≡ 0 → x ≡ cond (suc n == 0) y 0
followed n x y h = h ∙ sym (ap (λ b. cond b y 0) (not_none n))

-- wild bits of chains
wild-combined : (o : BinaryOperator) (x y : pure.Expression) → wild_bits (combined o x y) ≡ 0
wild-combined Power x y = refl
wild-combined _ x y = refl

wild-onto : (ls : List BinaryLink) (x : pure.Expression) → wild_bits x ≡ 0 → wild_bits (linked ls x) ≡ 0
wild-onto [] x h = h
wild-onto (l ∷ ls) x h = wild-onto ls _ (wild-combined l.operator x (tree_of l.operand))

wild-linked : (ls : List BinaryLink) (x : pure.Expression) → wild_bits (linked ls x) ≡ cond (length ls == 0) (wild_bits x) 0
wild-linked [] x = refl
wild-linked (l ∷ ls) x = followed (length ls) _ _ (wild-onto ls _ (wild-combined l.operator x (tree_of l.operand)))

wild-tested : (o : TestOperator) (x y : pure.Expression) → wild_bits (tested o x y) ≡ 0
wild-tested Less x y = refl
wild-tested _ x y = refl

wild-test_onto : (ls : List TestLink) (x : pure.Expression) → wild_bits x ≡ 0 → wild_bits (test_linked ls x) ≡ 0
wild-test_onto [] x h = h
wild-test_onto (l ∷ ls) x h = wild-test_onto ls _ (wild-tested l.operator x (tree_of l.operand))

wild-test_linked : (ls : List TestLink) (x : pure.Expression) → wild_bits (test_linked ls x) ≡ cond (length ls == 0) (wild_bits x) 0
wild-test_linked [] x = refl
wild-test_linked (l ∷ ls) x = followed (length ls) _ _ (wild-test_onto ls _ (wild-tested l.operator x (tree_of l.operand)))

wild-chosen : (cs : List Choice) (y : pure.Expression) → wild_bits (chosen cs y) ≡ cond (length cs == 0) (wild_bits y) 0
wild-chosen [] y = refl
wild-chosen (c ∷ cs) y = followed (length cs) _ _ refl

wild-prefixed : (o : PrefixOperator) (x : pure.Expression) → wild_bits (prefixed o x) ≡ 0
wild-prefixed Plus x = refl
wild-prefixed _ x = refl

wild-all_prefixed : (os : List PrefixOperator) (x : pure.Expression) → wild_bits (all_prefixed os x) ≡ cond (length os == 0) (wild_bits x) 0
wild-all_prefixed [] x = refl
wild-all_prefixed (o ∷ os) x = followed (length os) _ _ (wild-prefixed o (all_prefixed os x))

pub wild-Prefix : (os : Vec PrefixOperator Global) (b : Box Expression Global) → wild_bits (tree_of (Prefix os b)) ≡ cond (length os.items == 0) (wild_bits (tree_of b.value)) 0
wild-Prefix os b = wild-all_prefixed os.items (tree_of b.value)

pub wild-Binary : (b : Box Expression Global) (v : Vec BinaryLink Global) → wild_bits (tree_of (Binary b v)) ≡ cond (length v.items == 0) (wild_bits (tree_of b.value)) 0
wild-Binary b v = ap wild_bits (tree_of-Binary b v) ∙ wild-linked v.items (tree_of b.value)

pub wild-Test : (b : Box Expression Global) (v : Vec TestLink Global) → wild_bits (tree_of (Test b v)) ≡ cond (length v.items == 0) (wild_bits (tree_of b.value)) 0
wild-Test b v = ap wild_bits (tree_of-Test b v) ∙ wild-test_linked v.items (tree_of b.value)

pub wild-Conditional : (v : Vec Choice Global) (b : Box Expression Global) → wild_bits (tree_of (Conditional v b)) ≡ cond (length v.items == 0) (wild_bits (tree_of b.value)) 0
wild-Conditional v b = ap wild_bits (tree_of-Conditional v b) ∙ wild-chosen v.items (tree_of b.value)

-- widths of items
greatest-fits : (s : Scope) (es : pure.Expressions) → AreNarrow s es → greatest_width s es ≤ 128
greatest-fits s no_expressions h = omega arith
greatest-fits s (expression e es) h = omega (arith, (narrow_width s e h.0).1, greatest-fits s es h.1)

pub items-fit : (s : Scope) (items : List CaseItem) → AreValuesNarrow s items → items_width s (item_list items) ≤ 128
items-fit s [] h = omega arith
items-fit s (Values es x ∷ items) h = omega (arith, greatest-fits s (expressions_of es.items) h.0, items-fit s items h.1)
items-fit s (Default x ∷ items) h = items-fit s items h.1

pub narrow-values : (s : Scope) (items : List CaseItem) → AreNarrowItems s (item_list items) → AreValuesNarrow s items
narrow-values s [] h = tt
narrow-values s (Values es x ∷ items) h = (h.0, narrow-values s items h.2)
narrow-values s (Default x ∷ items) h = (tt, narrow-values s items h.1)

pub narrow-item : (s : Scope) (items : List CaseItem) (d : CaseItem) (j : ℕ) → j < length items → AreNarrowItems s (item_list items)
    → IsNarrowStatement s (item_statement (get_or items j d))
narrow-item s [] d j b h = absurd (omega (arith, b))
narrow-item s (Values es x ∷ items) d zero b h = h.1
narrow-item s (Default x ∷ items) d zero b h = h.0
narrow-item s (Values es x ∷ items) d (suc j) b h = narrow-item s items d j (omega (arith, b)) h.2
narrow-item s (Default x ∷ items) d (suc j) b h = narrow-item s items d j (omega (arith, b)) h.1

module _ (s : Scope) (v : Valuation) (kind : CaseKind) (w : ℕ) (signed : Bool) (x : ℕ) where
  -- the effects of the items from index k on
  abbrev AreAt : (ℕ → Effect) → ℕ → List CaseItem → Type 0
  AreAt at k [] = Unit {0}
  AreAt at k (i ∷ items) = (at k ≡ run s (item_statement i) v) × AreAt at (k + 1) items

  abbrev effect_of : (ℕ → Effect) → Option ℕ → Effect
  effect_of at None = unchanged v
  effect_of at (Some j) = at j

  effect-cond : (at : ℕ → Effect) (b : Bool) (k : ℕ) (o : Option ℕ) → cond b (at k) (effect_of at o) ≡ effect_of at (cond b (Some k) o)
  effect-cond at true k o = refl
  effect-cond at false k o = refl

  pub matching-runs : (at : ℕ → Effect) (k : ℕ) (items : List CaseItem) (d : Option ℕ) → AreAt at k items
      → run_case s v kind w signed x (item_list items) (effect_of at d) ≡ effect_of at (matching_from s v kind w signed x k items d)
  matching-runs at k [] d h = refl
  matching-runs at k (Values es y ∷ items) d h =
      let b = any_matches s v kind w signed x (expressions_of es.items) in
      ap (λ e. cond b e (run_case s v kind w signed x (item_list items) (effect_of at d))) (sym h.0)
      ∙ ap (cond b (at k)) (matching-runs at (k + 1) items d h.1)
      ∙ effect-cond at b k (matching_from s v kind w signed x (k + 1) items d)
  matching-runs at k (Default y ∷ items) d h =
      ap (run_case s v kind w signed x (item_list items)) (sym h.0) ∙ matching-runs at (k + 1) items (Some k) h.1

  -- those of a list by their indexes
  pub are-at : (at : ℕ → Effect) (k : ℕ) (items : List CaseItem) (d : CaseItem)
      → ((j : ℕ) → j < length items → at (k + j) ≡ run s (item_statement (get_or items j d)) v) → AreAt at k items
  are-at at k [] d h = tt
  are-at at k (i ∷ items) d h = (
    let e : k + 0 ≡ k = omega arith in subst (λ m. at m ≡ run s (item_statement i) v) e (h 0 (omega arith)),
    are-at at (k + 1) items d
        (λ j b. let e : k + suc j ≡ k + 1 + j = omega arith in
        subst (λ m. at m ≡ run s (item_statement (get_or items j d)) v) e (h (suc j) (omega (arith, b)))),
  )

  below-cond : (b : Bool) (j k n : ℕ) (o : Option ℕ) → Some j ≡ cond b (Some k) o → k < n → (Some j ≡ o → j < n) → j < n
  below-cond true j k n o h p q = let e : j ≡ k = cc h in omega (arith, e, p)
  below-cond false j k n o h p q = q h

  -- the index of a match is that of an item, or the default so far
  pub matching-below : (n k j : ℕ) (items : List CaseItem) (d : Option ℕ) → k + length items ≤ n → (Some j ≡ d → j < n)
      → Some j ≡ matching_from s v kind w signed x k items d → j < n
  matching-below n k j [] d b p h = p h
  matching-below n k j (Values es y ∷ items) d b p h =
      below-cond (any_matches s v kind w signed x (expressions_of es.items)) j k n (matching_from s v kind w signed x (k + 1) items d) h
      (omega (arith, b)) (matching-below n (k + 1) j items d (omega (arith, b)) p)
  matching-below n k j (Default y ∷ items) d b p h =
      matching-below n (k + 1) j items (Some k) (omega (arith, b)) (λ e. let f : j ≡ k = cc e in omega (arith, f, b)) h

-- the whole case
pub chosen-below : (s : Scope) (v : Valuation) (kind : CaseKind) (e : pure.Expression) (items : List CaseItem) (j : ℕ)
    → Some j ≡ chosen_item s v kind e items → j < length items
chosen-below s v kind e items j h =
    matching-below s v kind _ _ _ (length items) 0 j items None (omega arith) (λ k. cc k) h

pub chosen-runs : (s : Scope) (v : Valuation) (kind : CaseKind) (e : pure.Expression) (items : List CaseItem) (d : CaseItem)
    → run s (case kind e (item_list items)) v ≡ effect_of s v kind 0 true 0 (λ j. run s (item_statement (get_or items j d)) v) (chosen_item s v kind e items)
chosen-runs s v kind e items d =
    matching-runs s v kind _ _ _ (λ j. run s (item_statement (get_or items j d)) v) 0 items None
    (are-at s v kind 0 true 0 (λ j. run s (item_statement (get_or items j d)) v) 0 items d
    (λ j b. let z : 0 + j ≡ j = omega arith in ap (λ m. run s (item_statement (get_or items m d)) v) z))

pub chosen-run : (s : Scope) (v : Valuation) (kind : CaseKind) (e : pure.Expression) (items : List CaseItem) (j : ℕ) (r : CaseItem)
    → Some j ≡ chosen_item s v kind e items → r ≡ get_or items j r → run s (item_statement r) v ≡ run s (case kind e (item_list items)) v
chosen-run s v kind e items j r h is =
    ap (λ i. run s (item_statement i) v) is
    ∙ ap (effect_of s v kind 0 true 0 (λ k. run s (item_statement (get_or items k r)) v)) h
    ∙ sym (chosen-runs s v kind e items r)

pub chosen-none : (s : Scope) (v : Valuation) (kind : CaseKind) (e : pure.Expression) (items : List CaseItem)
    → None ≡ chosen_item s v kind e items → unchanged v ≡ run s (case kind e (item_list items)) v
chosen-none s v kind e items h =
    ap (effect_of s v kind 0 true 0 (λ k. run s (item_statement (get_or items k (Default Empty))) v)) h
    ∙ sym (chosen-runs s v kind e items (Default Empty))

pub if_below : (s : Scope) (v : Valuation) (kind : CaseKind) (w : ℕ) (signed : Bool) (x : ℕ) (items : List CaseItem) (o : Option ℕ)
    → o ≡ matching_from s v kind w signed x 0 items None → IfSome o (λ j. j < length items)
if_below s v kind w signed x items None h = tt
if_below s v kind w signed x items (Some j) h = matching-below s v kind w signed x (length items) 0 j items None (omega arith) (λ k. cc k) h
