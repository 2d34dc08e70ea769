-- The values of a case's items: numbers among them, and that they fit the context.
use Rattle.std.proofs.Common.{◌≡◌, ◌∙◌, ◌≤◌, ◌<◌, ◌^◌, ◌==◌, ℕ, zero, suc, max, refl, ap, sym, subst, Bool, true, false, cond, List, [], ◌∷◌, length, get_or, Option, Some, None, arith}
use Rattle.std.specs.Prelude.{is_some}
use Rattle.std.proofs.lemmas.Bool.{false≢true}
use Rattle.std.proofs.lemmas.Bool.Decides.{nat_tests}
use Rattle.std.specs.declared.boxed.Box.{Box}
use Rattle.std.specs.declared.vec.Vec.{Vec}
use Rattle.std.specs.declared.alloc.Global.{Global}
use Rattle.verilog_trees.specs.Syntax as pure
use Rattle.verilog_trees.specs.Syntax.{Number, number, CaseKind, no_expressions, expression}
use Rattle.verilog_meaning.specs.Expression.{Scope, width_of}
use Rattle.verilog_meaning.specs.Statement.{wild_bits, greatest_width, items_width}
use Rattle.verilog_designs.specs.Expressions.{may_be_wild, judged_item}
use Rattle.v_syntax.specs.declared.tree.PrefixOperator.{PrefixOperator}
use Rattle.v_syntax.specs.declared.tree.PrefixOperator.TheVariants.{Plus}
use Rattle.v_syntax.specs.declared.tree.BinaryOperator.{BinaryOperator}
use Rattle.v_syntax.specs.declared.tree.BinaryOperator.TheVariants.{Power}
use Rattle.v_syntax.specs.declared.tree.TestOperator.{TestOperator}
use Rattle.v_syntax.specs.declared.tree.TestOperator.TheVariants.{Less}
use Rattle.v_syntax.specs.declared.tree.BinaryLink.{BinaryLink}
use Rattle.v_syntax.specs.declared.tree.TestLink.{TestLink}
use Rattle.v_syntax.specs.declared.tree.Choice.{Choice}
use Rattle.v_syntax.specs.declared.tree.Expression.{Expression, Prefix, Binary, Test, Conditional}
use Rattle.v_syntax.specs.declared.tree.CaseItem.{CaseItem, Values, Default}
use Rattle.v_syntax.specs.Tree.{tree_of, prefixed, all_prefixed, combined, tested, expressions_of}
use Rattle.v_syntax.specs.Chain.{linked, test_linked, chosen}
use Rattle.v_syntax.proofs.Trees.{tree_of-Binary, tree_of-Test, tree_of-Conditional}
use Rattle.v_value.specs.Evaluation.{width_at}
use Rattle.v_value.specs.Narrow.{IsNarrow, AreNarrow, HasNarrowObjects}
use Rattle.v_value.proofs.Narrows.{narrow_width}
use Rattle.v_lower.specs.Walking.{IsSound}
use Rattle.v_lower.proofs.Soundness.{sound-narrow}
use Rattle.v_write.specs.Sound.{IsSoundStatement, AreSoundValues, AreSoundItems, item_list}
use Rattle.v_write.specs.Matching.{plain_number, AreValuesNarrow, AreComparable, AreItemsComparable}
use Rattle.v_write.specs.Cases.{item_statement}

-- ---- numbers in chains

not_none : (n : ℕ) → (suc n == 0) ≡ false
not_none n = grind (arith, nat_tests)

-- what is none where links follow
followed : (n : ℕ) (x y : Option Number) → x ≡ None → x ≡ cond (suc n == 0) y None
followed n x y h = h ∙ sym (ap (λ b. cond b y None) (not_none n))

number-combined : (o : BinaryOperator) (x y : pure.Expression) → plain_number (combined o x y) ≡ None
number-combined Power x y = refl
number-combined _ x y = refl

number-onto : (ls : List BinaryLink) (x : pure.Expression) → plain_number x ≡ None → plain_number (linked ls x) ≡ None
number-onto [] x h = h
number-onto (l ∷ ls) x h = number-onto ls _ (number-combined l.operator x (tree_of l.operand))

number-linked : (ls : List BinaryLink) (x : pure.Expression) → plain_number (linked ls x) ≡ cond (length ls == 0) (plain_number x) None
number-linked [] x = refl
number-linked (l ∷ ls) x = followed (length ls) _ _ (number-onto ls _ (number-combined l.operator x (tree_of l.operand)))

number-tested : (o : TestOperator) (x y : pure.Expression) → plain_number (tested o x y) ≡ None
number-tested Less x y = refl
number-tested _ x y = refl

number-test_onto : (ls : List TestLink) (x : pure.Expression) → plain_number x ≡ None → plain_number (test_linked ls x) ≡ None
number-test_onto [] x h = h
number-test_onto (l ∷ ls) x h = number-test_onto ls _ (number-tested l.operator x (tree_of l.operand))

number-test_linked : (ls : List TestLink) (x : pure.Expression) → plain_number (test_linked ls x) ≡ cond (length ls == 0) (plain_number x) None
number-test_linked [] x = refl
number-test_linked (l ∷ ls) x = followed (length ls) _ _ (number-test_onto ls _ (number-tested l.operator x (tree_of l.operand)))

number-chosen : (cs : List Choice) (y : pure.Expression) → plain_number (chosen cs y) ≡ cond (length cs == 0) (plain_number y) None
number-chosen [] y = refl
number-chosen (c ∷ cs) y = followed (length cs) _ _ refl

number-prefixed : (o : PrefixOperator) (x : pure.Expression) → plain_number (prefixed o x) ≡ None
number-prefixed Plus x = refl
number-prefixed _ x = refl

number-all_prefixed : (os : List PrefixOperator) (x : pure.Expression) → plain_number (all_prefixed os x) ≡ cond (length os == 0) (plain_number x) None
number-all_prefixed [] x = refl
number-all_prefixed (o ∷ os) x = followed (length os) _ _ (number-prefixed o (all_prefixed os x))

pub number-Prefix : (os : Vec PrefixOperator Global) (b : Box Expression Global) → plain_number (tree_of (Prefix os b)) ≡ cond (length os.items == 0) (plain_number (tree_of b.value)) None
number-Prefix os b = number-all_prefixed os.items (tree_of b.value)

pub number-Binary : (b : Box Expression Global) (v : Vec BinaryLink Global) → plain_number (tree_of (Binary b v)) ≡ cond (length v.items == 0) (plain_number (tree_of b.value)) None
number-Binary b v = ap plain_number (tree_of-Binary b v) ∙ number-linked v.items (tree_of b.value)

pub number-Test : (b : Box Expression Global) (v : Vec TestLink Global) → plain_number (tree_of (Test b v)) ≡ cond (length v.items == 0) (plain_number (tree_of b.value)) None
number-Test b v = ap plain_number (tree_of-Test b v) ∙ number-test_linked v.items (tree_of b.value)

pub number-Conditional : (v : Vec Choice Global) (b : Box Expression Global) → plain_number (tree_of (Conditional v b)) ≡ cond (length v.items == 0) (plain_number (tree_of b.value)) None
number-Conditional v b = ap plain_number (tree_of-Conditional v b) ∙ number-chosen v.items (tree_of b.value)

-- ---- judged values

some_is_none : (n : Number) → Some n ≡ None → ⊥
some_is_none n h = false≢true (sym (ap is_some h))

pub number_is : (e : pure.Expression) (n : Number) → Some n ≡ plain_number e → e ≡ number n
number_is (number k) n h = let same : n ≡ k = cc h in ap number (sym same)
number_is _ n h = absurd (some_is_none n h)

-- what is no number is judged as it stands, and has no bits that match any bit
pub judged_whole : (k : CaseKind) (e : pure.Expression) → None ≡ plain_number e → judged_item k e ≡ e
judged_whole k (number n) h = absurd (some_is_none n (sym h))
judged_whole k _ h = refl

pub no_wild_bits : (e : pure.Expression) → None ≡ plain_number e → wild_bits e ≡ 0
no_wild_bits (number n) h = absurd (some_is_none n (sym h))
no_wild_bits _ h = refl

-- a number with or without its z and ? digits
number_narrow : (s : Scope) (n : Number) (b : Bool) → IsNarrow s (number (cond b (record n { has_wild = false }) n)) → IsNarrow s (number n)
number_narrow s n true h = h
number_narrow s n false h = h

pub value_narrow : (s : Scope) (k : CaseKind) (e : pure.Expression) → HasNarrowObjects s → IsSound s (judged_item k e) → IsNarrow s e
value_narrow s k e objects h = by (plain_number e) refl where
  by : (o : Option Number) → o ≡ plain_number e → IsNarrow s e
  by None i = sound-narrow s e objects (subst (λ x. IsSound s x) (judged_whole k e i) h)
  by (Some n) i =
      let same : e ≡ number n = number_is e n i in
      subst (λ x. IsNarrow s x) (sym same)
      (number_narrow s n (may_be_wild k n) (sound-narrow s (judged_item k (number n)) objects (subst (λ x. IsSound s (judged_item k x)) same h)))

-- what the lowering of a number asks
pub number_fits : (s : Scope) (k : CaseKind) (e : pure.Expression) (n : Number) (w : ℕ) → HasNarrowObjects s → Some n ≡ plain_number e → IsSound s (judged_item k e) → width_of s e ≤ w
    → (1 ≤ n.width) × (n.value < 2 ^ n.width) × (n.width ≤ w)
number_fits s k e n w objects i h l =
    let same : e ≡ number n = number_is e n i in
    let fits : IsNarrow s (number n) = subst (λ x. IsNarrow s x) same (value_narrow s k e objects h) in
    (fits.0.0, fits.1, subst (λ x. width_of s x ≤ w) same l)

values_narrow : (s : Scope) (k : CaseKind) (es : pure.Expressions) → HasNarrowObjects s → AreSoundValues s k es → AreNarrow s es
values_narrow s k no_expressions objects h = tt
values_narrow s k (expression e es) objects h = (value_narrow s k e objects h.0, values_narrow s k es objects h.1)

pub items_narrow : (s : Scope) (k : CaseKind) (items : List CaseItem) → HasNarrowObjects s → AreSoundItems s k (item_list items) → AreValuesNarrow s items
items_narrow s k [] objects h = tt
items_narrow s k (Values es x ∷ items) objects h = (values_narrow s k (expressions_of es.items) objects h.0, items_narrow s k items objects h.2)
items_narrow s k (Default x ∷ items) objects h = (tt, items_narrow s k items objects h.1)

-- ---- widths

greatest_fits : (s : Scope) (es : pure.Expressions) → AreNarrow s es → greatest_width s es ≤ 128
greatest_fits s no_expressions h = omega arith
greatest_fits s (expression e es) h = omega (arith, (narrow_width s e h.0).1, greatest_fits s es h.1)

pub items_fit : (s : Scope) (items : List CaseItem) → AreValuesNarrow s items → items_width s (item_list items) ≤ 128
items_fit s [] h = omega arith
items_fit s (Values es x ∷ items) h = omega (arith, greatest_fits s (expressions_of es.items) h.0, items_fit s items h.1)
items_fit s (Default x ∷ items) h = items_fit s items h.1

pub within_context : (s : Scope) (e : pure.Expression) (w : ℕ) → width_of s e ≤ w → width_at s e ≤ w
unfolding width_at
within_context s e w l = l

pub selector_within : (s : Scope) (e : pure.Expression) (w m : ℕ) → w ≡ max (width_of s e) m → width_at s e ≤ w
selector_within s e w m h = within_context s e w (omega (arith, h))

comparable : (s : Scope) (k : CaseKind) (w : ℕ) (es : List Expression) → AreSoundValues s k (expressions_of es) → greatest_width s (expressions_of es) ≤ w → AreComparable s k w es
comparable s k w [] h l = tt
comparable s k w (e ∷ es) h l =
    let most : max (width_of s (tree_of e)) (greatest_width s (expressions_of es)) ≤ w = l in
    (h.0, omega (arith, most), comparable s k w es h.1 (omega (arith, most)))

pub items_comparable : (s : Scope) (k : CaseKind) (w : ℕ) (items : List CaseItem) → AreSoundItems s k (item_list items) → items_width s (item_list items) ≤ w → AreItemsComparable s k w items
items_comparable s k w [] h l = tt
items_comparable s k w (Values es x ∷ items) h l =
    let most : max (greatest_width s (expressions_of es.items)) (items_width s (item_list items)) ≤ w = l in
    ((comparable s k w es.items h.0 (omega (arith, most)), h.1), items_comparable s k w items h.2 (omega (arith, most)))
items_comparable s k w (Default x ∷ items) h l = (h.0, items_comparable s k w items h.1 l)

-- the statement of an item by its index
pub item_sound : (s : Scope) (k : CaseKind) (items : List CaseItem) (d : CaseItem) (j : ℕ) → j < length items → AreSoundItems s k (item_list items) → IsSoundStatement s (item_statement (get_or items j d))
item_sound s k [] d j b h = absurd (omega (arith, b))
item_sound s k (Values es x ∷ items) d zero b h = h.1
item_sound s k (Default x ∷ items) d zero b h = h.0
item_sound s k (Values es x ∷ items) d (suc j) b h = item_sound s k items d j (omega (arith, b)) h.2
item_sound s k (Default x ∷ items) d (suc j) b h = item_sound s k items d j (omega (arith, b)) h.1
