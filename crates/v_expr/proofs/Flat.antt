-- Flat trees from flat parts.
use Rattle.std.proofs.Common.{◌≡◌, ◌∙◌, ◌==◌, ℕ, Bool, true, false, List, [], ◌∷◌, ◌++◌, length, refl, ap, sym, subst, arith}
use Rattle.std.proofs.lemmas.Bool.{eqb-false}
use Rattle.std.specs.declared.boxed.Box.{Box}
use Rattle.std.specs.declared.vec.Vec.{Vec}
use Rattle.std.specs.declared.alloc.Global.{Global}
use Rattle.v_syntax.specs.declared.tree.PrefixOperator.{PrefixOperator}
use Rattle.v_syntax.specs.declared.tree.BinaryLink.{BinaryLink}
use Rattle.v_syntax.specs.declared.tree.TestLink.{TestLink}
use Rattle.v_syntax.specs.declared.tree.Choice.{Choice}
use Rattle.v_syntax.specs.declared.tree.Expression.{Expression, Concatenation, Replication, Prefix, Binary, Test, Conditional, Row_of-Expression, end_of-Expression, more_of-Expression, items-the_row-Expression, items_hidden-the_row-Expression-0, Row_of-BinaryLink, end_of-BinaryLink, more_of-BinaryLink, items-the_row-BinaryLink, items_hidden-the_row-BinaryLink-1, Row_of-TestLink, end_of-TestLink, more_of-TestLink, items-the_row-TestLink, items_hidden-the_row-TestLink-2, Row_of-Choice, end_of-Choice, more_of-Choice, items-the_row-Choice, items_hidden-the_row-Choice-3}
use Rattle.v_syntax.specs.declared.tree.Expression.TheBlock.{hidden-the_row-Expression-0, hidden-the_row-BinaryLink-1, hidden-the_row-TestLink-2, hidden-the_row-Choice-3}
use Rattle.verilog_trees.specs.Syntax as pure
use Rattle.v_syntax.specs.Tree.{tree_of, prefixed, all_prefixed}
use Rattle.v_syntax.specs.Chain.{chosen}
use Rattle.v_syntax.proofs.Trees.{tree_of-Conditional}
use Rattle.v_expr.specs.Flat.{IsNoPrefix, IsNoBinary, IsNoTest, IsNoConditional, IsNotEmpty, HasLinks, HasTests, HasChoices, IsFlat, IsFlatRow, AreFlatLinks, AreFlatTests, AreFlatChoices, AreFlat, IsFlatChoice, HasFlatChoices, Each}
use mathlib.Core.Former as Former

pub not_empty : {A : Type 0} (xs : List A) (x : A) → IsNotEmpty (xs ++ x ∷ [])
not_empty [] x = tt
not_empty (y ∷ ys) x = tt

-- ---- parts

parts-row : (n : Former.Count) (k : Row_of-Expression n) → AreFlat (items-the_row-Expression n k) → IsFlatRow k
parts-row n end_of-Expression h = tt
parts-row n (more_of-Expression e k) h = (h.0, parts-row _ k h.1)

pub flat-Concatenation : (v : Vec Expression Global) → AreFlat v.items → IsFlat (Concatenation v)
flat-Concatenation v h = parts-row _ (hidden-the_row-Expression-0 v) (subst AreFlat (sym (items_hidden-the_row-Expression-0 v)) h)

pub flat-Replication : (b : Box Expression Global) (v : Vec Expression Global) → IsFlat b.value → AreFlat v.items → IsFlat (Replication b v)
flat-Replication b v f h = (f, parts-row _ (hidden-the_row-Expression-0 v) (subst AreFlat (sym (items_hidden-the_row-Expression-0 v)) h))

pub flat-push : (es : List Expression) (e : Expression) → AreFlat es → IsFlat e → AreFlat (es ++ e ∷ [])
flat-push [] e h f = (f, tt)
flat-push (d ∷ ds) e h f = (h.0, flat-push ds e h.1 f)

-- ---- operators

abbrev HasFlatLinks : List BinaryLink → Type 0
HasFlatLinks [] = Unit {0}
HasFlatLinks (l ∷ ls) = IsFlat l.operand × HasFlatLinks ls

links-row : (n : Former.Count) (k : Row_of-BinaryLink n) → HasFlatLinks (items-the_row-BinaryLink n k) → AreFlatLinks k
links-row n end_of-BinaryLink h = tt
links-row n (more_of-BinaryLink o y k) h = (h.0, links-row _ k h.1)

row-links : (n : Former.Count) (k : Row_of-BinaryLink n) → AreFlatLinks k → HasFlatLinks (items-the_row-BinaryLink n k)
row-links n end_of-BinaryLink h = tt
row-links n (more_of-BinaryLink o y k) h = (h.0, row-links _ k h.1)

some-links : (n : Former.Count) (k : Row_of-BinaryLink n) → IsNotEmpty (items-the_row-BinaryLink n k) → HasLinks k
some-links n end_of-BinaryLink h = h
some-links n (more_of-BinaryLink o y k) h = tt

links-push : (ls : List BinaryLink) (l : BinaryLink) → HasFlatLinks ls → IsFlat l.operand → HasFlatLinks (ls ++ l ∷ [])
links-push [] l h f = (f, tt)
links-push (k ∷ ks) l h f = (h.0, links-push ks l h.1 f)

binary : (b : Box Expression Global) (v : Vec BinaryLink Global) → IsNotEmpty v.items → IsNoBinary b.value → IsFlat b.value → HasFlatLinks v.items → IsFlat (Binary b v)
binary b v some none first links = (
  some-links _ (hidden-the_row-BinaryLink-1 v) (subst IsNotEmpty (sym (items_hidden-the_row-BinaryLink-1 v)) some),
  none,
  first,
  links-row _ (hidden-the_row-BinaryLink-1 v) (subst HasFlatLinks (sym (items_hidden-the_row-BinaryLink-1 v)) links),
)

-- a chain with one link more
pub more_links : (b : Box Expression Global) (v w : Vec BinaryLink Global) (l : BinaryLink) (x : Expression) → x ≡ Binary b v → w.items ≡ v.items ++ l ∷ []
    → IsFlat x → IsFlat l.operand → IsFlat (Binary b w)
more_links b v w l x is pushed flat operand =
    let h : IsFlat (Binary b v) = subst IsFlat is flat in
    let old : HasFlatLinks v.items = subst HasFlatLinks (items_hidden-the_row-BinaryLink-1 v) (row-links _ (hidden-the_row-BinaryLink-1 v) h.3) in
    binary b w (subst IsNotEmpty (sym pushed) (not_empty v.items l)) h.1 h.2 (subst HasFlatLinks (sym pushed) (links-push v.items l old operand))

-- a chain of one link
pub first_link : (b : Box Expression Global) (w : Vec BinaryLink Global) (ls : List BinaryLink) (l : BinaryLink) (x : Expression) → b.value ≡ x → ls ≡ [] → w.items ≡ ls ++ l ∷ []
    → IsNoBinary x → IsFlat x → IsFlat l.operand → IsFlat (Binary b w)
first_link b w ls l x is none pushed no_chain flat operand =
    let one : w.items ≡ l ∷ [] = pushed ∙ ap (λ ks. ks ++ l ∷ []) none in
    binary b w (subst IsNotEmpty (sym one) tt) (subst IsNoBinary (sym is) no_chain) (subst IsFlat (sym is) flat) (subst HasFlatLinks (sym one) (operand, tt))

-- ---- tests

abbrev HasFlatTests : List TestLink → Type 0
HasFlatTests [] = Unit {0}
HasFlatTests (l ∷ ls) = IsFlat l.operand × HasFlatTests ls

tests-row : (n : Former.Count) (k : Row_of-TestLink n) → HasFlatTests (items-the_row-TestLink n k) → AreFlatTests k
tests-row n end_of-TestLink h = tt
tests-row n (more_of-TestLink o y k) h = (h.0, tests-row _ k h.1)

row-tests : (n : Former.Count) (k : Row_of-TestLink n) → AreFlatTests k → HasFlatTests (items-the_row-TestLink n k)
row-tests n end_of-TestLink h = tt
row-tests n (more_of-TestLink o y k) h = (h.0, row-tests _ k h.1)

some-tests : (n : Former.Count) (k : Row_of-TestLink n) → IsNotEmpty (items-the_row-TestLink n k) → HasTests k
some-tests n end_of-TestLink h = h
some-tests n (more_of-TestLink o y k) h = tt

tests-push : (ls : List TestLink) (l : TestLink) → HasFlatTests ls → IsFlat l.operand → HasFlatTests (ls ++ l ∷ [])
tests-push [] l h f = (f, tt)
tests-push (k ∷ ks) l h f = (h.0, tests-push ks l h.1 f)

test : (b : Box Expression Global) (v : Vec TestLink Global) → IsNotEmpty v.items → IsNoTest b.value → IsFlat b.value → HasFlatTests v.items → IsFlat (Test b v)
test b v some none first links = (
  some-tests _ (hidden-the_row-TestLink-2 v) (subst IsNotEmpty (sym (items_hidden-the_row-TestLink-2 v)) some),
  none,
  first,
  tests-row _ (hidden-the_row-TestLink-2 v) (subst HasFlatTests (sym (items_hidden-the_row-TestLink-2 v)) links),
)

pub more_tests : (b : Box Expression Global) (v w : Vec TestLink Global) (l : TestLink) (x : Expression) → x ≡ Test b v → w.items ≡ v.items ++ l ∷ []
    → IsFlat x → IsFlat l.operand → IsFlat (Test b w)
more_tests b v w l x is pushed flat operand =
    let h : IsFlat (Test b v) = subst IsFlat is flat in
    let old : HasFlatTests v.items = subst HasFlatTests (items_hidden-the_row-TestLink-2 v) (row-tests _ (hidden-the_row-TestLink-2 v) h.3) in
    test b w (subst IsNotEmpty (sym pushed) (not_empty v.items l)) h.1 h.2 (subst HasFlatTests (sym pushed) (tests-push v.items l old operand))

pub first_test : (b : Box Expression Global) (w : Vec TestLink Global) (ls : List TestLink) (l : TestLink) (x : Expression) → b.value ≡ x → ls ≡ [] → w.items ≡ ls ++ l ∷ []
    → IsNoTest x → IsFlat x → IsFlat l.operand → IsFlat (Test b w)
first_test b w ls l x is none pushed no_chain flat operand =
    let one : w.items ≡ l ∷ [] = pushed ∙ ap (λ ks. ks ++ l ∷ []) none in
    test b w (subst IsNotEmpty (sym one) tt) (subst IsNoTest (sym is) no_chain) (subst IsFlat (sym is) flat) (subst HasFlatTests (sym one) (operand, tt))

-- ---- choices

choices-row : (n : Former.Count) (k : Row_of-Choice n) → HasFlatChoices (items-the_row-Choice n k) → AreFlatChoices k
choices-row n end_of-Choice h = tt
choices-row n (more_of-Choice c x k) h = (h.0.0, h.0.1, choices-row _ k h.1)

some-choices : (n : Former.Count) (k : Row_of-Choice n) → IsNotEmpty (items-the_row-Choice n k) → HasChoices k
some-choices n end_of-Choice h = h
some-choices n (more_of-Choice c x k) h = tt

pub choices-push : (cs : List Choice) (c : Choice) → HasFlatChoices cs → IsFlatChoice c → HasFlatChoices (cs ++ c ∷ [])
choices-push [] c h f = (f, tt)
choices-push (b ∷ bs) c h f = (h.0, choices-push bs c h.1 f)

row-choices : (n : Former.Count) (k : Row_of-Choice n) → AreFlatChoices k → HasFlatChoices (items-the_row-Choice n k)
row-choices n end_of-Choice h = tt
row-choices n (more_of-Choice c x k) h = ((h.0, h.1), row-choices _ k h.2)

choices-append : (cs ds : List Choice) → HasFlatChoices cs → HasFlatChoices ds → HasFlatChoices (cs ++ ds)
choices-append [] ds h k = k
choices-append (c ∷ cs) ds h k = (h.0, choices-append cs ds h.1 k)

conditional-node : (v : Vec Choice Global) (b : Box Expression Global) → IsNotEmpty v.items → HasFlatChoices v.items → IsNoConditional b.value → IsFlat b.value → IsFlat (Conditional v b)
conditional-node v b some choices none last = (
  some-choices _ (hidden-the_row-Choice-3 v) (subst IsNotEmpty (sym (items_hidden-the_row-Choice-3 v)) some),
  none,
  last,
  choices-row _ (hidden-the_row-Choice-3 v) (subst HasFlatChoices (sym (items_hidden-the_row-Choice-3 v)) choices),
)

chosen-append : (cs ds : List Choice) (y : pure.Expression) → chosen (cs ++ ds) y ≡ chosen cs (chosen ds y)
chosen-append [] ds y = refl
chosen-append (c ∷ cs) ds y = ap (pure.conditional (tree_of c.condition) (tree_of c.value)) (chosen-append cs ds y)

-- ---- prefix operators

prefixed-append : (os ps : List PrefixOperator) (e : pure.Expression) → all_prefixed (os ++ ps) e ≡ all_prefixed os (all_prefixed ps e)
prefixed-append [] ps e = refl
prefixed-append (o ∷ os) ps e = ap (prefixed o) (prefixed-append os ps e)

still_some : {A : Type 0} (xs ys : List A) → IsNotEmpty xs → IsNotEmpty (xs ++ ys)
still_some [] ys h = absurd h
still_some (x ∷ xs) ys h = tt

-- ---- whether a list is empty, by its length

some_of : {A : Type 0} (xs : List A) (n : ℕ) → n ≡ length xs → (n ≡ 0 → ⊥) → IsNotEmpty xs
some_of [] n e h = h e
some_of (x ∷ xs) n e h = tt

pub is_some : {A : Type 0} (v : Vec A Global) (t : Bool) → t ≡ (v.len == 0) → t ≡ false → IsNotEmpty v.items
is_some v t e h = some_of v.items v.len v.ok.0 (eqb-false v.len 0 (sym e ∙ h))

-- ---- operators before an operand that begins with operators

pub more_prefixes : (os ps all : Vec PrefixOperator Global) (b : Box Expression Global) (x : Expression) → x ≡ Prefix ps b → all.items ≡ os.items ++ ps.items
    → tree_of (Prefix all b) ≡ all_prefixed os.items (tree_of x)
more_prefixes os ps all b x is together =
    ap (λ qs. all_prefixed qs (tree_of b.value)) together ∙ prefixed-append os.items ps.items (tree_of b.value) ∙ ap (λ y. all_prefixed os.items (tree_of y)) (sym is)

pub flat-more_prefixes : (os ps all : Vec PrefixOperator Global) (b : Box Expression Global) (x : Expression) → x ≡ Prefix ps b → all.items ≡ os.items ++ ps.items
    → IsNotEmpty os.items → IsFlat x → IsFlat (Prefix all b)
flat-more_prefixes os ps all b x is together some flat =
    let h : IsFlat (Prefix ps b) = subst IsFlat is flat in
    (subst IsNotEmpty (sym together) (still_some os.items ps.items some), h.1, h.2)

pub flat-first_prefixes : (os : Vec PrefixOperator Global) (b : Box Expression Global) (x : Expression) → b.value ≡ x → IsNotEmpty os.items → IsNoPrefix x → IsFlat x → IsFlat (Prefix os b)
flat-first_prefixes os b x is some none flat = (some, subst IsNoPrefix (sym is) none, subst IsFlat (sym is) flat)

-- ---- choices before a last value that begins with choices

pub more_choices : (cs ds all : Vec Choice Global) (b : Box Expression Global) (x : Expression) → x ≡ Conditional ds b → all.items ≡ cs.items ++ ds.items
    → tree_of (Conditional all b) ≡ chosen cs.items (tree_of x)
more_choices cs ds all b x is together =
    tree_of-Conditional all b ∙ ap (λ es. chosen es (tree_of b.value)) together ∙ chosen-append cs.items ds.items (tree_of b.value)
    ∙ ap (chosen cs.items) (sym (ap tree_of is ∙ tree_of-Conditional ds b))

pub flat-more_choices : (cs ds all : Vec Choice Global) (b : Box Expression Global) (x : Expression) → x ≡ Conditional ds b → all.items ≡ cs.items ++ ds.items
    → IsNotEmpty cs.items → HasFlatChoices cs.items → IsFlat x → IsFlat (Conditional all b)
flat-more_choices cs ds all b x is together some choices flat =
    let h : IsFlat (Conditional ds b) = subst IsFlat is flat in
    let old : HasFlatChoices ds.items = subst HasFlatChoices (items_hidden-the_row-Choice-3 ds) (row-choices _ (hidden-the_row-Choice-3 ds) h.3) in
    conditional-node all b (subst IsNotEmpty (sym together) (still_some cs.items ds.items some)) (subst HasFlatChoices (sym together) (choices-append cs.items ds.items choices old)) h.1 h.2

pub flat-first_choices : (cs : Vec Choice Global) (b : Box Expression Global) (x : Expression) → b.value ≡ x → IsNotEmpty cs.items → HasFlatChoices cs.items
    → IsNoConditional x → IsFlat x → IsFlat (Conditional cs b)
flat-first_choices cs b x is some choices none flat = conditional-node cs b some choices (subst IsNoConditional (sym is) none) (subst IsFlat (sym is) flat)

-- ---- lists

pub each-push : {A : Type 0} (P : A → Type 0) (xs : List A) (x : A) → Each P xs → P x → Each P (xs ++ x ∷ [])
each-push P [] x h f = (f, tt)
each-push P (y ∷ ys) x h f = (h.0, each-push P ys x h.1 f)

-- a list with one element more
pub each-pushed : {A : Type 0} (P : A → Type 0) (xs : List A) (x : A) (new : List A) → new ≡ xs ++ x ∷ [] → Each P xs → P x → Each P new
each-pushed P xs x new e h f = subst (Each P) (sym e) (each-push P xs x h f)

pub some-pushed : {A : Type 0} (xs : List A) (x : A) (new : List A) → new ≡ xs ++ x ∷ [] → IsNotEmpty new
some-pushed xs x new e = subst IsNotEmpty (sym e) (not_empty xs x)

-- a list that is still empty
pub each-none : {A : Type 0} (P : A → Type 0) (new : List A) → new ≡ [] → Each P new
each-none P new e = subst (Each P) (sym e) tt

-- the elements of a list of expressions
pub flat-each : (es : List Expression) → Each IsFlat es → AreFlat es
flat-each [] h = tt
flat-each (e ∷ es) h = (h.0, flat-each es h.1)

-- a list of one element
pub each-one : {A : Type 0} (P : A → Type 0) (x : A) (new : List A) → new ≡ x ∷ [] → P x → Each P new
each-one P x new e f = subst (Each P) (sym e) (f, tt)
