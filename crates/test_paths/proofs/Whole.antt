-- Statements whose parts are narrow.
use Rattle.std.proofs.Common.{◌≡◌, ◌∙◌, ap, sym, subst, List, [], ◌∷◌, Option, Some, None}
use Rattle.std.specs.Prelude.{ℕ}
use Rattle.std.specs.declared.boxed.Box.{Box}
use Rattle.std.specs.declared.vec.Vec.{Vec}
use Rattle.std.specs.declared.alloc.Global.{Global}
use Rattle.std.specs.Borrow.{Bor}
use Rattle.verilog_trees.specs.Syntax as pure
use Rattle.verilog_meaning.specs.Expression.{Scope}
use Rattle.v_syntax.specs.declared.tree.Expression.{Expression}
use Rattle.v_syntax.specs.declared.tree.Target.{Target}
use Rattle.v_syntax.specs.declared.tree.Arm.{Arm}
use Rattle.v_syntax.specs.declared.tree.CaseItem.{CaseItem, Values, Default}
use Rattle.v_syntax.specs.declared.tree.CaseKind.{CaseKind as CodeKind}
use Rattle.v_syntax.specs.declared.tree.Statement.{Statement, Empty, Blocking, Nonblocking, If, Case, Block}
use Rattle.v_syntax.specs.Tree.{tree_of, target_of, statement_of, expressions_of, arm_before, or_empty}
use Rattle.v_statement.specs.Statements.{statement_list, arm_list}
use Rattle.v_statement.specs.Effects.{item_list, item_statement}
use Rattle.v_statement.proofs.Runs.{last_statement, statement_of-If, statement_of-Case, statement_of-Block}
use Rattle.v_value.specs.Narrow.{IsNarrow, AreNarrow}
use Rattle.v_flow.specs.Narrow.{HasNarrowParts, IsNarrowFlow, AreNarrowFlows, AreNarrowArms}
use Rattle.v_flow.specs.Flow.{AreNarrowLadder, AreNarrowAll, IsNarrowLabel, AreNarrowItems}

-- ---- lists of parts

before : (s : Scope) (c : pure.Expression) (x : pure.Statement) (o : Option pure.Statement) → IsNarrow s c → IsNarrowFlow s x → IsNarrowFlow s (or_empty o)
    → IsNarrowFlow s (arm_before c x o)
before s c x None h k l = (h, k)
before s c x (Some y) h k l = (h, k, l)

ladder : (s : Scope) (arms : List Arm) (y : Option pure.Statement) → AreNarrowLadder s arms → IsNarrowFlow s (or_empty y) → IsNarrowFlow s (or_empty (arm_list arms y))
ladder s [] y h k = k
ladder s (a ∷ arms) y h k = before s (tree_of a.condition) (statement_of a.statement) (arm_list arms y) h.0 h.1 (ladder s arms y h.2 k)

each : (s : Scope) (xs : List Statement) → AreNarrowAll s xs → AreNarrowFlows s (statement_list xs)
each s [] h = tt
each s (x ∷ xs) h = (h.0, each s xs h.1)

each-item : (s : Scope) (items : List CaseItem) → AreNarrowItems s items → AreNarrowArms s (item_list items)
each-item s [] h = tt
each-item s (Values es x ∷ items) h = (h.0, h.1, each-item s items h.2)
each-item s (Default x ∷ items) h = (h.1, each-item s items h.2)

-- ---- the code's statements

module _ (s : Scope) (x : Statement) where
  pub whole-Empty : x ≡ Empty → IsNarrowFlow s (statement_of x)
  whole-Empty i = subst (λ z. IsNarrowFlow s (statement_of z)) (sym i) tt

  pub whole-Blocking : (t : Box Target Global) (e : Expression) → x ≡ Blocking t e → (u : Target) → u ≡ t.value → HasNarrowParts s (target_of u) × IsNarrow s (tree_of e) → IsNarrowFlow s (statement_of x)
  whole-Blocking t e i u is h = subst (λ z. IsNarrowFlow s (statement_of z)) (sym i) (subst (λ z. HasNarrowParts s (target_of z) × IsNarrow s (tree_of e)) is h)

  pub whole-Nonblocking : (t : Box Target Global) (e : Expression) → x ≡ Nonblocking t e → (u : Target) → u ≡ t.value → HasNarrowParts s (target_of u) × IsNarrow s (tree_of e) → IsNarrowFlow s (statement_of x)
  whole-Nonblocking t e i u is h = subst (λ z. IsNarrowFlow s (statement_of z)) (sym i) (subst (λ z. HasNarrowParts s (target_of z) × IsNarrow s (tree_of e)) is h)

  whole-If : (v : Vec Arm Global) (l : Option (Box Statement Global)) → x ≡ If v l → (as_ : List Arm) → as_ ≡ v.items → AreNarrowLadder s as_
      → IsNarrowFlow s (or_empty (last_statement l)) → IsNarrowFlow s (statement_of x)
  whole-If v l i as_ g h k =
      subst (IsNarrowFlow s) (sym (ap statement_of i ∙ statement_of-If v l)) (ladder s v.items (last_statement l) (subst (AreNarrowLadder s) g h) k)

  pub whole-else : (v : Vec Arm Global) (l : Option (Box Statement Global)) (b : Box Statement Global) → x ≡ If v l → l ≡ Some b → (as_ : List Arm) → as_ ≡ v.items → (y : Statement) → y ≡ b.value
      → IsNarrowFlow s (statement_of y) → AreNarrowLadder s as_ → IsNarrowFlow s (statement_of x)
  whole-else v l b i j as_ g y e k h =
      whole-If v l i as_ g h (subst (λ o. IsNarrowFlow s (or_empty (last_statement o))) (sym j) (subst (λ z. IsNarrowFlow s (statement_of z)) e k))

  pub whole-no_else : (v : Vec Arm Global) (l : Option (Box Statement Global)) → x ≡ If v l → l ≡ None → (as_ : List Arm) → as_ ≡ v.items
      → AreNarrowLadder s as_ → IsNarrowFlow s (statement_of x)
  whole-no_else v l i j as_ g h = whole-If v l i as_ g h (subst (λ o. IsNarrowFlow s (or_empty (last_statement o))) (sym j) tt)

  pub whole-Case : (kind : CodeKind) (e : Expression) (v : Vec CaseItem Global) → x ≡ Case kind e v → (items : List CaseItem) → items ≡ v.items
      → IsNarrow s (tree_of e) → AreNarrowItems s items → IsNarrowFlow s (statement_of x)
  whole-Case kind e v i items g h k =
      subst (IsNarrowFlow s) (sym (ap statement_of i ∙ statement_of-Case kind e v)) (h, each-item s v.items (subst (AreNarrowItems s) g k))

  pub whole-Block : (m : Option (Bor (List ℕ))) (v : Vec Statement Global) → x ≡ Block m v → (xs : List Statement) → xs ≡ v.items
      → AreNarrowAll s xs → IsNarrowFlow s (statement_of x)
  whole-Block m v i xs g h =
      subst (IsNarrowFlow s) (sym (ap statement_of i ∙ statement_of-Block m v)) (each s v.items (subst (AreNarrowAll s) g h))

-- ---- items of a case

pub whole-Values : (s : Scope) (i : CaseItem) (es : Vec Expression Global) (x : Statement) → i ≡ Values es x → (ys : List Expression) → ys ≡ es.items
    → AreNarrow s (expressions_of ys) → IsNarrowLabel s i
whole-Values s i es x e ys g h = subst (IsNarrowLabel s) (sym e) (subst (λ zs. AreNarrow s (expressions_of zs)) g h)

pub whole-Default : (s : Scope) (i : CaseItem) (x : Statement) → i ≡ Default x → IsNarrowLabel s i
whole-Default s i x e = subst (IsNarrowLabel s) (sym e) tt

pub body-Values : (s : Scope) (i : CaseItem) (es : Vec Expression Global) (x : Statement) → i ≡ Values es x → (y : Statement) → y ≡ x → IsNarrowFlow s (statement_of y) → IsNarrowFlow s (item_statement i)
body-Values s i es x e y g h = subst (λ z. IsNarrowFlow s (item_statement z)) (sym e) (subst (λ z. IsNarrowFlow s (statement_of z)) g h)

pub body-Default : (s : Scope) (i : CaseItem) (x : Statement) → i ≡ Default x → (y : Statement) → y ≡ x → IsNarrowFlow s (statement_of y) → IsNarrowFlow s (item_statement i)
body-Default s i x e y g h = subst (λ z. IsNarrowFlow s (item_statement z)) (sym e) (subst (λ z. IsNarrowFlow s (statement_of z)) g h)
