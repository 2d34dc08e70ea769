-- The copy of a target and of a statement from the copies of their parts, form by form.
use Rattle.std.proofs.Common.{◌≡◌, ◌∙◌, refl, ap, sym, ℕ, List, [], ◌∷◌, map, Option, Some, None}
use Rattle.std.specs.declared.boxed.Box.{Box}
use Rattle.std.specs.declared.vec.Vec.{Vec}
use Rattle.std.specs.declared.alloc.Global.{Global}
use Rattle.std.specs.Borrow.{Bor}
use Rattle.wb_values.specs.Value.{Name}
use Rattle.verilog_trees.specs.Syntax as pure
use Rattle.verilog_renamed.proofs.Paths.{ap2}
use Rattle.v_syntax.specs.declared.tree.Expression.{Expression}
use Rattle.v_syntax.specs.declared.tree.Selects.{Selects}
use Rattle.v_syntax.specs.declared.tree.Target.{Target, Place, Joined, Row_of-Target, end_of-Target, more_of-Target, items-the_row-Target, items_hidden-the_row-Target-0}
use Rattle.v_syntax.specs.declared.tree.Target.TheBlock.{hidden-the_row-Target-0}
use Rattle.v_syntax.specs.declared.tree.CaseKind.{CaseKind}
use Rattle.v_syntax.specs.declared.tree.Statement.{Statement, Empty, Blocking, Nonblocking, If, Case, Block, Row_of-Arm, end_of-Arm, more_of-Arm, items-the_row-Arm, items_hidden-the_row-Arm-0, Row_of-CaseItem, end_of-CaseItem, more_of-CaseItem, items-the_row-CaseItem, items_hidden-the_row-CaseItem-1, Row_of-Statement, end_of-Statement, more_of-Statement, items-the_row-Statement, items_hidden-the_row-Statement-2}
use Rattle.v_syntax.specs.declared.tree.CaseItem.TheBlock.{hidden-the_row-Arm-0, hidden-the_row-CaseItem-1, hidden-the_row-Statement-2}
use Rattle.v_syntax.specs.declared.tree.Arm.{Arm}
use Rattle.v_syntax.specs.declared.tree.CaseItem.{CaseItem, Values, Default}
use Rattle.v_syntax.specs.Tree.{tree_of, selects_of, target_of, targets_of, statement_of, arms_before, statements_of, items_of, arm_before, or_empty, name_of_option, case_kind_of}
use Rattle.verilog_renamed.specs.Renamed.{renamed_expressions, renamed_targets, renamed_statements, renamed_case_items}
use Rattle.v_renamed.specs.Copies.{renamed_at, selects_at, part_under, target_at, statement_at, target_under, statement_under, arm_of, arm_under, item_of, item_under}
use Rattle.v_renamed.specs.Listed.{listed, targets_listed, statements_listed, ladder_of, items_listed}
use Rattle.v_renamed.proofs.Arms.{parts-listed, parts-at}
use mathlib.Core.Former as Former

-- ---- targets

targets-row : (n : Former.Count) (k : Row_of-Target n) → targets_of k ≡ targets_listed (map target_of (items-the_row-Target n k))
targets-row n end_of-Target = refl
targets-row n (more_of-Target t k) = ap (pure.target (target_of t)) (targets-row _ k)

pub target_of-Joined : (v : Vec Target Global) → target_of (Joined v) ≡ pure.joined (targets_listed (map target_of v.items))
target_of-Joined v = ap pure.joined (targets-row _ (hidden-the_row-Target-0 v) ∙ ap (λ (ts : List Target). targets_listed (map target_of ts)) (items_hidden-the_row-Target-0 v))

pub place-at : (f : Name → Name) (n : Name) (x : pure.Selects) → target_at f (pure.place n x) ≡ pure.place (f n) (selects_at f x)
unfolding target_at selects_at
place-at f n x = refl

targets-at : (f : Name → Name) (ts : List Target) → renamed_targets f (targets_listed (map target_of ts)) ≡ targets_listed (map (target_under f) ts)
unfolding target_at
targets-at f [] = refl
targets-at f (t ∷ ts) = ap (pure.target (target_at f (target_of t))) (targets-at f ts)

joined-at : (f : Name → Name) (ts : List Target) → target_at f (pure.joined (targets_listed (map target_of ts))) ≡ pure.joined (targets_listed (map (target_under f) ts))
unfolding target_at
joined-at f ts = ap pure.joined (targets-at f ts)

pub place-copied : (f : Name → Name) (t : Target) (n m : Bor (List ℕ)) (x y : Selects) → t ≡ Place n x → m.now ≡ f n.now → selects_of y ≡ selects_at f (selects_of x)
    → target_of (Place m y) ≡ target_at f (target_of t)
place-copied f t n m x y is name selects =
    ap2 pure.place name selects ∙ sym (place-at f n.now (selects_of x)) ∙ ap (λ u. target_at f (target_of u)) (sym is)

pub joined-copied : (f : Name → Name) (t : Target) (v w : Vec Target Global) (ts : List Target) → t ≡ Joined v → ts ≡ v.items
    → map target_of w.items ≡ map (target_under f) ts → target_of (Joined w) ≡ target_at f (target_of t)
joined-copied f t v w ts is at same =
    target_of-Joined w ∙ ap (λ us. pure.joined (targets_listed us)) (same ∙ ap (map (target_under f)) at)
    ∙ sym (joined-at f v.items) ∙ ap (target_at f) (sym (ap target_of is ∙ target_of-Joined v))

-- ---- the code's lists of statements

arms-row : (n : Former.Count) (k : Row_of-Arm n) (y : Option pure.Statement) → arms_before k y ≡ ladder_of (map arm_of (items-the_row-Arm n k)) y
arms-row n end_of-Arm y = refl
arms-row n (more_of-Arm c x k) y = ap (λ (o : Option pure.Statement). Some (arm_before (tree_of c) (statement_of x) o)) (arms-row _ k y)

statements-row : (n : Former.Count) (k : Row_of-Statement n) → statements_of k ≡ statements_listed (map statement_of (items-the_row-Statement n k))
statements-row n end_of-Statement = refl
statements-row n (more_of-Statement x k) = ap (pure.statement (statement_of x)) (statements-row _ k)

items-row : (n : Former.Count) (k : Row_of-CaseItem n) → items_of k ≡ items_listed (map item_of (items-the_row-CaseItem n k))
items-row n end_of-CaseItem = refl
items-row n (more_of-CaseItem (Values es x) k) = ap2 (λ vs rest. pure.arm vs (statement_of x) rest) (parts-listed es.items) (items-row _ k)
items-row n (more_of-CaseItem (Default x) k) = ap (pure.default_arm (statement_of x)) (items-row _ k)

if-is : (v : Vec Arm Global) → statement_of (If v None) ≡ or_empty (ladder_of (map arm_of v.items) None)
if-is v = ap or_empty (arms-row _ (hidden-the_row-Arm-0 v) None ∙ ap (λ (gs : List Arm). ladder_of (map arm_of gs) None) (items_hidden-the_row-Arm-0 v))

else-is : (v : Vec Arm Global) (b : Box Statement Global) → statement_of (If v (Some b)) ≡ or_empty (ladder_of (map arm_of v.items) (Some (statement_of b.value)))
else-is v b =
    ap or_empty (arms-row _ (hidden-the_row-Arm-0 v) (Some (statement_of b.value)) ∙ ap (λ (gs : List Arm). ladder_of (map arm_of gs) (Some (statement_of b.value))) (items_hidden-the_row-Arm-0 v))

case-is : (k : CaseKind) (e : Expression) (v : Vec CaseItem Global) → statement_of (Case k e v) ≡ pure.case (case_kind_of k) (tree_of e) (items_listed (map item_of v.items))
case-is k e v =
    ap (pure.case (case_kind_of k) (tree_of e)) (items-row _ (hidden-the_row-CaseItem-1 v) ∙ ap (λ (is : List CaseItem). items_listed (map item_of is)) (items_hidden-the_row-CaseItem-1 v))

block-is : (n : Option (Bor (List ℕ))) (v : Vec Statement Global) → statement_of (Block n v) ≡ pure.block (name_of_option n) (statements_listed (map statement_of v.items))
block-is n v =
    ap (pure.block (name_of_option n)) (statements-row _ (hidden-the_row-Statement-2 v) ∙ ap (λ (ss : List Statement). statements_listed (map statement_of ss)) (items_hidden-the_row-Statement-2 v))

-- ---- what a renamed statement is, one step

abbrev at_option : (Name → Name) → Option pure.Statement → Option pure.Statement
at_option f None = None
at_option f (Some x) = Some (statement_at f x)

before-at : (f : Name → Name) (c : pure.Expression) (x : pure.Statement) (o : Option pure.Statement)
    → statement_at f (arm_before c x o) ≡ arm_before (renamed_at f c) (statement_at f x) (at_option f o)
unfolding statement_at renamed_at
before-at f c x None = refl
before-at f c x (Some y) = refl

abbrev some-statement : pure.Statement → Option pure.Statement
some-statement x = Some x

ladder-at : (f : Name → Name) (arms : List Arm) (y : Option pure.Statement) → at_option f (ladder_of (map arm_of arms) y) ≡ ladder_of (map (arm_under f) arms) (at_option f y)
ladder-at f [] y = refl
ladder-at f (a ∷ arms) y =
    ap some-statement (before-at f (tree_of a.condition) (statement_of a.statement) (ladder_of (map arm_of arms) y))
    ∙ ap (λ o. some-statement (arm_before (renamed_at f (tree_of a.condition)) (statement_at f (statement_of a.statement)) o)) (ladder-at f arms y)

or_empty-at : (f : Name → Name) (o : Option pure.Statement) → statement_at f (or_empty o) ≡ or_empty (at_option f o)
unfolding statement_at
or_empty-at f None = refl
or_empty-at f (Some x) = refl

ladder-renamed : (f : Name → Name) (arms : List Arm) (y : Option pure.Statement)
    → statement_at f (or_empty (ladder_of (map arm_of arms) y)) ≡ or_empty (ladder_of (map (arm_under f) arms) (at_option f y))
ladder-renamed f arms y = or_empty-at f (ladder_of (map arm_of arms) y) ∙ ap or_empty (ladder-at f arms y)

statements-at : (f : Name → Name) (xs : List Statement) → renamed_statements f (statements_listed (map statement_of xs)) ≡ statements_listed (map (statement_under f) xs)
unfolding statement_at
statements-at f [] = refl
statements-at f (x ∷ xs) = ap (pure.statement (statement_at f (statement_of x))) (statements-at f xs)

items-at : (f : Name → Name) (is : List CaseItem) → renamed_case_items f (items_listed (map item_of is)) ≡ items_listed (map (item_under f) is)
unfolding statement_at
items-at f [] = refl
items-at f (Values es x ∷ is) =
    ap2 (λ vs rest. pure.arm vs (statement_at f (statement_of x)) rest) (ap (renamed_expressions f) (sym (parts-listed es.items)) ∙ parts-at f es.items) (items-at f is)
items-at f (Default x ∷ is) = ap (pure.default_arm (statement_at f (statement_of x))) (items-at f is)

block-at : (f : Name → Name) (n : Option Name) (xs : List Statement)
    → statement_at f (pure.block n (statements_listed (map statement_of xs))) ≡ pure.block n (statements_listed (map (statement_under f) xs))
unfolding statement_at
block-at f n xs = ap (pure.block n) (statements-at f xs)

case-at : (f : Name → Name) (k : pure.CaseKind) (e : pure.Expression) (is : List CaseItem)
    → statement_at f (pure.case k e (items_listed (map item_of is))) ≡ pure.case k (renamed_at f e) (items_listed (map (item_under f) is))
unfolding statement_at renamed_at
case-at f k e is = ap (pure.case k (renamed_at f e)) (items-at f is)

blocking-at : (f : Name → Name) (t : pure.Target) (e : pure.Expression) → statement_at f (pure.blocking t e) ≡ pure.blocking (target_at f t) (renamed_at f e)
unfolding statement_at target_at renamed_at
blocking-at f t e = refl

nonblocking-at : (f : Name → Name) (t : pure.Target) (e : pure.Expression) → statement_at f (pure.nonblocking t e) ≡ pure.nonblocking (target_at f t) (renamed_at f e)
unfolding statement_at target_at renamed_at
nonblocking-at f t e = refl

empty-at : (f : Name → Name) → statement_at f pure.empty ≡ pure.empty
unfolding statement_at
empty-at f = refl

-- ---- arms

-- x is the statement
module _ (f : Name → Name) (x : Statement) where
  pub empty-copied : x ≡ Empty → statement_of Empty ≡ statement_at f (statement_of x)
  empty-copied is = sym (empty-at f) ∙ ap (λ y. statement_at f (statement_of y)) (sym is)

  pub blocking-copied : (t u : Box Target Global) (e d : Expression) → x ≡ Blocking t e → (a : Target) → a ≡ t.value → target_of u.value ≡ target_at f (target_of a) → tree_of d ≡ renamed_at f (tree_of e)
      → statement_of (Blocking u d) ≡ statement_at f (statement_of x)
  blocking-copied t u e d is a same target value =
      ap2 pure.blocking (target ∙ ap (λ z. target_at f (target_of z)) same) value ∙ sym (blocking-at f (target_of t.value) (tree_of e)) ∙ ap (λ y. statement_at f (statement_of y)) (sym is)

  pub nonblocking-copied : (t u : Box Target Global) (e d : Expression) → x ≡ Nonblocking t e → (a : Target) → a ≡ t.value → target_of u.value ≡ target_at f (target_of a) → tree_of d ≡ renamed_at f (tree_of e)
      → statement_of (Nonblocking u d) ≡ statement_at f (statement_of x)
  nonblocking-copied t u e d is a same target value =
      ap2 pure.nonblocking (target ∙ ap (λ z. target_at f (target_of z)) same) value ∙ sym (nonblocking-at f (target_of t.value) (tree_of e)) ∙ ap (λ y. statement_at f (statement_of y)) (sym is)

  pub if-copied : (v w : Vec Arm Global) (o : Option (Box Statement Global)) (arms : List Arm) → x ≡ If v o → o ≡ None → arms ≡ v.items
      → map arm_of w.items ≡ map (arm_under f) arms → statement_of (If w None) ≡ statement_at f (statement_of x)
  if-copied v w o arms is none at same =
      if-is w ∙ ap (λ gs. or_empty (ladder_of gs None)) (same ∙ ap (map (arm_under f)) at)
      ∙ sym (ladder-renamed f v.items None) ∙ ap (statement_at f) (sym (if-is v))
      ∙ ap (λ y. statement_at f (statement_of y)) (sym (is ∙ ap (If v) none))

  pub else-copied : (v w : Vec Arm Global) (o : Option (Box Statement Global)) (b d : Box Statement Global) (y : Statement) (arms : List Arm)
      → x ≡ If v o → o ≡ Some b → arms ≡ v.items → y ≡ b.value
      → map arm_of w.items ≡ map (arm_under f) arms → statement_of d.value ≡ statement_at f (statement_of y)
      → statement_of (If w (Some d)) ≡ statement_at f (statement_of x)
  else-copied v w o b d y arms is some at held same last =
      else-is w d
      ∙ ap2 (λ gs z. or_empty (ladder_of gs (some-statement z))) (same ∙ ap (map (arm_under f)) at) (last ∙ ap (λ z. statement_at f (statement_of z)) held)
      ∙ sym (ladder-renamed f v.items (some-statement (statement_of b.value))) ∙ ap (statement_at f) (sym (else-is v b))
      ∙ ap (λ z. statement_at f (statement_of z)) (sym (is ∙ ap (If v) some))

  pub case-copied : (k : CaseKind) (e d : Expression) (v w : Vec CaseItem Global) (items : List CaseItem) → x ≡ Case k e v → items ≡ v.items
      → tree_of d ≡ renamed_at f (tree_of e) → map item_of w.items ≡ map (item_under f) items → statement_of (Case k d w) ≡ statement_at f (statement_of x)
  case-copied k e d v w items is at subject same =
      case-is k d w ∙ ap2 (λ c is_. pure.case (case_kind_of k) c (items_listed is_)) subject (same ∙ ap (map (item_under f)) at)
      ∙ sym (case-at f (case_kind_of k) (tree_of e) v.items) ∙ ap (statement_at f) (sym (case-is k e v))
      ∙ ap (λ y. statement_at f (statement_of y)) (sym is)

  pub block-copied : (n : Option (Bor (List ℕ))) (v w : Vec Statement Global) (xs : List Statement) → x ≡ Block n v → xs ≡ v.items
      → map statement_of w.items ≡ map (statement_under f) xs → statement_of (Block n w) ≡ statement_at f (statement_of x)
  block-copied n v w xs is at same =
      block-is n w ∙ ap (λ ys. pure.block (name_of_option n) (statements_listed ys)) (same ∙ ap (map (statement_under f)) at)
      ∙ sym (block-at f (name_of_option n) v.items) ∙ ap (statement_at f) (sym (block-is n v))
      ∙ ap (λ y. statement_at f (statement_of y)) (sym is)

abbrev some_item : List pure.Expression → pure.Statement → Option pure.Expressions × pure.Statement
some_item vs z = (Some (listed vs), z)

abbrev none_item : pure.Statement → Option pure.Expressions × pure.Statement
none_item z = (None, z)

pub values-copied : (f : Name → Name) (i : CaseItem) (v w : Vec Expression Global) (x y : Statement) (es : List Expression) → i ≡ Values v x → es ≡ v.items
    → map tree_of w.items ≡ map (part_under f) es → statement_of y ≡ statement_at f (statement_of x) → item_of (Values w y) ≡ item_under f i
values-copied f i v w x y es is at same body =
    ap2 some_item (same ∙ ap (map (part_under f)) at) body ∙ ap (item_under f) (sym is)

pub default-copied : (f : Name → Name) (i : CaseItem) (x y : Statement) → i ≡ Default x → statement_of y ≡ statement_at f (statement_of x) → item_of (Default y) ≡ item_under f i
default-copied f i x y is body = ap none_item body ∙ ap (item_under f) (sym is)
