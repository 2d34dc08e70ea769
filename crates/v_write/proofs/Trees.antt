-- The trees of targets and statements over the lists of their parts.
use Rattle.std.proofs.Common.{◌≡◌, ◌∙◌, refl, ap, sym, subst, cond, ℕ, suc, ◌+◌, ◌<◌, ◌≤◌, List, [], ◌∷◌, length, drop, get_or, arith, Option, Some, None}
use Rattle.std.proofs.Math.Seq.{drop-cons}
use Rattle.std.proofs.lemmas.List.{drop_all}
use Rattle.wb_values.specs.Value.{Valuation}
use Rattle.verilog_meaning.specs.Expression.{Scope, is_true}
use Rattle.verilog_meaning.specs.Statement.{run}
use Rattle.v_lower.specs.Walking.{IsSound}
use Rattle.std.specs.declared.boxed.Box.{Box}
use Rattle.std.specs.declared.vec.Vec.{Vec}
use Rattle.std.specs.declared.alloc.Global.{Global}
use Rattle.std.specs.Borrow.{Bor}
use Rattle.verilog_trees.specs.Syntax as pure
use Rattle.verilog_trees.specs.Syntax.{joined, target, case, block, statement, arm, default_arm}
use Rattle.v_syntax.specs.declared.tree.Target.{Target, Joined, Row_of-Target, end_of-Target, more_of-Target, items-the_row-Target, items_hidden-the_row-Target-0}
use Rattle.v_syntax.specs.declared.tree.Target.TheBlock.{hidden-the_row-Target-0}
use Rattle.v_syntax.specs.declared.tree.Arm.{Arm}
use Rattle.v_syntax.specs.declared.tree.CaseItem.{CaseItem, Values, Default}
use Rattle.v_syntax.specs.declared.tree.CaseKind.{CaseKind}
use Rattle.v_syntax.specs.declared.tree.Expression.{Expression}
use Rattle.v_syntax.specs.declared.tree.Statement.{Statement, If, Case, Block, Row_of-Arm, end_of-Arm, more_of-Arm, items-the_row-Arm, items_hidden-the_row-Arm-0, Row_of-CaseItem, end_of-CaseItem, more_of-CaseItem, items-the_row-CaseItem, items_hidden-the_row-CaseItem-1, Row_of-Statement, end_of-Statement, more_of-Statement, items-the_row-Statement, items_hidden-the_row-Statement-2}
use Rattle.v_syntax.specs.declared.tree.CaseItem.TheBlock.{hidden-the_row-Arm-0, hidden-the_row-CaseItem-1, hidden-the_row-Statement-2}
use Rattle.v_syntax.specs.Tree.{tree_of, expressions_of, target_of, targets_of, statement_of, statements_of, items_of, arms_before, arm_before, or_empty, name_of_option, case_kind_of}
use Rattle.v_write.specs.Sound.{target_list, statement_list, arm_list, item_list, IsSoundStatement, AreSoundBranches}
use mathlib.Core.Former as Former

targets-row : (n : Former.Count) (k : Row_of-Target n) → targets_of k ≡ target_list (items-the_row-Target n k)
targets-row n end_of-Target = refl
targets-row n (more_of-Target t k) = ap (target (target_of t)) (targets-row _ k)

pub target_of-Joined : (v : Vec Target Global) → target_of (Joined v) ≡ joined (target_list v.items)
target_of-Joined v = ap joined (targets-row _ (hidden-the_row-Target-0 v) ∙ ap target_list (items_hidden-the_row-Target-0 v))

-- the rest of a list from an element on, and after all of them
pub rest_is : {A : Type 0} (xs : List A) (i : ℕ) (r : A) → i < length xs → r ≡ get_or xs i r → drop i xs ≡ r ∷ drop (i + 1) xs
rest_is xs i r h is =
    let e : suc i ≡ i + 1 = omega arith in
    drop-cons xs i r h ∙ ap (λ a. a ∷ drop (suc i) xs) (sym is) ∙ ap (λ k. r ∷ drop k xs) e

pub none_left : {A : Type 0} (xs : List A) (i : ℕ) → length xs ≤ i → drop i xs ≡ []
none_left xs i h = drop_all i xs h

-- ---- statements

arms-row : (n : Former.Count) (k : Row_of-Arm n) (y : Option pure.Statement) → arms_before k y ≡ arm_list (items-the_row-Arm n k) y
arms-row n end_of-Arm y = refl
arms-row n (more_of-Arm c x k) y = ap (λ o. Some (arm_before (tree_of c) (statement_of x) o)) (arms-row _ k y)

statements-row : (n : Former.Count) (k : Row_of-Statement n) → statements_of k ≡ statement_list (items-the_row-Statement n k)
statements-row n end_of-Statement = refl
statements-row n (more_of-Statement x k) = ap (statement (statement_of x)) (statements-row _ k)

items-row : (n : Former.Count) (k : Row_of-CaseItem n) → items_of k ≡ item_list (items-the_row-CaseItem n k)
items-row n end_of-CaseItem = refl
items-row n (more_of-CaseItem (Values es x) k) = ap (arm (expressions_of es.items) (statement_of x)) (items-row _ k)
items-row n (more_of-CaseItem (Default x) k) = ap (default_arm (statement_of x)) (items-row _ k)

-- what stands behind the last else
abbrev pub last_statement : Option (Box Statement Global) → Option pure.Statement
last_statement None = None
last_statement (Some b) = Some (statement_of b.value)

pub statement_of-If : (v : Vec Arm Global) (o : Option (Box Statement Global)) → statement_of (If v o) ≡ or_empty (arm_list v.items (last_statement o))
statement_of-If v None = ap or_empty (arms-row _ (hidden-the_row-Arm-0 v) None ∙ ap (λ as_. arm_list as_ None) (items_hidden-the_row-Arm-0 v))
statement_of-If v (Some b) =
    ap or_empty (arms-row _ (hidden-the_row-Arm-0 v) (Some (statement_of b.value)) ∙ ap (λ as_. arm_list as_ (Some (statement_of b.value))) (items_hidden-the_row-Arm-0 v))

pub statement_of-Case : (k : CaseKind) (e : Expression) (v : Vec CaseItem Global) → statement_of (Case k e v) ≡ case (case_kind_of k) (tree_of e) (item_list v.items)
statement_of-Case k e v = ap (case (case_kind_of k) (tree_of e)) (items-row _ (hidden-the_row-CaseItem-1 v) ∙ ap item_list (items_hidden-the_row-CaseItem-1 v))

pub statement_of-Block : (n : Option (Bor (List ℕ))) (v : Vec Statement Global) → statement_of (Block n v) ≡ block (name_of_option n) (statement_list v.items)
statement_of-Block n v = ap (block (name_of_option n)) (statements-row _ (hidden-the_row-Statement-2 v) ∙ ap statement_list (items_hidden-the_row-Statement-2 v))

-- ---- ladders

pub run-arm_before : (s : Scope) (v : Valuation) (c : pure.Expression) (x : pure.Statement) (o : Option pure.Statement)
    → run s (arm_before c x o) v ≡ cond (is_true s v c) (run s x v) (run s (or_empty o) v)
run-arm_before s v c x None = refl
run-arm_before s v c x (Some y) = refl

sound-before : (s : Scope) (c : pure.Expression) (x : pure.Statement) (o : Option pure.Statement) → IsSoundStatement s (arm_before c x o)
    → IsSound s c × IsSoundStatement s x × IsSoundStatement s (or_empty o)
sound-before s c x None h = (h.0, h.1, tt)
sound-before s c x (Some y) h = (h.0, h.1, h.2)

sound-ladder : (s : Scope) (arms : List Arm) (y : Option pure.Statement) → IsSoundStatement s (or_empty (arm_list arms y)) → AreSoundBranches s arms × IsSoundStatement s (or_empty y)
sound-ladder s [] y h = (tt, h)
sound-ladder s (a ∷ arms) y h =
    let p = sound-before s (tree_of a.condition) (statement_of a.statement) (arm_list arms y) h in
    let q = sound-ladder s arms y p.2 in
    ((p.0, p.1, q.0), q.1)

pub sound-If : (s : Scope) (x : Statement) (arms : Vec Arm Global) (last : Option (Box Statement Global)) → x ≡ If arms last → IsSoundStatement s (statement_of x) → AreSoundBranches s arms.items × IsSoundStatement s (or_empty (last_statement last))
sound-If s x arms last is h = sound-ladder s arms.items (last_statement last) (subst (IsSoundStatement s) (ap statement_of is ∙ statement_of-If arms last) h)

pub run-If : (s : Scope) (x : Statement) (arms : Vec Arm Global) (last : Option (Box Statement Global)) → x ≡ If arms last → (items : List Arm) → items ≡ arms.items → (v : Valuation)
    → run s (or_empty (arm_list items (last_statement last))) v ≡ run s (statement_of x) v
run-If s x arms last is items same v = ap (λ z. run s (or_empty (arm_list z (last_statement last))) v) same ∙ sym (ap (λ z. run s z v) (ap statement_of is ∙ statement_of-If arms last))

pub last_sound : (s : Scope) (last : Option (Box Statement Global)) (b : Box Statement Global) → last ≡ Some b → (x : Statement) → x ≡ b.value → IsSoundStatement s (or_empty (last_statement last)) → IsSoundStatement s (statement_of x)
last_sound s last b is x e h = subst (λ z. IsSoundStatement s (statement_of z)) (sym e) (subst (λ z. IsSoundStatement s (or_empty (last_statement z))) is h)

pub last_run : (s : Scope) (last : Option (Box Statement Global)) (b : Box Statement Global) → last ≡ Some b → (x : Statement) → x ≡ b.value → (v : Valuation) → run s (statement_of x) v ≡ run s (or_empty (last_statement last)) v
last_run s last b is x e v = ap (λ z. run s (statement_of z) v) e ∙ sym (ap (λ z. run s (or_empty (last_statement z)) v) is)
