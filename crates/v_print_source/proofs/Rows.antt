-- The printed tokens of targets and statements, over the lists of their parts.
use Rattle.std.proofs.Common.{◌≡◌, ◌∙◌, refl, ap, Bool, true, false, List, [], ◌∷◌, Option, Some, None, ℕ}
use Rattle.std.specs.Prelude.{cond, not, codes}
use Rattle.std.specs.declared.boxed.Box.{Box}
use Rattle.std.specs.declared.vec.Vec.{Vec}
use Rattle.std.specs.declared.alloc.Global.{Global}
use Rattle.std.specs.Borrow.{Bor}
use Rattle.verilog_text.specs.Token.{left_parenthesis, right_parenthesis, semicolon, Token, word, mark}
use Rattle.verilog_text.specs.Grammar.{case_word}
use Rattle.verilog_trees.specs.Syntax as pure
use Rattle.v_syntax.specs.declared.tree.Target.{Target, Joined, Row_of-Target, end_of-Target, more_of-Target, items-the_row-Target, items_hidden-the_row-Target-0}
use Rattle.v_syntax.specs.declared.tree.Target.TheBlock.{hidden-the_row-Target-0}
use Rattle.v_syntax.specs.declared.tree.Statement.{Statement, If, Case, Block, Row_of-Arm, end_of-Arm, more_of-Arm, items-the_row-Arm, items_hidden-the_row-Arm-0, Row_of-CaseItem, end_of-CaseItem, more_of-CaseItem, items-the_row-CaseItem, items_hidden-the_row-CaseItem-1, Row_of-Statement, end_of-Statement, more_of-Statement, items-the_row-Statement, items_hidden-the_row-Statement-2}
use Rattle.v_syntax.specs.declared.tree.CaseItem.TheBlock.{hidden-the_row-Arm-0, hidden-the_row-CaseItem-1, hidden-the_row-Statement-2}
use Rattle.v_syntax.specs.declared.tree.Arm.{Arm}
use Rattle.v_syntax.specs.declared.tree.CaseItem.{CaseItem, Values, Default}
use Rattle.v_syntax.specs.declared.tree.CaseKind.{CaseKind}
use Rattle.v_syntax.specs.declared.tree.Expression.{Expression}
use Rattle.v_syntax.specs.Tree.{tree_of, target_of, targets_of, statement_of, arms_before, statements_of, items_of, arm_before, or_empty, name_of_option, case_kind_of}
use Rattle.v_print.specs.Spelled.{bare}
use Rattle.v_print.specs.Bodies.{bare_target, bare_statement, bare_statements, bare_items, block_name_before}
use Rattle.v_print_source.specs.Lists.{is_nil, target_list}
use Rattle.v_print_source.specs.Shown.{else_if, arms_front, case_item_front, case_items_front, statements_front}
use mathlib.Core.Former as Former

-- ---- targets

targets-row : (n : Former.Count) (k : Row_of-Target n) → targets_of k ≡ target_list (items-the_row-Target n k)
targets-row n end_of-Target = refl
targets-row n (more_of-Target t k) = ap (pure.target (target_of t)) (targets-row _ k)

pub joined_bare : (v : Vec Target Global) (r : List Token) → bare_target (target_of (Joined v)) r ≡ bare_target (pure.joined (target_list v.items)) r
joined_bare v r = ap (λ (ts : pure.Targets). bare_target (pure.joined ts) r) (targets-row _ (hidden-the_row-Target-0 v) ∙ ap target_list (items_hidden-the_row-Target-0 v))

-- ---- ladders of if

-- arms before what stands behind their last else
abbrev ladder : List Arm → Option pure.Statement → Option pure.Statement
ladder [] y = y
ladder (a ∷ arms) y = Some (arm_before (tree_of a.condition) (statement_of a.statement) (ladder arms y))

arms-row : (n : Former.Count) (k : Row_of-Arm n) (y : Option pure.Statement) → arms_before k y ≡ ladder (items-the_row-Arm n k) y
arms-row n end_of-Arm y = refl
arms-row n (more_of-Arm e x k) y = ap (λ (o : Option pure.Statement). Some (arm_before (tree_of e) (statement_of x) o)) (arms-row _ k y)

-- else and what stands behind it
abbrev else_before : Bool → Option pure.Statement → List Token → List Token
else_before c None r = r
else_before c (Some s) r = word (codes "else") ∷ bare_statement c s r

arm_bare : (c : Bool) (e : pure.Expression) (x : pure.Statement) (o : Option pure.Statement) (r : List Token)
    → bare_statement c (arm_before e x o) r ≡ word (codes "if") ∷ mark left_parenthesis ∷ bare e (mark right_parenthesis ∷ bare_statement c x (else_before c o r))
arm_bare c e x None r = refl
arm_bare c e x (Some s) r = refl

one_arm : (c : Bool) (a : Arm) (o : Option pure.Statement) (q r : List Token) → else_before c o r ≡ q
    → bare_statement c (arm_before (tree_of a.condition) (statement_of a.statement) o) r ≡ word (codes "if") ∷ mark left_parenthesis ∷ bare (tree_of a.condition) (mark right_parenthesis ∷ bare_statement c (statement_of a.statement) q)
one_arm c a o q r e =
    arm_bare c (tree_of a.condition) (statement_of a.statement) o r
    ∙ ap (λ (p : List Token). word (codes "if") ∷ mark left_parenthesis ∷ bare (tree_of a.condition) (mark right_parenthesis ∷ bare_statement c (statement_of a.statement) p)) e

more_arms : (c : Bool) (arms : List Arm) (y : Option pure.Statement) (r : List Token) → else_before c (ladder arms y) r ≡ arms_front c true arms (else_before c y r)
more_arms c [] y r = refl
more_arms c (a ∷ arms) y r = ap (λ (p : List Token). word (codes "else") ∷ p) (one_arm c a (ladder arms y) (arms_front c true arms (else_before c y r)) r (more_arms c arms y r))

some_bare : (c : Bool) (arms : List Arm) (s : pure.Statement) (r : List Token) → bare_statement c (or_empty (ladder arms (Some s))) r ≡ arms_front c false arms (else_if (not (is_nil arms)) (bare_statement c s r))
some_bare c [] s r = refl
some_bare c (a ∷ arms) s r = one_arm c a (ladder arms (Some s)) (arms_front c true arms (else_before c (Some s) r)) r (more_arms c arms (Some s) r)

none_bare : (c : Bool) (arms : List Arm) (r : List Token) → bare_statement c (or_empty (ladder arms None)) r ≡ arms_front c false arms (cond (is_nil arms) (mark semicolon ∷ r) r)
none_bare c [] r = refl
none_bare c (a ∷ arms) r = one_arm c a (ladder arms None) (arms_front c true arms r) r (more_arms c arms None r)

pub if_bare : (c : Bool) (v : Vec Arm Global) (b : Box Statement Global) (r : List Token)
    → bare_statement c (statement_of (If v (Some b))) r ≡ arms_front c false v.items (else_if (not (is_nil v.items)) (bare_statement c (statement_of b.value) r))
if_bare c v b r =
    ap (λ (o : Option pure.Statement). bare_statement c (or_empty o) r)
    (arms-row _ (hidden-the_row-Arm-0 v) (Some (statement_of b.value)) ∙ ap (λ (arms : List Arm). ladder arms (Some (statement_of b.value))) (items_hidden-the_row-Arm-0 v))
    ∙ some_bare c v.items (statement_of b.value) r

pub alone_bare : (c : Bool) (v : Vec Arm Global) (r : List Token) → bare_statement c (statement_of (If v None)) r ≡ arms_front c false v.items (cond (is_nil v.items) (mark semicolon ∷ r) r)
alone_bare c v r =
    ap (λ (o : Option pure.Statement). bare_statement c (or_empty o) r)
    (arms-row _ (hidden-the_row-Arm-0 v) None ∙ ap (λ (arms : List Arm). ladder arms None) (items_hidden-the_row-Arm-0 v))
    ∙ none_bare c v.items r

-- ---- cases and blocks

items-row : (c : Bool) (n : Former.Count) (k : Row_of-CaseItem n) (r : List Token) → bare_items c (items_of k) r ≡ case_items_front c (items-the_row-CaseItem n k) r
items-row c n end_of-CaseItem r = refl
items-row c n (more_of-CaseItem (Values es x) k) r = ap (case_item_front c (Values es x)) (items-row c _ k r)
items-row c n (more_of-CaseItem (Default x) k) r = ap (case_item_front c (Default x)) (items-row c _ k r)

statements-row : (c : Bool) (n : Former.Count) (k : Row_of-Statement n) (r : List Token) → bare_statements c (statements_of k) r ≡ statements_front c (items-the_row-Statement n k) r
statements-row c n end_of-Statement r = refl
statements-row c n (more_of-Statement x k) r = ap (bare_statement c (statement_of x)) (statements-row c _ k r)

pub case_bare : (c : Bool) (k : CaseKind) (e : Expression) (v : Vec CaseItem Global) (r : List Token)
    → bare_statement c (statement_of (Case k e v)) r
    ≡ word (case_word (case_kind_of k)) ∷ mark left_parenthesis ∷ bare (tree_of e) (mark right_parenthesis ∷ case_items_front c v.items (word (codes "endcase") ∷ r))
case_bare c k e v r =
    ap (λ (q : List Token). word (case_word (case_kind_of k)) ∷ mark left_parenthesis ∷ bare (tree_of e) (mark right_parenthesis ∷ q))
    (items-row c _ (hidden-the_row-CaseItem-1 v) (word (codes "endcase") ∷ r)
    ∙ ap (λ (items : List CaseItem). case_items_front c items (word (codes "endcase") ∷ r)) (items_hidden-the_row-CaseItem-1 v))

pub block_bare : (c : Bool) (n : Option (Bor (List ℕ))) (v : Vec Statement Global) (r : List Token)
    → bare_statement c (statement_of (Block n v)) r ≡ word (codes "begin") ∷ block_name_before (name_of_option n) (statements_front c v.items (word (codes "end") ∷ r))
block_bare c n v r =
    ap (λ (q : List Token). word (codes "begin") ∷ block_name_before (name_of_option n) q)
    (statements-row c _ (hidden-the_row-Statement-2 v) (word (codes "end") ∷ r)
    ∙ ap (λ (ss : List Statement). statements_front c ss (word (codes "end") ∷ r)) (items_hidden-the_row-Statement-2 v))
