-- What is written of each form of target and statement is what is printed of it.
use Rattle.std.proofs.Common.{◌≡◌, ◌∙◌, refl, sym, ap, Bool, true, false, List, ◌∷◌, Option, Some, None, ℕ}
use Rattle.std.specs.Prelude.{cond, not, codes}
use Rattle.std.specs.declared.boxed.Box.{Box}
use Rattle.std.specs.declared.vec.Vec.{Vec}
use Rattle.std.specs.declared.alloc.Global.{Global}
use Rattle.std.specs.Borrow.{Bor}
use Rattle.wb_values.specs.Value.{Name}
use Rattle.verilog_text.specs.Token.{Mark, left_parenthesis, right_parenthesis, left_brace, right_brace, semicolon, colon, equals, less_equals, Token, word, mark}
use Rattle.verilog_text.specs.Grammar.{case_word}
use Rattle.verilog_trees.specs.Syntax as pure
use Rattle.v_syntax.specs.declared.tree.Expression.{Expression}
use Rattle.v_syntax.specs.declared.tree.Selects.{Selects}
use Rattle.v_syntax.specs.declared.tree.Target.{Target, Place, Joined}
use Rattle.v_syntax.specs.declared.tree.Statement.{Statement, Empty, Blocking, Nonblocking, If, Case, Block}
use Rattle.v_syntax.specs.declared.tree.Arm.{Arm}
use Rattle.v_syntax.specs.declared.tree.CaseItem.{CaseItem, Values, Default}
use Rattle.v_syntax.specs.declared.tree.CaseKind.{CaseKind}
use Rattle.v_syntax.specs.Tree.{tree_of, selects_of, expressions_of, target_of, statement_of, name_of_option, case_kind_of}
use Rattle.v_print.specs.Spelled.{parted, bare, bare_parts, printed, printed_parts, printed_selects}
use Rattle.v_print.specs.Bodies.{bare_target, bare_targets, colon_if, bare_statement, block_name_before}
use Rattle.v_print_source.specs.Lists.{is_nil, target_list}
use Rattle.v_print_source.specs.Shown.{printed_target, printed_targets, printed_assignment, printed_statement, else_if, arms_front, case_items_front, statements_front, printed_arm, printed_arms, printed_case_item, printed_case_items, printed_statements}
use Rattle.v_print_source.proofs.Rows.{joined_bare, if_bare, alone_bare, case_bare, block_bare}

-- ---- targets

same_target : (t u : Target) → t ≡ u → (r : List Token) → bare_target (target_of u) r ≡ printed_target (target_of t) r
unfolding printed_target
same_target t u is r = ap (λ (y : Target). bare_target (target_of y) r) (sym is)

pub place_arm : (t : Target) (n : Bor (List ℕ)) (s : Selects) → t ≡ Place n s → (r : List Token) → word n.now ∷ printed_selects (selects_of s) r ≡ printed_target (target_of t) r
unfolding printed_selects
place_arm t n s is r = same_target t (Place n s) is r

pub joined_arm : (t : Target) (v : Vec Target Global) (ts : List Target) → t ≡ Joined v → ts ≡ v.items → (r : List Token)
    → mark left_brace ∷ printed_targets false (target_list ts) (mark right_brace ∷ r) ≡ printed_target (target_of t) r
unfolding printed_targets
joined_arm t v ts is items r =
    ap (λ (us : List Target). mark left_brace ∷ bare_targets false (target_list us) (mark right_brace ∷ r)) items
    ∙ sym (joined_bare v r) ∙ same_target t (Joined v) is r

abbrev pub targets_front : Bool → List Target → List Token → List Token
targets_front b ts r = bare_targets b (target_list ts) r

pub one_target : (b : Bool) (t : Target) (ts : List Target) (r : List Token) → targets_front b (t ∷ ts) r ≡ parted b (printed_target (target_of t) (targets_front true ts r))
unfolding printed_target
one_target b t ts r = refl

pub all_targets : (ts : List Target) (r : List Token) → targets_front false ts r ≡ printed_targets false (target_list ts) r
unfolding printed_targets
all_targets ts r = refl

pub assignment_whole : (m : Mark) (t : pure.Target) (e : pure.Expression) (r : List Token) → printed_target t (mark m ∷ printed e r) ≡ printed_assignment m t e r
unfolding printed printed_target printed_assignment
assignment_whole m t e r = refl

-- ---- statements

pub block_named : (o : Option (Bor (List ℕ))) (n : Bor (List ℕ)) → o ≡ Some n → (r : List Token) → mark colon ∷ word n.now ∷ r ≡ block_name_before (name_of_option o) r
block_named o n some r = ap (λ (p : Option (Bor (List ℕ))). block_name_before (name_of_option p) r) (sym some)

pub block_unnamed : (o : Option (Bor (List ℕ))) → o ≡ None → (r : List Token) → r ≡ block_name_before (name_of_option o) r
block_unnamed o none r = ap (λ (p : Option (Bor (List ℕ))). block_name_before (name_of_option p) r) (sym none)

same_statement : (c : Bool) (s t : Statement) → s ≡ t → (r : List Token) → bare_statement c (statement_of t) r ≡ printed_statement c (statement_of s) r
unfolding printed_statement
same_statement c s t is r = ap (λ (y : Statement). bare_statement c (statement_of y) r) (sym is)

pub empty_arm : (c : Bool) (s : Statement) → s ≡ Empty → (r : List Token) → mark semicolon ∷ r ≡ printed_statement c (statement_of s) r
empty_arm c s is r = same_statement c s Empty is r

pub blocking_arm : (c : Bool) (s : Statement) (t : Box Target Global) (e : Expression) → s ≡ Blocking t e → (u : Target) → u ≡ t.value → (r : List Token)
    → printed_assignment equals (target_of u) (tree_of e) (mark semicolon ∷ r) ≡ printed_statement c (statement_of s) r
unfolding printed_assignment
blocking_arm c s t e is u same r = ap (λ z. printed_assignment equals (target_of z) (tree_of e) (mark semicolon ∷ r)) same ∙ same_statement c s (Blocking t e) is r

pub nonblocking_arm : (c : Bool) (s : Statement) (t : Box Target Global) (e : Expression) → s ≡ Nonblocking t e → (u : Target) → u ≡ t.value → (r : List Token)
    → printed_assignment less_equals (target_of u) (tree_of e) (mark semicolon ∷ r) ≡ printed_statement c (statement_of s) r
unfolding printed_assignment
nonblocking_arm c s t e is u same r = ap (λ z. printed_assignment less_equals (target_of z) (tree_of e) (mark semicolon ∷ r)) same ∙ same_statement c s (Nonblocking t e) is r

pub if_arm : (c : Bool) (s : Statement) (v : Vec Arm Global) (o : Option (Box Statement Global)) (b : Box Statement Global) (x : Statement) (arms others : List Arm) → s ≡ If v o → o ≡ Some b → x ≡ b.value
    → arms ≡ v.items → others ≡ v.items → (r : List Token)
    → printed_arms c false arms (else_if (not (is_nil others)) (printed_statement c (statement_of x) r)) ≡ printed_statement c (statement_of s) r
unfolding printed_arms printed_statement
if_arm c s v o b x arms others is some value items again r =
    (λ i. arms_front c false (items i) (else_if (not (is_nil (again i))) (bare_statement c (statement_of (value i)) r)))
    ∙ sym (if_bare c v b r) ∙ same_statement c s (If v (Some b)) (is ∙ ap (If v) some) r

pub alone_arm : (c : Bool) (s : Statement) (v : Vec Arm Global) (o : Option (Box Statement Global)) (arms others : List Arm) → s ≡ If v o → o ≡ None → arms ≡ v.items → others ≡ v.items → (r : List Token)
    → printed_arms c false arms (cond (is_nil others) (mark semicolon ∷ r) r) ≡ printed_statement c (statement_of s) r
unfolding printed_arms
alone_arm c s v o arms others is none items again r =
    (λ i. arms_front c false (items i) (cond (is_nil (again i)) (mark semicolon ∷ r) r))
    ∙ sym (alone_bare c v r) ∙ same_statement c s (If v None) (is ∙ ap (If v) none) r

pub case_arm : (c : Bool) (s : Statement) (k : CaseKind) (e : Expression) (v : Vec CaseItem Global) (w : Name) (items : List CaseItem) → s ≡ Case k e v → w ≡ case_word (case_kind_of k) → items ≡ v.items → (r : List Token)
    → word w ∷ mark left_parenthesis ∷ printed (tree_of e) (mark right_parenthesis ∷ printed_case_items c items (word (codes "endcase") ∷ r)) ≡ printed_statement c (statement_of s) r
unfolding printed printed_case_items
case_arm c s k e v w items is named all r =
    (λ i. word (named i) ∷ mark left_parenthesis ∷ bare (tree_of e) (mark right_parenthesis ∷ case_items_front c (all i) (word (codes "endcase") ∷ r)))
    ∙ sym (case_bare c k e v r) ∙ same_statement c s (Case k e v) is r

pub block_arm : (c : Bool) (s : Statement) (n : Option (Bor (List ℕ))) (v : Vec Statement Global) (ss : List Statement) → s ≡ Block n v → ss ≡ v.items → (r : List Token)
    → word (codes "begin") ∷ block_name_before (name_of_option n) (printed_statements c ss (word (codes "end") ∷ r)) ≡ printed_statement c (statement_of s) r
unfolding printed_statements
block_arm c s n v ss is items r =
    (λ i. word (codes "begin") ∷ block_name_before (name_of_option n) (statements_front c (items i) (word (codes "end") ∷ r)))
    ∙ sym (block_bare c n v r) ∙ same_statement c s (Block n v) is r

pub arm_whole : (c : Bool) (a : Arm) (r : List Token)
    → word (codes "if") ∷ mark left_parenthesis ∷ printed (tree_of a.condition) (mark right_parenthesis ∷ printed_statement c (statement_of a.statement) r) ≡ printed_arm c a r
unfolding printed printed_statement printed_arm
arm_whole c a r = refl

pub one_arm : (c : Bool) (b : Bool) (a : Arm) (arms : List Arm) (r : List Token) → arms_front c b (a ∷ arms) r ≡ else_if b (printed_arm c a (arms_front c true arms r))
unfolding printed_arm
one_arm c b a arms r = refl

pub all_arms : (c : Bool) (arms : List Arm) (r : List Token) → arms_front c false arms r ≡ printed_arms c false arms r
unfolding printed_arms
all_arms c arms r = refl

pub values_arm : (c : Bool) (i : CaseItem) (v : Vec Expression Global) (s : Statement) (es : List Expression) → i ≡ Values v s → es ≡ v.items → (r : List Token)
    → printed_parts false (expressions_of es) (mark colon ∷ printed_statement c (statement_of s) r) ≡ printed_case_item c i r
unfolding printed_parts printed_statement printed_case_item
values_arm c i v s es is items r =
    ap (λ (fs : List Expression). bare_parts false (expressions_of fs) (mark colon ∷ bare_statement c (statement_of s) r)) items
    ∙ ap (λ (j : CaseItem). printed_case_item c j r) (sym is)

pub default_arm : (c : Bool) (i : CaseItem) (s : Statement) → i ≡ Default s → (r : List Token) → word (codes "default") ∷ colon_if c (printed_statement c (statement_of s) r) ≡ printed_case_item c i r
unfolding printed_statement printed_case_item
default_arm c i s is r = ap (λ (j : CaseItem). printed_case_item c j r) (sym is)

-- the state of a loop that has none
abbrev pub case_items_from : Bool → Bool → List CaseItem → List Token → List Token
case_items_from c b items r = case_items_front c items r

pub one_case_item : (c : Bool) (i : CaseItem) (items : List CaseItem) (r : List Token) → case_items_from c true (i ∷ items) r ≡ printed_case_item c i (case_items_from c true items r)
unfolding printed_case_item
one_case_item c i items r = refl

pub all_case_items : (c : Bool) (items : List CaseItem) (r : List Token) → case_items_from c true items r ≡ printed_case_items c items r
unfolding printed_case_items
all_case_items c items r = refl

abbrev pub statements_from : Bool → Bool → List Statement → List Token → List Token
statements_from c b ss r = statements_front c ss r

pub one_statement : (c : Bool) (s : Statement) (ss : List Statement) (r : List Token) → statements_from c true (s ∷ ss) r ≡ printed_statement c (statement_of s) (statements_from c true ss r)
unfolding printed_statement
one_statement c s ss r = refl

pub all_statements : (c : Bool) (ss : List Statement) (r : List Token) → statements_from c true ss r ≡ printed_statements c ss r
unfolding printed_statements
all_statements c ss r = refl
