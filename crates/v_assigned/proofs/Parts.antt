-- Whether one of several names is wrong, part by part.
use Rattle.std.proofs.Common.{◌≡◌, ◌∙◌, refl, ap, sym, Bool, true, false, List, [], ◌∷◌, ◌++◌, append-nil, Option, Some, None}
use Rattle.std.specs.Prelude.{◌||◌, is_none}
use Rattle.std.specs.List.{list_any}
use Rattle.std.specs.declared.boxed.Box.{Box}
use Rattle.std.specs.declared.vec.Vec.{Vec}
use Rattle.std.specs.declared.alloc.Global.{Global}
use Rattle.std.proofs.lemmas.List.Folds.{list_any-append}
use Rattle.wb_values.specs.Value.{Name}
use Rattle.verilog_trees.specs.Syntax as pure
use Rattle.verilog_meaning.specs.Settled.{wire_assignment}
use Rattle.verilog_designs.specs.Drivers.{target_names, assigned_names, assigned_in_arms}
use Rattle.v_syntax.specs.declared.tree.Arm.{Arm}
use Rattle.v_syntax.specs.declared.tree.CaseItem.{CaseItem, Values, Default}
use Rattle.v_syntax.specs.declared.tree.Expression.{Expression}
use Rattle.v_syntax.specs.declared.tree.Statement.{Statement, If}
use Rattle.v_syntax.specs.Tree.{tree_of, statement_of, arm_before, or_empty}
use Rattle.v_syntax.specs.Source.{boxed_tree_of}
use Rattle.v_statement.specs.Statements.{arm_list}
use Rattle.v_statement.specs.Effects.{with_item, item_statement}
use Rattle.v_statement.proofs.Runs.{last_statement, statement_of-If}
use Rattle.v_assigned.specs.Assigned.{arms_names, one_link_assigns, one_block_assigns}

pub or_false : (a : Bool) → a ≡ (a || false)
or_false true = refl
or_false false = refl

pub or_assoc : (a b c : Bool) → ((a || b) || c) ≡ (a || (b || c))
or_assoc true b c = refl
or_assoc false b c = refl

-- ---- loops

-- one part more is gone past
pub past : (whole has rest found : Bool) → whole ≡ (has || rest) → found ≡ has → found ≡ false → whole ≡ rest
past whole has rest found e h f = e ∙ ap (λ b. b || rest) (sym h ∙ f)

-- one part is so
pub hit : (whole has rest found : Bool) → whole ≡ (has || rest) → found ≡ has → found ≡ true → true ≡ whole
hit whole has rest found e h f = sym (e ∙ ap (λ b. b || rest) (sym h ∙ f))

-- ---- statements

before : (c : pure.Expression) (x : pure.Statement) (o : Option pure.Statement) → assigned_names (arm_before c x o) ≡ assigned_names x ++ assigned_names (or_empty o)
before c x None = sym (append-nil (assigned_names x))
before c x (Some y) = refl

ladder : (p : Name → Bool) (arms : List Arm) (y : Option pure.Statement)
    → list_any p (assigned_names (or_empty (arm_list arms y))) ≡ (list_any p (arms_names arms) || list_any p (assigned_names (or_empty y)))
ladder p [] y = refl
ladder p (a ∷ arms) y =
    let x = statement_of a.statement in
    ap (list_any p) (before (tree_of a.condition) x (arm_list arms y))
    ∙ list_any-append p (assigned_names x) (assigned_names (or_empty (arm_list arms y)))
    ∙ ap (λ b. list_any p (assigned_names x) || b) (ladder p arms y)
    ∙ sym (or_assoc (list_any p (assigned_names x)) (list_any p (arms_names arms)) (list_any p (assigned_names (or_empty y))))
    ∙ ap (λ b. b || list_any p (assigned_names (or_empty y))) (sym (list_any-append p (assigned_names x) (arms_names arms)))

pub at-if : (p : Name → Bool) (x : Statement) (arms : Vec Arm Global) (last o : Option (Box Statement Global)) → x ≡ If arms last → last ≡ o
    → list_any p (assigned_names (statement_of x)) ≡ (list_any p (arms_names arms.items) || list_any p (assigned_names (or_empty (last_statement o))))
at-if p x arms last o is e =
    ap (λ y. list_any p (assigned_names (statement_of y))) is ∙ ap (λ y. list_any p (assigned_names y)) (statement_of-If arms last)
    ∙ ladder p arms.items (last_statement last)
    ∙ ap (λ l. list_any p (arms_names arms.items) || list_any p (assigned_names (or_empty (last_statement l)))) e

item-names : (i : CaseItem) (items : pure.CaseItems) → assigned_in_arms (with_item i items) ≡ assigned_names (item_statement i) ++ assigned_in_arms items
item-names (Values es x) items = refl
item-names (Default x) items = refl

pub at-item : (p : Name → Bool) (i : CaseItem) (items : pure.CaseItems)
    → list_any p (assigned_in_arms (with_item i items)) ≡ (list_any p (assigned_names (item_statement i)) || list_any p (assigned_in_arms items))
at-item p i items = ap (list_any p) (item-names i items) ∙ list_any-append p (assigned_names (item_statement i)) (assigned_in_arms items)

-- ---- continuous assignments

abbrev Links : Type 0
Links = List (pure.Target × pure.Expression)

pub links-append : (p : Name → Bool) (xs ys : Links) → one_link_assigns p (xs ++ ys) ≡ (one_link_assigns p xs || one_link_assigns p ys)
links-append p [] ys = refl
links-append p (x ∷ xs) ys = ap (λ b. list_any p (target_names x.0) || b) (links-append p xs ys)
    ∙ sym (or_assoc (list_any p (target_names x.0)) (one_link_assigns p xs) (one_link_assigns p ys))

pub links-first : (p : Name → Bool) (xs ys : Links) → one_link_assigns p (xs ++ ys) ≡ (one_link_assigns p (xs ++ []) || one_link_assigns p ys)
links-first p xs ys = links-append p xs ys ∙ ap (λ z. one_link_assigns p z || one_link_assigns p ys) (sym (append-nil xs))

pub no-value : (p : Name → Bool) (n : Name) (v : Option (Box Expression Global)) → is_none v ≡ true → false ≡ one_link_assigns p (wire_assignment n (boxed_tree_of v) ++ [])
no-value p n None h = refl
no-value p n (Some e) h = absurd (let c : false ≡ true = h in cc)

pub some-value : (p : Name → Bool) (n : Name) (v : Option (Box Expression Global)) → is_none v ≡ false → p n ≡ one_link_assigns p (wire_assignment n (boxed_tree_of v) ++ [])
some-value p n None h = absurd (let c : true ≡ false = h in cc)
some-value p n (Some e) h = or_false (p n) ∙ or_false (p n || false)

-- ---- blocks

pub blocks-append : (p : Name → Bool) (xs ys : List pure.Statement) → one_block_assigns p (xs ++ ys) ≡ (one_block_assigns p xs || one_block_assigns p ys)
blocks-append p [] ys = refl
blocks-append p (x ∷ xs) ys =
    ap (λ b. list_any p (assigned_names x) || b) (blocks-append p xs ys) ∙ sym (or_assoc (list_any p (assigned_names x)) (one_block_assigns p xs) (one_block_assigns p ys))
