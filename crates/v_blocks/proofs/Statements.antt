-- Ladders of `if`, statements and items one after the other.
use Rattle.std.proofs.Common.{◌≡◌, ◌∙◌, refl, ap, sym, Bool, true, false, List, [], ◌∷◌, Option, Some, None}
use Rattle.std.specs.Prelude.{◌||◌}
use Rattle.std.specs.declared.boxed.Box.{Box}
use Rattle.std.specs.declared.vec.Vec.{Vec}
use Rattle.std.specs.declared.alloc.Global.{Global}
use Rattle.verilog_trees.specs.Syntax as pure
use Rattle.verilog_trees.specs.Syntax.{empty, if_then, if_else}
use Rattle.v_syntax.specs.declared.tree.Arm.{Arm}
use Rattle.v_syntax.specs.declared.tree.CaseItem.{CaseItem, Values, Default}
use Rattle.v_syntax.specs.declared.tree.Statement.{Statement, If}
use Rattle.v_syntax.specs.Tree.{tree_of, statement_of, arm_before, or_empty}
use Rattle.v_statement.specs.Statements.{arm_list}
use Rattle.v_statement.specs.Effects.{with_item, item_statement}
use Rattle.v_statement.proofs.Runs.{last_statement, statement_of-If}
use Rattle.verilog_designs.specs.Paths.{has_blocking, an_arm_has_blocking, has_nonblocking, an_arm_has_nonblocking}
use Rattle.v_blocks.specs.Arms.{one_arm_has}

or_assoc : (a b c : Bool) → (a || (b || c)) ≡ ((a || b) || c)
or_assoc true b c = refl
or_assoc false b c = refl

pub or_false : (a : Bool) → a ≡ (a || false)
or_false true = refl
or_false false = refl

pub or_is : (o a b x y : Bool) → o ≡ (a || b) → a ≡ x → b ≡ y → o ≡ (x || y)
or_is o a b x y e h g = e ∙ ap (λ t. t || b) h ∙ ap (λ t. x || t) g

-- one part more is looked at
pub turn : (whole found part has rest new : Bool) → whole ≡ (found || (has || rest)) → part ≡ has → new ≡ (found || part) → whole ≡ (new || rest)
turn whole found part has rest new e h g = e ∙ or_assoc found has rest ∙ ap (λ b. b || rest) (ap (λ x. found || x) (sym h) ∙ sym g)

-- what stands in a statement where it stands in one of its branches
record IsOfBranches (has : pure.Statement → Bool) : Type 0 where
  nothing : has empty ≡ false
  one : (c : pure.Expression) (x : pure.Statement) → has (if_then c x) ≡ has x
  two : (c : pure.Expression) (x y : pure.Statement) → has (if_else c x y) ≡ (has x || has y)

before : (has : pure.Statement → Bool) → IsOfBranches has → (c : pure.Expression) (x : pure.Statement) (o : Option pure.Statement) → has (arm_before c x o) ≡ (has x || has (or_empty o))
before has h c x None = h.one c x ∙ or_false (has x) ∙ ap (λ b. has x || b) (sym h.nothing)
before has h c x (Some y) = h.two c x y

ladder : (has : pure.Statement → Bool) → IsOfBranches has → (arms : List Arm) (y : Option pure.Statement) → has (or_empty (arm_list arms y)) ≡ (one_arm_has has arms || has (or_empty y))
ladder has h [] y = refl
ladder has h (a ∷ arms) y =
    before has h (tree_of a.condition) (statement_of a.statement) (arm_list arms y) ∙ ap (λ b. has (statement_of a.statement) || b) (ladder has h arms y)
    ∙ or_assoc (has (statement_of a.statement)) (one_arm_has has arms) (has (or_empty y))

at_if : (has : pure.Statement → Bool) → IsOfBranches has → (x : Statement) (arms : Vec Arm Global) (last o : Option (Box Statement Global)) → x ≡ If arms last → last ≡ o
    → has (statement_of x) ≡ (one_arm_has has arms.items || has (or_empty (last_statement o)))
at_if has h x arms last o is e =
    ap (λ y. has (statement_of y)) is ∙ ap has (statement_of-If arms last) ∙ ladder has h arms.items (last_statement last)
    ∙ ap (λ l. one_arm_has has arms.items || has (or_empty (last_statement l))) e

pub blocking_if : (x : Statement) (arms : Vec Arm Global) (last o : Option (Box Statement Global)) → x ≡ If arms last → last ≡ o
    → has_blocking (statement_of x) ≡ (one_arm_has has_blocking arms.items || has_blocking (or_empty (last_statement o)))
blocking_if = at_if has_blocking (record { nothing = refl; one = λ c x. refl; two = λ c x y. refl })

pub nonblocking_if : (x : Statement) (arms : Vec Arm Global) (last o : Option (Box Statement Global)) → x ≡ If arms last → last ≡ o
    → has_nonblocking (statement_of x) ≡ (one_arm_has has_nonblocking arms.items || has_nonblocking (or_empty (last_statement o)))
nonblocking_if = at_if has_nonblocking (record { nothing = refl; one = λ c x. refl; two = λ c x y. refl })

-- an item of a case before others
pub blocking_item : (i : CaseItem) (items : pure.CaseItems) → an_arm_has_blocking (with_item i items) ≡ (has_blocking (item_statement i) || an_arm_has_blocking items)
blocking_item (Values es x) items = refl
blocking_item (Default x) items = refl

pub nonblocking_item : (i : CaseItem) (items : pure.CaseItems) → an_arm_has_nonblocking (with_item i items) ≡ (has_nonblocking (item_statement i) || an_arm_has_nonblocking items)
nonblocking_item (Values es x) items = refl
nonblocking_item (Default x) items = refl
