-- The turns of the reader's loops, and its levels.
use Rattle.std.proofs.Common.{◌≡◌, ℕ, zero, suc, ◌<◌, ◌-◌, List, [], ◌∷◌, Option, Some, None, true, refl, sym, ap, ◌∙◌, arith}
use Rattle.std.specs.Prelude.{codes}
use Rattle.wb_values.specs.Value.{Name}
use Rattle.verilog_text.specs.Token.{Mark, Token}
use Rattle.verilog_trees.specs.Syntax as tree
use Rattle.verilog_trees.specs.Syntax.{Expression, CaseKind, Statement}
use Rattle.v_expr.specs.Repeat.{Read, repeated}
use Rattle.v_expr.specs.Reading.{after_mark}
use Rattle.v_expr.specs.View.{Fails}
use Rattle.v_expr.specs.declared.stop.ExpressionStop.{ExpressionStop}
use Rattle.v_expr.specs.declared.stop.ExpressionStop.TheVariants.{NoMemory, Refused}
use Rattle.v_expr.proofs.Repeat.{some, with_front, with_nothing, is_lost}
use Rattle.v_body.specs.Words.{after_word, behind_comma, listed_at}
use Rattle.v_body.specs.Targets.{outer_target_at, target_in}
use Rattle.v_body.specs.Statements.{Reader, CaseItem, condition_at, item_at, items_at, as_items, are_items_of_case, case_at, as_statements, block_name_at, block_at, outer_statement_at, statement_in}

-- a turn fails
pub fails : {S A : Type 0} (stop : List S → Option (List S)) (one : List S → Read S A) (e : ExpressionStop) (front : List A) (ts : List S) (total : Read S (List A))
    → stop ts ≡ None → Fails e (one ts) → with_front front (repeated stop one ts) ≡ total → Fails e total
fails stop one NoMemory front ts total at_stop at_one so_far = tt
fails stop one (Refused left) front ts total at_stop at_one so_far = is_lost stop one front ts total at_stop at_one so_far

-- the first of a list was read
pub first_read : {A : Type 0} (m : Mark) (one : List Token → Read Token A) (x : A) (ts rest : List Token) → one ts ≡ Some (x, rest)
    → with_front (x ∷ []) (repeated (after_mark m) (behind_comma one) rest) ≡ listed_at m one ts
unfolding listed_at
first_read m one x ts rest e = rw e refl

pub no_target_level : (d : ℕ) (ts : List Token) → d ≡ 0 → target_in d ts ≡ None
unfolding target_in
no_target_level zero ts e = refl
no_target_level (suc d) ts e = absurd (omega (arith, e))

pub target_level : (d : ℕ) (ts : List Token) → 0 < d → target_in d ts ≡ outer_target_at (target_in (d - 1)) ts
unfolding target_in
target_level zero ts h = absurd (omega (arith, h))
target_level (suc d) ts h = let e : d ≡ suc d - 1 = omega arith in ap (λ (k : ℕ). outer_target_at (target_in k) ts) e

pub target_level_fails : (e : ExpressionStop) (d : ℕ) (ts : List Token) → 0 < d → Fails e (outer_target_at (target_in (d - 1)) ts) → Fails e (target_in d ts)
target_level_fails NoMemory d ts h f = tt
target_level_fails (Refused left) d ts h f = target_level d ts h ∙ f

-- nothing was read yet
pub starts : {S A : Type 0} (stop : List S → Option (List S)) (one : List S → Read S A) (front : List A) (ts us : List S) → front ≡ [] → ts ≡ us → with_front front (repeated stop one ts) ≡ repeated stop one us
starts {A = A} stop one front ts us e f = ap (λ (xs : List A). with_front xs (repeated stop one ts)) e ∙ with_nothing stop one ts ∙ ap (repeated stop one) f

pub items_start : (one : Reader) (front : List CaseItem) (ts us : List Token) → front ≡ [] → ts ≡ us → with_front front (repeated (after_word (codes "endcase")) (item_at one) ts) ≡ items_at one us
unfolding items_at
items_start one front ts us e f = starts (after_word (codes "endcase")) (item_at one) front ts us e f

pub no_statement_level : (d : ℕ) (ts : List Token) → d ≡ 0 → statement_in d ts ≡ None
unfolding statement_in
no_statement_level zero ts e = refl
no_statement_level (suc d) ts e = absurd (omega (arith, e))

pub statement_level : (d : ℕ) (ts : List Token) → 0 < d → statement_in d ts ≡ outer_statement_at (statement_in (d - 1)) ts
unfolding statement_in
statement_level zero ts h = absurd (omega (arith, h))
statement_level (suc d) ts h = let e : d ≡ suc d - 1 = omega arith in ap (λ (k : ℕ). outer_statement_at (statement_in k) ts) e

pub statement_level_fails : (e : ExpressionStop) (d : ℕ) (ts : List Token) → 0 < d → Fails e (outer_statement_at (statement_in (d - 1)) ts) → Fails e (statement_in d ts)
statement_level_fails NoMemory d ts h f = tt
statement_level_fails (Refused left) d ts h f = statement_level d ts h ∙ f

pub block_read : (one : Reader) (ts rest more : List Token) (n : Option Name) (ss : List Statement) (s : Statement) → block_name_at ts ≡ Some (n, rest) → repeated (after_word (codes "end")) one rest ≡ Some (ss, more)
    → s ≡ tree.block n (as_statements ss) → block_at one ts ≡ Some (s, more)
unfolding block_at
block_read one ts rest more n ss s e f g =
    let here : block_at one ts ≡ Some (tree.block n (as_statements ss), more) = rw (e, f) refl in
    here ∙ ap (λ (t : Statement). some (t, more)) (sym g)

pub case_read : (one : Reader) (k : CaseKind) (ts rest more : List Token) (e : Expression) (items : List CaseItem) (s : Statement) → condition_at ts ≡ Some (e, rest) → items_at one rest ≡ Some (items, more)
    → are_items_of_case (as_items items) ≡ true → s ≡ tree.case k e (as_items items) → case_at one k ts ≡ Some (s, more)
unfolding case_at
case_read one k ts rest more e items s c i few g =
    let here : case_at one k ts ≡ Some (tree.case k e (as_items items), more) = rw (c, i, few) refl in
    here ∙ ap (λ (t : Statement). some (t, more)) (sym g)
