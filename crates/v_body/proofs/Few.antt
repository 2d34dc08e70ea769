-- At most one default, counted one after the other.
use Rattle.std.proofs.Common.{◌≡◌, ℕ, suc, ◌≤◌, length, Bool, true, false, cond, List, [], ◌∷◌, map, Option, Some, None, is_none, refl, sym, ◌∙◌, arith}
use Rattle.std.specs.Prelude.{nat_le}
use Rattle.std.proofs.lemmas.Bool.Decides.{nat_tests}
use Rattle.verilog_trees.specs.Syntax.{Expressions, Statement, CaseItems}
use Rattle.verilog_text.specs.Grammar.{count_defaults}
use Rattle.v_body.specs.Statements.{CaseItem, item_before, as_items, has_few_defaults, are_items_of_case}

one_less : (n : ℕ) → nat_le n 0 ≡ nat_le (suc n) 1
one_less n = grind (arith, nat_tests)

none_left : (n : ℕ) → false ≡ nat_le (suc n) 0
none_left n = grind (arith, nat_tests)

few_step : (o : Option Expressions) (s : Statement) (items : CaseItems) (after now : Bool) → after ≡ nat_le (count_defaults items) 0 → now ≡ nat_le (count_defaults items) 1
    → cond (is_none o) after now ≡ nat_le (count_defaults (item_before o s items)) 1
few_step (Some es) s items after now e f = f
few_step None s items after now e f = e ∙ one_less (count_defaults items)

none_step : (o : Option Expressions) (s : Statement) (items : CaseItems) (now : Bool) → now ≡ nat_le (count_defaults items) 0
    → cond (is_none o) false now ≡ nat_le (count_defaults (item_before o s items)) 0
none_step (Some es) s items now e = e
none_step None s items now e = none_left (count_defaults items)

no_more : (items : List CaseItem) → has_few_defaults true items ≡ nat_le (count_defaults (as_items items)) 0
no_more [] = refl
no_more (i ∷ items) = none_step i.0 i.1 (as_items items) (has_few_defaults true items) (no_more items)

one_at_most : (items : List CaseItem) → has_few_defaults false items ≡ nat_le (count_defaults (as_items items)) 1
one_at_most [] = refl
one_at_most (i ∷ items) = few_step i.0 i.1 (as_items items) (has_few_defaults true items) (has_few_defaults false items) (no_more items) (one_at_most items)

some_items : (o : Option Expressions) (s : Statement) (items : CaseItems) → are_items_of_case (item_before o s items) ≡ nat_le (count_defaults (item_before o s items)) 1
some_items (Some es) s items = refl
some_items None s items = refl

pub few_of_some : (i : CaseItem) (items : List CaseItem) → has_few_defaults false (i ∷ items) ≡ are_items_of_case (as_items (i ∷ items))
few_of_some i items = one_at_most (i ∷ items) ∙ sym (some_items i.0 i.1 (as_items items))

pub few_of_list : {X : Type 0} (f : X → CaseItem) (xs : List X) → 1 ≤ length xs → has_few_defaults false (map f xs) ≡ are_items_of_case (as_items (map f xs))
few_of_list f [] h = absurd (omega (arith, h))
few_of_list f (x ∷ xs) h = few_of_some (f x) (map f xs)
