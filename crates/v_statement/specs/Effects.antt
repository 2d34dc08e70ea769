-- What runs of statements leave, over the code's values and the lists of a statement's parts.
use Rattle.std.specs.Prelude.{ℕ, ◌+◌, max, ◌&&◌, Bool, cond, List, [], ◌∷◌, Option, Some, None}
use Rattle.wb_values.specs.Value.{Valuation}
use Rattle.verilog_trees.specs.Syntax as pure
use Rattle.verilog_trees.specs.Syntax.{CaseKind, no_items, arm, default_arm}
use Rattle.verilog_meaning.specs.Expression.{Scope, width_of, sign_of, value_of, is_true}
use Rattle.verilog_meaning.specs.Statement.{Effect, unchanged, run, any_matches, items_width, items_signed}
use Rattle.v_value.specs.declared.scope.Values.{Values}
use Rattle.v_statement.specs.declared.place.Update.{Update as CodeUpdate}
use Rattle.v_syntax.specs.declared.tree.Arm.{Arm}
use Rattle.v_syntax.specs.declared.tree.CaseItem.{CaseItem, Values as ValuesOf, Default}
use Rattle.v_value.specs.Scope.{valuation_at}
use Rattle.v_syntax.specs.Tree.{tree_of, statement_of, expressions_of}
use Rattle.v_statement.specs.Places.{updates_of}
use Rattle.v_value.specs.Narrow.{IsNarrow, AreNarrow}
use Rattle.v_statement.specs.Statements.{IsNarrowStatement}

-- values with the updates that wait
abbrev pub effect_at : Values → List CodeUpdate → Effect
effect_at vs us = record { valuation = valuation_at vs.entries.items; updates = updates_of us }

-- the statement of the first arm whose condition is true
abbrev pub first_true : Scope → Valuation → List Arm → Option pure.Statement
first_true s v [] = None
first_true s v (a ∷ arms) = cond (is_true s v (tree_of a.condition)) (Some (statement_of a.statement)) (first_true s v arms)

-- a run of a statement, if there is one
abbrev pub run_if_any : Scope → Option pure.Statement → Valuation → Effect
run_if_any s None v = unchanged v
run_if_any s (Some x) v = run s x v

abbrev pub AreNarrowArms : Scope → List Arm → Type 0
AreNarrowArms s [] = Unit {0}
AreNarrowArms s (a ∷ arms) = IsNarrow s (tree_of a.condition) × IsNarrowStatement s (statement_of a.statement) × AreNarrowArms s arms

-- the items of a case, over a plain list
abbrev pub with_item : CaseItem → pure.CaseItems → pure.CaseItems
with_item (ValuesOf es x) items = arm (expressions_of es.items) (statement_of x) items
with_item (Default x) items = default_arm (statement_of x) items

abbrev pub item_list : List CaseItem → pure.CaseItems
item_list [] = no_items
item_list (i ∷ items) = with_item i (item_list items)

-- The index of the item that is run, where the first of these items has index k and d is the default so far.
abbrev pub match_or : Scope → Valuation → CaseKind → ℕ → Bool → ℕ → ℕ → CaseItem → Option ℕ → (Option ℕ → Option ℕ) → Option ℕ
match_or s v kind w signed x k (ValuesOf es y) d later = cond (any_matches s v kind w signed x (expressions_of es.items)) (Some k) (later d)
match_or s v kind w signed x k (Default y) d later = later (Some k)

abbrev pub matching_from : Scope → Valuation → CaseKind → ℕ → Bool → ℕ → ℕ → List CaseItem → Option ℕ → Option ℕ
matching_from s v kind w signed x k [] d = d
matching_from s v kind w signed x k (i ∷ items) d = match_or s v kind w signed x k i d (λ e. matching_from s v kind w signed x (k + 1) items e)

-- the statement of an item
abbrev pub item_statement : CaseItem → pure.Statement
item_statement (ValuesOf es x) = statement_of x
item_statement (Default x) = statement_of x

abbrev pub AreNarrowValues : Scope → CaseItem → Type 0
AreNarrowValues s (ValuesOf es x) = AreNarrow s (expressions_of es.items)
AreNarrowValues s (Default x) = Unit {0}

abbrev pub AreValuesNarrow : Scope → List CaseItem → Type 0
AreValuesNarrow s [] = Unit {0}
AreValuesNarrow s (i ∷ items) = AreNarrowValues s i × AreValuesNarrow s items

-- the index of the item of a case that is run
abbrev pub chosen_item : Scope → Valuation → CaseKind → pure.Expression → List CaseItem → Option ℕ
chosen_item s v kind e items =
    let w : ℕ = max (width_of s e) (items_width s (item_list items)) in
    let signed : Bool = sign_of s e && items_signed s (item_list items) in
    matching_from s v kind w signed (value_of s v e w signed) 0 items None
