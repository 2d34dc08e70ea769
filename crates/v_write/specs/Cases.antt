-- What the items of a case do, and which is the default.
use Rattle.std.specs.Prelude.{ℕ, ◌+◌, Bool, cond, List, [], ◌∷◌, Option, Some}
use Rattle.wb_values.specs.Value.{Valuation}
use Rattle.verilog_trees.specs.Syntax.{CaseKind, Statement}
use Rattle.verilog_meaning.specs.Expression.{Scope}
use Rattle.verilog_meaning.specs.Statement.{Effect, run, any_matches}
use Rattle.v_syntax.specs.declared.tree.CaseItem.{CaseItem, Values, Default}
use Rattle.v_syntax.specs.Tree.{expressions_of, statement_of}

-- An item before what is done where it does not match; a default does nothing here.
abbrev pub item_effect : Scope → CaseKind → ℕ → Bool → ℕ → CaseItem → Valuation → Effect → Effect
item_effect s k w t a (Values es x) v rest = cond (any_matches s v k w t a (expressions_of es.items)) (run s (statement_of x) v) rest
item_effect s k w t a (Default x) v rest = rest

abbrev pub items_effect : Scope → CaseKind → ℕ → Bool → ℕ → List CaseItem → Valuation → Effect → Effect
items_effect s k w t a [] v rest = rest
items_effect s k w t a (i ∷ items) v rest = item_effect s k w t a i v (items_effect s k w t a items v rest)

-- The index of the last default, where the first of these items has index j and d is the default so far.
abbrev pub default_or : ℕ → CaseItem → Option ℕ → Option ℕ
default_or j (Values es x) d = d
default_or j (Default x) d = Some j

abbrev pub default_from : ℕ → List CaseItem → Option ℕ → Option ℕ
default_from j [] d = d
default_from j (i ∷ items) d = default_from (j + 1) items (default_or j i d)

-- the statement of an item
abbrev pub item_statement : CaseItem → Statement
item_statement (Values es x) = statement_of x
item_statement (Default x) = statement_of x
