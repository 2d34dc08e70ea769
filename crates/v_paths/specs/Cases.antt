-- Which cases are full, over the lists of the code's trees.
use Rattle.std.specs.Prelude.{ℕ, zero, suc, ◌^◌, max, Bool, true, false, ◌&&◌, ◌||◌, ◌==◌, nat_le, List, [], ◌∷◌}
use Rattle.std.specs.BTreeSet.{BTreeSet, contains}
use Rattle.std.specs.Ordering.{nat_cmp}
use Rattle.verilog_trees.specs.Syntax as pure
use Rattle.verilog_meaning.specs.Expression.{Scope, width_of, sign_of, value_of, no_values}
use Rattle.verilog_meaning.specs.Statement.{greatest_width, all_signed, items_width, items_signed}
use Rattle.verilog_meaning.specs.Register.{is_constant}
use Rattle.verilog_designs.specs.Reads.{items_have_all, is_full}
use Rattle.v_syntax.specs.declared.tree.Expression.{Expression}
use Rattle.v_syntax.specs.declared.tree.CaseItem.{CaseItem, Values, Default}
use Rattle.v_syntax.specs.Tree.{tree_of, expressions_of}

-- The names that do not unfold by themselves say what the definitions say.
unfoldable pub full_at : Scope → pure.CaseKind → pure.Expression → pure.CaseItems → Bool
full_at s kind e items = is_full s kind e items

-- the width and the sign to which the expression and all items are widened
abbrev pub case_width : Scope → pure.Expression → pure.CaseItems → ℕ
case_width s e items = max (width_of s e) (items_width s items)

abbrev pub case_signed : Scope → pure.Expression → pure.CaseItems → Bool
case_signed s e items = sign_of s e && items_signed s items

-- The width is at most 8, and constant items have all values of it.
unfoldable pub values_at : Scope → pure.Expression → pure.CaseItems → Bool
values_at s e items =
    nat_le (case_width s e items) 8
    && items_have_all s (case_width s e items) (case_signed s e items) (2 ^ case_width s e items) items

-- the label is constant, and widened so has the value x
unfoldable pub label_is : Scope → ℕ → Bool → ℕ → pure.Expression → Bool
label_is s w signed x e = is_constant s e && (value_of s no_values e w signed == x)

abbrev pub one_label_is : Scope → ℕ → Bool → ℕ → List Expression → Bool
one_label_is s w signed x [] = false
one_label_is s w signed x (e ∷ es) = label_is s w signed x (tree_of e) || one_label_is s w signed x es

abbrev pub item_has : Scope → ℕ → Bool → ℕ → CaseItem → Bool
item_has s w signed x (Values es y) = one_label_is s w signed x es.items
item_has s w signed x (Default y) = false

abbrev pub one_item_has : Scope → ℕ → Bool → ℕ → List CaseItem → Bool
one_item_has s w signed x [] = false
one_item_has s w signed x (i ∷ items) = item_has s w signed x i || one_item_has s w signed x items

-- the greatest width of an item's labels, and whether all of them are signed
abbrev pub label_width : Scope → CaseItem → ℕ
label_width s (Values es y) = greatest_width s (expressions_of es.items)
label_width s (Default y) = 0

abbrev pub label_signed : Scope → CaseItem → Bool
label_signed s (Values es y) = all_signed s (expressions_of es.items)
label_signed s (Default y) = true

-- the numbers of a set
abbrev pub has_number : BTreeSet ℕ → ℕ → Bool
has_number t x = contains nat_cmp t x

-- all numbers below this one are so
abbrev pub all_below : (ℕ → Bool) → ℕ → Bool
all_below is zero = true
all_below is (suc n) = is n && all_below is n
