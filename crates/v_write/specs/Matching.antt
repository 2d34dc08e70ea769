-- What a case compares: the term of its expression, in the context of all its values, and tests of what that is worth.
use Rattle.std.specs.Prelude.{◌≡◌, ◌≤◌, ℕ, max, Bool, false, ◌&&◌, ◌||◌, List, [], ◌∷◌, Option, Some, None}
use Rattle.wb_values.specs.Value.{truth, Valuation}
use Rattle.verilog_trees.specs.Syntax.{Number, Expression, number, name, concatenation, replication, as_signed, as_unsigned, unary, reduction, binary, shift, power, comparison, logical, conditional, Expressions, CaseKind, CaseItems}
use Rattle.verilog_meaning.specs.Expression.{Scope, width_of, sign_of}
use Rattle.verilog_meaning.specs.Statement.{items_width, items_signed, any_matches}
use Rattle.verilog_designs.specs.Expressions.{judged_item}
use Rattle.wb_terms.specs.Graph.{Graph}
use Rattle.wb_terms.specs.declared.nodes.TermId.{TermId}
use Rattle.v_syntax.specs.declared.tree.Expression.{Expression as CodeExpression}
use Rattle.v_syntax.specs.declared.tree.CaseItem.{CaseItem, Values, Default}
use Rattle.v_syntax.specs.Tree.{tree_of, expressions_of, statement_of}
use Rattle.v_value.specs.Narrow.{AreNarrow}
use Rattle.v_operators.specs.Meaning.{Grows, IsOfSort, HasNumber, HasTruth}
use Rattle.v_lower.specs.Lowered.{Images, StandsFor, IsLowered}
use Rattle.v_lower.specs.Walking.{IsSound}
use Rattle.v_write.specs.Guard.{IsGuard}
use Rattle.v_write.specs.Sound.{IsSoundStatement}

-- the number that an expression is, where it is one
abbrev pub plain_number : Expression → Option Number
plain_number (number k) = Some k
plain_number (name n x) = None
plain_number (concatenation es) = None
plain_number (replication c es) = None
plain_number (as_signed e) = None
plain_number (as_unsigned e) = None
plain_number (unary o e) = None
plain_number (reduction o e) = None
plain_number (binary o x y) = None
plain_number (shift o x y) = None
plain_number (power x y) = None
plain_number (comparison o x y) = None
plain_number (logical o x y) = None
plain_number (conditional c x y) = None

-- ---- the context

abbrev pub AreNarrowValues : Scope → CaseItem → Type 0
AreNarrowValues s (Values es x) = AreNarrow s (expressions_of es.items)
AreNarrowValues s (Default x) = Unit {0}

abbrev pub AreValuesNarrow : Scope → List CaseItem → Type 0
AreValuesNarrow s [] = Unit {0}
AreValuesNarrow s (i ∷ items) = AreNarrowValues s i × AreValuesNarrow s items

-- The term is the expression of a case in a context of w bits and this sign, which is that of all its values.
pub record IsSelector (s : Scope) (im : Images) (g : Graph) (e : Expression) (items : CaseItems) (w : ℕ) (t : Bool) (id : ℕ) : Type 0 where
  pub width : w ≡ max (width_of s e) (items_width s items)
  pub sign : t ≡ (sign_of s e && items_signed s items)
  pub lowered : IsLowered s im g e w t id

-- ---- values

-- Sound values that are no wider than the context.
abbrev pub AreComparable : Scope → CaseKind → ℕ → List CodeExpression → Type 0
AreComparable s k w [] = Unit {0}
AreComparable s k w (e ∷ es) = IsSound s (judged_item k (tree_of e)) × (width_of s (tree_of e) ≤ w) × AreComparable s k w es

-- A sound item, whose values are no wider than the context.
abbrev pub IsComparable : Scope → CaseKind → ℕ → CaseItem → Type 0
IsComparable s k w (Values es x) = AreComparable s k w es.items × IsSoundStatement s (statement_of x)
IsComparable s k w (Default x) = IsSoundStatement s (statement_of x)

abbrev pub AreItemsComparable : Scope → CaseKind → ℕ → List CaseItem → Type 0
AreItemsComparable s k w [] = Unit {0}
AreItemsComparable s k w (i ∷ items) = IsComparable s k w i × AreItemsComparable s k w items

-- ---- tests

-- The term of the second store is a truth value: a test of the number of w bits that a term of the first is worth, by the valuation
-- for which the environment stands.
pub record IsTestOf (s : Scope) (im : Images) (g h : Graph) (x w id : ℕ) (test : Valuation → ℕ → Bool) : Type 0 where
  pub of_sort : IsOfSort h id truth
  pub value : (p v : Valuation) (a : ℕ) → StandsFor s im h p v → HasNumber g x w p a → HasTruth h id p (test v a)

-- Under the environment it is b whether one of the tests holds. (There may be none.)
abbrev pub HasAny : Graph → Valuation → Option TermId → Bool → Type 0
HasAny g p None b = b ≡ false
HasAny g p (Some c) b = HasTruth g c.0 p b

-- Of all values some are tested, and the rest is still to come.
pub record IsTesting (s : Scope) (im : Images) (g h : Graph) (x w : ℕ) (k : CaseKind) (t : Bool) (all : Expressions) (tests : Option TermId) (rest : Expressions) : Type 0 where
  pub grows : Grows g h
  pub there : IsGuard h tests
  pub value : (p v : Valuation) (a : ℕ) → StandsFor s im h p v → HasNumber g x w p a
      → (b : Bool) × HasAny h p tests b × ((b || any_matches s v k w t a rest) ≡ any_matches s v k w t a all)
