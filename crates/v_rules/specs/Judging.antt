-- What the rules say of expressions, under names that do not unfold by themselves, and of the values of an item of a case.
use Rattle.std.specs.Prelude.{Bool, true, false, cond, not, ◌&&◌, List, [], ◌∷◌, Option, Some, None}
use Rattle.verilog_trees.specs.Syntax.{Number, Expression, number, name, concatenation, replication, as_signed, as_unsigned, unary, reduction, binary, shift, power, comparison, logical, conditional, CaseKind, exact_case, wild_case, Range}
use Rattle.verilog_meaning.specs.Expression.{Scope}
use Rattle.verilog_rules.specs.Expression as rules
use Rattle.verilog_designs.specs.Expressions as designs
use Rattle.v_syntax.specs.declared.tree.Expression.{Expression as CodeExpression}
use Rattle.v_syntax.specs.Tree.{tree_of}
use Rattle.v_size.specs.declared.rule.Broken.{Broken}
use Rattle.v_size.specs.Rule.{coded, both}

abbrev pub none : Broken
none = coded rules.nothing

unfoldable pub broken_at : Scope → Expression → Broken
broken_at s e = coded (rules.broken s rules.anywhere e)

unfoldable pub bound_at : Scope → Expression → Broken
bound_at s e = coded (designs.broken_bound s e)

abbrev pub range_at : Scope → Option Range → Broken
range_at s None = none
range_at s (Some r) = both (bound_at s r.left) (bound_at s r.right)

-- ---- items of a case

-- the number that an expression is as a whole
abbrev pub number_in : Expression → Option Number
number_in (number k) = Some k
number_in (name n x) = None
number_in (concatenation es) = None
number_in (replication k es) = None
number_in (as_signed x) = None
number_in (as_unsigned x) = None
number_in (unary op x) = None
number_in (reduction op x) = None
number_in (binary op x y) = None
number_in (shift op x n) = None
number_in (power x n) = None
number_in (comparison op x y) = None
number_in (logical op x y) = None
number_in (conditional c x y) = None

abbrev pub are_none : {X : Type 0} → List X → Bool
are_none [] = true
are_none (x ∷ xs) = false

abbrev pub number_alone : Bool → Option Number → Option Number
number_alone alone k = cond alone k None

-- wild digits in a number without size, or with s
abbrev pub has_wrong_wild : Number → Bool
has_wrong_wild k = k.has_wild && not (k.sized && not k.signed)

abbrev pub judged_number : CaseKind → Number → Number
judged_number exact_case k = k
judged_number wild_case k = record k { has_wild = has_wrong_wild k }

unfoldable pub value_at : Scope → CaseKind → Expression → Broken
value_at s kind e = coded (designs.broken_item s kind e)

-- values after others
abbrev pub values_from : Scope → CaseKind → Broken → List CodeExpression → Broken
values_from s kind a [] = a
values_from s kind a (e ∷ es) = values_from s kind (both a (value_at s kind (tree_of e))) es
