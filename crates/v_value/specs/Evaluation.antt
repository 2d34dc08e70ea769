-- Values of chains, over the lists of their links.
use Rattle.std.specs.Prelude.{◌≡◌, ℕ, ◌+◌, ◌*◌, ◌^◌, ◌≤◌, max, cond, Bool, true, false, ◌&&◌, List, [], ◌∷◌, Option, Some, None, ℤ}
use Rattle.wb_values.specs.Value.{Name, Valuation}
use Rattle.verilog_trees.specs.Syntax as pure
use Rattle.verilog_trees.specs.Syntax.{number}
use Rattle.verilog_meaning.specs.Expression as meaning
use Rattle.verilog_meaning.specs.Expression.{Scope, bit, is_nonzero, integer_from}
use Rattle.v_syntax.specs.declared.tree.PrefixOperator.{PrefixOperator}
use Rattle.v_syntax.specs.declared.tree.BinaryOperator.{BinaryOperator}
use Rattle.v_syntax.specs.declared.tree.TestOperator.{TestOperator}
use Rattle.v_syntax.specs.declared.tree.TestOperator.TheVariants.{Both, Either}
use Rattle.v_syntax.specs.declared.tree.Expression.{Expression}
use Rattle.v_syntax.specs.declared.tree.BinaryLink.{BinaryLink}
use Rattle.v_syntax.specs.declared.tree.TestLink.{TestLink}
use Rattle.v_syntax.specs.declared.tree.Choice.{Choice}
use Rattle.v_syntax.specs.Tree.{tree_of}
use Rattle.v_value.specs.Links.{is_reduction, leaves_to_left}
use Rattle.v_value.specs.Operators.{unary_prefix_value, reduction_prefix_value, outer_value, plain_value, compared_value, joined_truth}

-- The meaning's functions under names that do not unfold by themselves.
unfoldable pub width_at : Scope → pure.Expression → ℕ
width_at s e = meaning.width_of s e

unfoldable pub sign_at : Scope → pure.Expression → Bool
sign_at s e = meaning.sign_of s e

unfoldable pub value_at : Scope → Valuation → pure.Expression → ℕ → Bool → ℕ
value_at s v e w signed = meaning.value_of s v e w signed

unfoldable pub self_at : Scope → Valuation → pure.Expression → ℕ
self_at s v e = meaning.self_value s v e

-- the number of a constant, read where no net or variable has a value: one below 0 counts as 0
unfoldable pub count_at : Scope → pure.Expression → ℕ
count_at s e = meaning.natural_of (meaning.integer_of s meaning.no_values e)

-- a name that stands whole
abbrev pub named_width : Scope → Name → ℕ
named_width s n = meaning.object_width (s n)

abbrev pub named_value : Scope → Valuation → Name → ℕ
named_value s v n = meaning.whole_value (s n) (v n)

-- a name with selects
unfoldable pub selects_width_at : Scope → Name → pure.Selects → ℕ
selects_width_at s n x = meaning.selects_width s (s n) x

unfoldable pub selected_at : Scope → Valuation → Name → pure.Selects → ℕ
selected_at s v n x = meaning.selected s v (s n) (v n) x

unfoldable pub index_at : Scope → Valuation → pure.Select → ℤ
index_at s v x = meaning.select_index s v x

-- the integer that an expression stands for by its own sign, and that of a constant
unfoldable pub integer_self_at : Scope → Valuation → pure.Expression → ℤ
integer_self_at s v e = meaning.integer_of s v e

unfoldable pub bound_at : Scope → pure.Expression → ℤ
bound_at s e = meaning.integer_of s meaning.no_values e

-- the bits that a select takes of an object, and how many these are, which is the same of each object and by all values
unfoldable pub bits_at : Scope → Valuation → meaning.Object → pure.Select → meaning.Bits
bits_at s v o x = meaning.select_bits s v o x

unfoldable pub taken_at : Scope → pure.Select → ℕ
taken_at s x = (meaning.select_bits s meaning.no_values meaning.undeclared x).count

-- Operators before an operand that has the width w and the value x by itself: the width and value of the whole by itself.
abbrev pub run_width : List PrefixOperator → ℕ → ℕ
run_width [] w = w
run_width (o ∷ os) w = cond (is_reduction o) 1 (run_width os w)

abbrev pub step_value : PrefixOperator → ℕ → ℕ → ℕ
step_value o w x = cond (is_reduction o) (bit (reduction_prefix_value o w x)) (unary_prefix_value o w x)

abbrev pub run_value : List PrefixOperator → ℕ → ℕ → ℕ
run_value [] w x = x
run_value (o ∷ os) w x = step_value o (run_width os w) (run_value os w x)

-- The same in a context of width w, where the operand's value in that context is y, and its own width and value are u and x.
abbrev pub prefixes_value : List PrefixOperator → ℕ → ℕ → ℕ → ℕ → ℕ
prefixes_value [] w y u x = y
prefixes_value (o ∷ os) w y u x =
    cond (is_reduction o) (bit (reduction_prefix_value o (run_width os u) (run_value os u x))) (unary_prefix_value o w (prefixes_value os w y u x))

-- an operator on a left operand of value a and a right operand
abbrev pub applied : Scope → Valuation → BinaryOperator → ℕ → Bool → ℕ → pure.Expression → ℕ
applied s v o w signed a y =
    cond (leaves_to_left o) (outer_value o w signed a (sign_at s y) (width_at s y) (self_at s v y)) (plain_value o w signed a (value_at s v y w signed))

abbrev pub links_value : Scope → Valuation → ℕ → Bool → ℕ → List BinaryLink → ℕ
links_value s v w signed a [] = a
links_value s v w signed a (l ∷ ls) = links_value s v w signed (applied s v l.operator w signed a (tree_of l.operand)) ls

-- The operands that are widened with the whole are no wider than w.
abbrev pub IsLinkWithin : Scope → ℕ → BinaryLink → Type 0
IsLinkWithin s w l = leaves_to_left l.operator ≡ false → width_at s (tree_of l.operand) ≤ w

abbrev pub AreLinksWithin : Scope → ℕ → List BinaryLink → Type 0
AreLinksWithin s w [] = Unit {0}
AreLinksWithin s w (l ∷ ls) = IsLinkWithin s w l × AreLinksWithin s w ls

abbrev pub is_logical : TestOperator → Bool
is_logical Both = true
is_logical Either = true
is_logical _ = false

-- What a comparison says of a left operand of width w and sign t, whose value in the context of both is x, and a right operand.
abbrev pub compared_said : Scope → Valuation → TestOperator → ℕ → Bool → ℕ → pure.Expression → Bool
compared_said s v o w t x y =
    let m : ℕ = max w (width_at s y) in
    let u : Bool = t && sign_at s y in
    compared_value o (integer_from u m x) (integer_from u m (value_at s v y m u))

-- what a test says
abbrev pub said : Scope → Valuation → TestOperator → ℕ → Bool → ℕ → pure.Expression → Bool
said s v o w t x y = cond (is_logical o) (joined_truth o (is_nonzero x) (is_nonzero (self_at s v y))) (compared_said s v o w t x y)

-- The value of a chain of tests: each further one has the bit that the last said on its left.
abbrev pub tests_value : Scope → Valuation → ℕ → Bool → ℕ → List TestLink → ℕ
tests_value s v w t x [] = x
tests_value s v w t x (l ∷ ls) = tests_value s v 1 false (bit (said s v l.operator w t x (tree_of l.operand))) ls

-- The context of the first operand, of width own, before tests: the whole's where no test follows.
abbrev pub context_width : Scope → ℕ → List TestLink → ℕ → ℕ
context_width s own [] w = w
context_width s own (l ∷ ls) w = cond (is_logical l.operator) own (max own (width_at s (tree_of l.operand)))

abbrev pub context_sign : Scope → Bool → List TestLink → Bool → Bool
context_sign s own [] t = t
context_sign s own (l ∷ ls) t = cond (is_logical l.operator) own (own && sign_at s (tree_of l.operand))

-- the value after the first true condition
abbrev pub choices_value : Scope → Valuation → List Choice → ℕ → Bool → Option ℕ
choices_value s v [] w signed = None
choices_value s v (c ∷ cs) w signed =
    cond (is_nonzero (self_at s v (tree_of c.condition))) (Some (value_at s v (tree_of c.value) w signed)) (choices_value s v cs w signed)

abbrev pub AreChoicesWithin : Scope → ℕ → List Choice → Type 0
AreChoicesWithin s w [] = Unit {0}
AreChoicesWithin s w (c ∷ cs) = (width_at s (tree_of c.value) ≤ w) × AreChoicesWithin s w cs

-- parts side by side
abbrev pub parts_width : Scope → List Expression → ℕ
parts_width s [] = 0
parts_width s (e ∷ es) = width_at s (tree_of e) + parts_width s es

abbrev pub parts_value : Scope → Valuation → List Expression → ℕ
parts_value s v [] = 0
parts_value s v (e ∷ es) = self_at s v (tree_of e) * 2 ^ parts_width s es + parts_value s v es
