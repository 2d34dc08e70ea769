-- Signs and widths of chains of operators, over the lists of their links.
use Rattle.std.specs.Prelude.{ℕ, max, cond, Bool, true, false, ◌&&◌, ◌||◌, List, [], ◌∷◌}
use Rattle.verilog_meaning.specs.Expression as meaning
use Rattle.v_syntax.specs.declared.tree.PrefixOperator.{PrefixOperator}
use Rattle.v_syntax.specs.declared.tree.PrefixOperator.TheVariants.{Plus, Minus, Complement}
use Rattle.v_syntax.specs.declared.tree.BinaryOperator.{BinaryOperator}
use Rattle.v_syntax.specs.declared.tree.BinaryOperator.TheVariants.{Power, ShiftLeft, ShiftRight, ArithmeticShiftRight}
use Rattle.v_syntax.specs.declared.tree.BinaryLink.{BinaryLink}
use Rattle.v_syntax.specs.declared.tree.TestLink.{TestLink}
use Rattle.v_syntax.specs.declared.tree.Choice.{Choice}
use Rattle.v_syntax.specs.Tree.{tree_of}
use Rattle.v_value.specs.Narrow.{IsNarrow}

-- the operator makes one bit of a whole operand
abbrev pub is_reduction : PrefixOperator → Bool
is_reduction Plus = false
is_reduction Minus = false
is_reduction Complement = false
is_reduction _ = true

abbrev pub has_reduction : List PrefixOperator → Bool
has_reduction [] = false
has_reduction (o ∷ os) = is_reduction o || has_reduction os

abbrev pub has_no_link : List TestLink → Bool
has_no_link [] = true
has_no_link _ = false

-- ** and the shifts have the sign and the width of their left operand.
abbrev pub leaves_to_left : BinaryOperator → Bool
leaves_to_left Power = true
leaves_to_left ShiftLeft = true
leaves_to_left ShiftRight = true
leaves_to_left ArithmeticShiftRight = true
leaves_to_left _ = false

-- each right operand that has a part in the sign is signed
abbrev pub links_signed : meaning.Scope → List BinaryLink → Bool
links_signed s [] = true
links_signed s (l ∷ ls) = (leaves_to_left l.operator || meaning.sign_of s (tree_of l.operand)) && links_signed s ls

abbrev pub choices_signed : meaning.Scope → List Choice → Bool
choices_signed s [] = true
choices_signed s (c ∷ cs) = meaning.sign_of s (tree_of c.value) && choices_signed s cs

-- the width of a chain after an operand of width w
abbrev pub links_width : meaning.Scope → ℕ → List BinaryLink → ℕ
links_width s w [] = w
links_width s w (l ∷ ls) = links_width s (cond (leaves_to_left l.operator) w (max w (meaning.width_of s (tree_of l.operand)))) ls

-- the width of values before a last value of width w
abbrev pub choices_width : meaning.Scope → List Choice → ℕ → ℕ
choices_width s [] w = w
choices_width s (c ∷ cs) w = choices_width s cs (max w (meaning.width_of s (tree_of c.value)))

abbrev pub AreLinksNarrow : meaning.Scope → List BinaryLink → Type 0
AreLinksNarrow s [] = Unit {0}
AreLinksNarrow s (l ∷ ls) = IsNarrow s (tree_of l.operand) × AreLinksNarrow s ls

abbrev pub AreTestsNarrow : meaning.Scope → List TestLink → Type 0
AreTestsNarrow s [] = Unit {0}
AreTestsNarrow s (l ∷ ls) = IsNarrow s (tree_of l.operand) × AreTestsNarrow s ls

abbrev pub AreChoicesNarrow : meaning.Scope → List Choice → Type 0
AreChoicesNarrow s [] = Unit {0}
AreChoicesNarrow s (c ∷ cs) = IsNarrow s (tree_of c.condition) × IsNarrow s (tree_of c.value) × AreChoicesNarrow s cs
