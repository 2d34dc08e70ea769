-- Which circuit the term of a node becomes.
use Rattle.std.specs.Prelude.{true, false}
use Rattle.wb_terms.specs.declared.nodes.Node.{Node}
use Rattle.wb_terms.specs.declared.nodes.Node.TheVariants.{Not, And, Or, Xor, Add, Sub, Mul, Shl, Lshr, Ashr, Eq, Ult, Ule, Slt, Sle}
use Rattle.gate_words.specs.declared.chains.Cell.TheVariants as cell
use Rattle.gate_words.specs.declared.operators.Operator.TheVariants as operator
use Rattle.sat_gates.specs.declared.forms.Form.{Form}
use Rattle.sat_gates.specs.declared.forms.Form.TheVariants.{Chain, Last, Word, SignedBelow, SignedAtMost, Other}

abbrev pub form_of : Node → Form
form_of (Not x) = Chain cell.Not false x x
form_of (And x y) = Chain cell.And false x y
form_of (Or x y) = Chain cell.Or false x y
form_of (Xor x y) = Chain cell.Xor false x y
form_of (Add x y) = Chain cell.Sum false x y
form_of (Sub x y) = Chain cell.Difference true x y
form_of (Eq x y) = Last cell.Same true x y
form_of (Ult x y) = Last cell.Below false x y
form_of (Ule x y) = Last cell.Below true x y
form_of (Mul x y) = Word operator.Mul x y
form_of (Shl x y) = Word operator.Shl x y
form_of (Lshr x y) = Word operator.Lshr x y
form_of (Ashr x y) = Word operator.Ashr x y
form_of (Slt x y) = SignedBelow x y
form_of (Sle x y) = SignedAtMost x y
form_of _ = Other
