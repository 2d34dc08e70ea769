-- What plain expressions copy of a set of bits, over the lists of the code's trees. The names that do not unfold by themselves say what the
-- definitions say.
use Rattle.std.specs.Prelude.{◌≡◌, ℕ, Bool, true, false, ◌&&◌, nat_lt, is_none, List, [], ◌∷◌, Option, Some, None}
use Rattle.verilog_trees.specs.Syntax as pure
use Rattle.wb_values.specs.Value.{Name}
use Rattle.verilog_meaning.specs.Expression.{Object, Scope, object_width, sign_of}
use Rattle.verilog_meaning.specs.Register.{is_set}
use Rattle.verilog_designs.specs.Reads.{BitSet}
use Rattle.verilog_designs.specs.Dependence.{Bit, is_in, is_plain, copied, copied_in}
use Rattle.v_syntax.specs.declared.tree.Expression.{Expression}
use Rattle.v_syntax.specs.Tree.{tree_of}

-- a bit that is there is in the set
abbrev pub holds : BitSet → Option Bit → Bool
holds p None = false
holds p (Some y) = is_in p y

-- The number has the bits of the name that are in the set, and those alone.
abbrev pub IsOfName : BitSet → Object → Name → ℕ → Type 0
IsOfName p o n x = (b : ℕ) → is_set x b ≡ (is_none o.constant && (nat_lt b (object_width o) && p n 0 b))

-- whether a number has a bit at a place that may be none
abbrev pub at_place : ℕ → Option ℕ → Bool
at_place x None = false
at_place x (Some b) = is_set x b

-- the bit that an expression copies to a place is in the set
unfoldable pub copies_at : BitSet → Scope → pure.Expression → ℕ → Bool
copies_at p s e j = holds p (copied s e (sign_of s e) j)

unfoldable pub parts_copy : BitSet → Scope → pure.Expressions → ℕ → Bool
parts_copy p s es j = holds p (copied_in s es j)

unfoldable pub plain_at : Scope → pure.Expression → Bool
plain_at s e = is_plain s e

abbrev pub parts_plain : Scope → List Expression → Bool
parts_plain s [] = true
parts_plain s (e ∷ es) = plain_at s (tree_of e) && parts_plain s es

abbrev pub has_none : {A : Type 0} → List A → Bool
has_none [] = true
has_none (x ∷ xs) = false
