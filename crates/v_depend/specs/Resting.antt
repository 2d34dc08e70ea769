-- What rests on bits that are not settled yet: the places of values, and the bits of names after an assignment or a run of a block.
use Rattle.std.specs.Prelude.{◌≡◌, ℕ, not, Some, IsTrue}
use Rattle.verilog_trees.specs.Syntax.{Expression, Target, Statement}
use Rattle.verilog_meaning.specs.Expression.{Scope, sign_of}
use Rattle.verilog_meaning.specs.Register.{is_bit_of}
use Rattle.verilog_designs.specs.Reads.{BitSet, reads}
use Rattle.verilog_designs.specs.Dependence.{Bit, is_in, is_plain, copied, Dependences, AfterAssignment, After}

-- a bit of a name of the module
abbrev pub IsThere : Scope → Bit → Type 0
IsThere s u = IsTrue (is_bit_of (s u.of_name) u.word u.place)

-- one of these bits is not settled
abbrev pub OneIsUnsettled : (unsettled bits : BitSet) → Type 0
OneIsUnsettled unsettled bits = (y : Bit) × IsTrue (is_in bits y) × IsTrue (is_in unsettled y)

-- the bit that a plain expression copies to place j is not settled
abbrev pub CopiesUnsettled : (unsettled : BitSet) → Scope → Expression → ℕ → Type 0
CopiesUnsettled unsettled s e j = (y : Bit) × (copied s e (sign_of s e) j ≡ Some y) × IsTrue (is_in unsettled y)

-- Place j of the value of an expression rests on an unsettled bit: on the one that is copied there, where the expression is plain, and else on
-- any that it reads.
pub data RestsAt (unsettled : BitSet) (s : Scope) (e : Expression) (j : ℕ) : Type 0 where
  copies : IsTrue (is_plain s e) → CopiesUnsettled unsettled s e j → RestsAt unsettled s e j
  computes : IsTrue (not (is_plain s e)) → OneIsUnsettled unsettled (reads s e) → RestsAt unsettled s e j

-- At first the unsettled bits rest. (On what a bit rests is not told, only that it does.)
abbrev pub at_first : (unsettled : BitSet) → Dependences
at_first unsettled u y = IsTrue (is_in unsettled u)

-- a bit rests on an unsettled one after an assignment,
abbrev pub RestsAfterAssignment : (unsettled : BitSet) → Scope → Target → Expression → Bit → Type 0
RestsAfterAssignment unsettled s t e u = AfterAssignment s (at_first unsettled) t e u u

-- and after a run of a statement of a combinational block
abbrev pub RestsAfter : (unsettled : BitSet) → Scope → Statement → Bit → Type 0
RestsAfter unsettled s x u = After s (at_first unsettled) x u u
