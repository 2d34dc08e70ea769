-- What tables tell of the bits that a statement of a combinational block leaves resting.
use Rattle.std.specs.Prelude.{◌≡◌, ◌↔◌, ◌⊎◌, ◌≤◌, ℕ, ◌&&◌, ◌||◌, List, [], ◌∷◌, IsTrue}
use Rattle.std.specs.Borrow.{Bor}
use Rattle.wb_values.specs.Value.{Name, same_name}
use Rattle.verilog_trees.specs.Syntax.{Statement, empty, blocking, nonblocking, if_then, if_else, case, block, Statements, no_statements, statement, CaseItems, no_items, arm, default_arm}
use Rattle.verilog_meaning.specs.Expression.{Scope}
use Rattle.verilog_meaning.specs.Statement.{target_width}
use Rattle.verilog_meaning.specs.Register.{may_assign, may_assign_in_case}
use Rattle.verilog_designs.specs.Reads.{BitSet, no_bits, or_in, reads_in_all}
use Rattle.verilog_designs.specs.Dependence.{Bit, is_in, AfterArms}
use Rattle.v_syntax.specs.declared.tree.Arm.{Arm}
use Rattle.v_syntax.specs.declared.tree.CaseItem.{CaseItem, Values, Default}
use Rattle.v_syntax.specs.declared.tree.Statement.{Statement as CodeStatement}
use Rattle.v_syntax.specs.Tree.{tree_of, statement_of, expressions_of}
use Rattle.v_statement.specs.Effects.{item_statement}
use Rattle.v_value.specs.Narrow.{IsNarrow}
use Rattle.v_flow.specs.Narrow.{IsNarrowFlow}
use Rattle.v_paths.specs.Premises.{AssignsNoMemory}
use Rattle.v_depend.specs.Resting.{IsThere, at_first, RestsAfter}

-- ---- what statements are asked for

abbrev mutual
  -- The target of each blocking assignment has at most 128 bits.
  pub HasNarrowTargets : Scope → Statement → Type 0
  HasNarrowTargets s empty = Unit {0}
  HasNarrowTargets s (blocking t e) = target_width s t ≤ 128
  HasNarrowTargets s (nonblocking t e) = Unit {0}
  HasNarrowTargets s (if_then c x) = HasNarrowTargets s x
  HasNarrowTargets s (if_else c x y) = HasNarrowTargets s x × HasNarrowTargets s y
  HasNarrowTargets s (case kind e items) = HaveNarrowTargetsInArms s items
  HasNarrowTargets s (block n xs) = HaveNarrowTargets s xs

  pub HaveNarrowTargets : Scope → Statements → Type 0
  HaveNarrowTargets s no_statements = Unit {0}
  HaveNarrowTargets s (statement x xs) = HasNarrowTargets s x × HaveNarrowTargets s xs

  pub HaveNarrowTargetsInArms : Scope → CaseItems → Type 0
  HaveNarrowTargetsInArms s no_items = Unit {0}
  HaveNarrowTargetsInArms s (arm es x items) = HasNarrowTargets s x × HaveNarrowTargetsInArms s items
  HaveNarrowTargetsInArms s (default_arm x items) = HasNarrowTargets s x × HaveNarrowTargetsInArms s items

-- A statement whose values fit words, and which assigns no memory.
pub record IsFit (s : Scope) (x : Statement) : Type 0 where
  pub narrow : IsNarrowFlow s x
  pub targets : HasNarrowTargets s x
  pub plain : AssignsNoMemory s x

abbrev pub AreFit : Scope → List CodeStatement → Type 0
AreFit s [] = Unit {0}
AreFit s (x ∷ xs) = IsFit s (statement_of x) × AreFit s xs

abbrev pub AreFitArms : Scope → List Arm → Type 0
AreFitArms s [] = Unit {0}
AreFitArms s (a ∷ arms) = IsNarrow s (tree_of a.condition) × IsFit s (statement_of a.statement) × AreFitArms s arms

abbrev pub AreFitItems : Scope → List CaseItem → Type 0
AreFitItems s [] = Unit {0}
AreFitItems s (i ∷ items) = IsFit s (item_statement i) × AreFitItems s items

-- ---- tables by names

-- the bits of one name
abbrev pub of_name : Name → BitSet → BitSet
of_name m p n k b = same_name m n && p n k b

-- the bits of the names of entries
abbrev pub of_names : List (Bor (List ℕ) × ℕ) → BitSet → BitSet
of_names [] p = no_bits
of_names (e ∷ es) p = or_in (of_name e.0.now p) (of_names es p)

-- ---- choices

-- One set has the bits that the statement may assign, the other those that it leaves resting.
pub record Tells (unsettled : BitSet) (s : Scope) (x : Statement) (assigned left : BitSet) : Type 0 where
  pub assigned_is : (u : Bit) → IsThere s u → is_in assigned u ≡ may_assign s x u.of_name u.word u.place
  pub left_is : (u : Bit) → IsThere s u → IsTrue (is_in left u) ↔ RestsAfter unsettled s x u

-- The sets have what they had before, and what a further branch adds.
pub record Adds (unsettled : BitSet) (s : Scope) (x : Statement) (assigned left more_assigned more_left : BitSet) : Type 0 where
  pub assigned_is : (u : Bit) → IsThere s u → is_in more_assigned u ≡ (is_in assigned u || may_assign s x u.of_name u.word u.place)
  pub left_is : (u : Bit) → IsThere s u → IsTrue (is_in more_left u) ↔ IsTrue (is_in left u) ⊎ RestsAfter unsettled s x u

pub record AddsArms (unsettled : BitSet) (s : Scope) (items : CaseItems) (assigned left more_assigned more_left : BitSet) : Type 0 where
  pub assigned_is : (u : Bit) → IsThere s u → is_in more_assigned u ≡ (is_in assigned u || may_assign_in_case s items u.of_name u.word u.place)
  pub left_is : (u : Bit) → IsThere s u → IsTrue (is_in more_left u) ↔ IsTrue (is_in left u) ⊎ AfterArms s (at_first unsettled) items u u

-- what the values of an item read
abbrev pub label_bits : Scope → CaseItem → BitSet
label_bits s (Values es x) = reads_in_all s (expressions_of es.items)
label_bits s (Default x) = no_bits
