-- What drives the bits of a module that stands by itself, driver by driver, as sets of bits; and when two of them drive one bit.
use Rattle.std.specs.Prelude.{ℕ, List, [], ◌∷◌, ◌++◌, map, ◌⊎◌, IsTrue}
use Rattle.wb_values.specs.Value.{Name}
use Rattle.verilog_trees.specs.Syntax.{Expression, Target, Targets, Statement, Item}
use Rattle.verilog_meaning.specs.Expression.{Scope}
use Rattle.verilog_meaning.specs.Register.{is_bit_of, may_reach, may_assign, clocked_blocks, combinational_blocks}
use Rattle.verilog_meaning.specs.Settled.{assignments}
use Rattle.verilog_designs.specs.Reads.{BitSet}
use Rattle.verilog_designs.specs.Drivers.{parts_of, all_parts_of, IsSameDriven}
use Rattle.v_flow.specs.Spans.{existing}

-- the bits that a part of a target may reach
abbrev pub reached_by : Scope → Target → BitSet
reached_by s t = existing s (may_reach s t)

-- the bits that a block may assign
abbrev pub assigned_by : Scope → Statement → BitSet
assigned_by s x = existing s (may_assign s x)

-- the drivers that a target stands for: each of its parts
unfoldable pub target_drivers : Scope → Target → List BitSet
target_drivers s t = map (reached_by s) (parts_of t)

unfoldable pub targets_drivers : Scope → Targets → List BitSet
targets_drivers s ts = map (reached_by s) (all_parts_of ts)

-- those of continuous assignments
abbrev pub assignments_drivers : Scope → List (Target × Expression) → List BitSet
assignments_drivers s [] = []
assignments_drivers s (a ∷ links) = target_drivers s a.0 ++ assignments_drivers s links

-- those of blocks: each is one
abbrev pub blocks_drivers : Scope → List Statement → List BitSet
blocks_drivers s xs = map (assigned_by s) xs

-- All drivers of a module without instances: the parts of its continuous assignments, its clocked blocks, and its other blocks.
abbrev pub drivers : Scope → List Item → List BitSet
drivers s items =
    assignments_drivers s (assignments items)
    ++ (blocks_drivers s (clocked_blocks items) ++ blocks_drivers s (combinational_blocks items))

-- ---- two drivers

-- Two sets meet: in a bit of a net or variable, or both somewhere in one memory.
pub record Meet (s : Scope) (p q : BitSet) : Type 0 where
  pub name : Name
  pub word : ℕ
  pub bit : ℕ
  pub word2 : ℕ
  pub bit2 : ℕ
  pub in_first : IsTrue (p name word bit)
  pub in_second : IsTrue (q name word2 bit2)
  pub is_same : IsSameDriven (s name) word bit word2 bit2

abbrev pub OneMeets : Scope → BitSet → List BitSet → Type 0
OneMeets s p [] = ⊥
OneMeets s p (q ∷ qs) = Meet s p q ⊎ OneMeets s p qs

-- Two sets at different places of the list meet.
abbrev pub TwoMeet : Scope → List BitSet → Type 0
TwoMeet s [] = ⊥
TwoMeet s (p ∷ ps) = OneMeets s p ps ⊎ TwoMeet s ps
