-- Modules whose targets and blocks fit words of 128 bits.
use Rattle.std.specs.Prelude.{List, [], ◌∷◌}
use Rattle.verilog_trees.specs.Syntax.{Expression, Target, Statement, Item}
use Rattle.verilog_meaning.specs.Expression.{Scope}
use Rattle.verilog_meaning.specs.Register.{clocked_blocks, combinational_blocks}
use Rattle.verilog_meaning.specs.Settled.{assignments}
use Rattle.v_flow.specs.Narrow.{HasNarrowParts, IsNarrowFlow}

abbrev pub HaveNarrowTargets : Scope → List (Target × Expression) → Type 0
HaveNarrowTargets s [] = Unit {0}
HaveNarrowTargets s (a ∷ links) = HasNarrowParts s a.0 × HaveNarrowTargets s links

abbrev pub AreNarrowBlocks : Scope → List Statement → Type 0
AreNarrowBlocks s [] = Unit {0}
AreNarrowBlocks s (x ∷ xs) = IsNarrowFlow s x × AreNarrowBlocks s xs

pub record AreNarrowItems (s : Scope) (items : List Item) : Type 0 where
  pub targets : HaveNarrowTargets s (assignments items)
  pub clocked : AreNarrowBlocks s (clocked_blocks items)
  pub combinational : AreNarrowBlocks s (combinational_blocks items)
