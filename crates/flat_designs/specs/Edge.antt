-- What the clocked blocks of a design leave at the clock's edge, in one scope.
use Rattle.std.specs.Prelude.{◌≡◌, ◌≢◌, ◌↔◌, List, [], ◌∷◌, ◌++◌, Contains, ⊤}
use Rattle.wb_values.specs.Value.{Name, Valuation}
use Rattle.verilog_trees.specs.Syntax.{Expression, Target, Statement}
use Rattle.verilog_meaning.specs.Expression.{Scope}
use Rattle.verilog_meaning.specs.Register.{clocked_blocks, after_edge}
use Rattle.verilog_meaning.specs.Hierarchy.{Placed, placed_scope}
use Rattle.verilog_meaning.specs.Settled.{Design, IsPlacedIn, inside, IsDeclared}
use Rattle.verilog_designs.specs.Accepted.{undeclared, Breaks}
use Rattle.verilog_renamed.specs.Renamed.{renamed_statement, renamed_blocks}
use Rattle.flat_designs.specs.Flat.{Naming, IsNaming, IsSeenAs, IsFlatClocked, IsFlat}

-- These blocks of a module stand in a list in their order, among clocked blocks of other modules.
pub data StandInOrder (d : Design) (f : Naming) (p : Placed) : (own all : List Statement) → Type 0 where
  nothing : StandInOrder d f p [] []
  own_block : (x : Statement) (xs ys : List Statement) → StandInOrder d f p xs ys → StandInOrder d f p (x ∷ xs) (renamed_statement (f p.path) x ∷ ys)
  other_block : (q : Placed) (y : Statement) (xs ys : List Statement) → IsPlacedIn d q → q.path ≢ p.path
      → Contains (clocked_blocks q.of_module.items) y → StandInOrder d f p xs ys → StandInOrder d f p xs (renamed_statement (f q.path) y ∷ ys)

-- Each module's clocked blocks stand in the list in the order of its text. (Those of different modules may stand in any order.)
abbrev pub AreInTextOrder : Design → Naming → List Statement → Type 0
AreInTextOrder d f clocked = (p : Placed) → IsPlacedIn d p → StandInOrder d f p (clocked_blocks p.of_module.items) clocked

-- Then at the clock's edge each name of a module gets what the module's own clocked blocks leave there.
abbrev pub EdgeLeavesTheSame : Type 0
EdgeLeavesTheSame =
    (d : Design) (f : Naming) (s : Scope) (links : List (Target × Expression)) (blocks clocked : List Statement) (v w : Valuation) (p : Placed) (n : Name)
    → ¬ Breaks d undeclared → IsNaming d f → IsFlat d f s links blocks clocked → IsSeenAs d f v w → AreInTextOrder d f clocked → IsPlacedIn d p
    → IsDeclared p n → after_edge s clocked w (f p.path n) ≡ after_edge (placed_scope p) (clocked_blocks p.of_module.items) (inside v p) n

-- ---- one module after the other

-- the clocked blocks of these modules under the names of the one scope
abbrev pub clocked_in_turn : Naming → List Placed → List Statement
clocked_in_turn f [] = []
clocked_in_turn f (p ∷ ps) = renamed_blocks (f p.path) (clocked_blocks p.of_module.items) ++ clocked_in_turn f ps

-- No two of them stand at one path.
abbrev pub StandApart : List Placed → Type 0
StandApart [] = ⊤
StandApart (p ∷ ps) = ((q : Placed) → Contains ps q → q.path ≢ p.path) × StandApart ps

-- The list has the modules that stand in the design, each once.
pub record AreThePlaced (d : Design) (ps : List Placed) : Type 0 where
  pub are_placed : (p : Placed) → Contains ps p ↔ IsPlacedIn d p
  pub apart : StandApart ps

-- Of such a list the clocked blocks are those of the design, and each module's stand in order.
abbrev pub ModulesInTurnAreInTextOrder : Type 0
ModulesInTurnAreInTextOrder =
    (d : Design) (f : Naming) (ps : List Placed) → AreThePlaced d ps
    → AreInTextOrder d f (clocked_in_turn f ps) × ((x : Statement) → Contains (clocked_in_turn f ps) x ↔ IsFlatClocked d f x)
