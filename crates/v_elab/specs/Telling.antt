-- The dotted name of what has its name in one scope by a number, step by step.
use Rattle.std.specs.Prelude.{◌≡◌, false, List, [], ◌∷◌, ◌++◌}
use Rattle.wb_values.specs.Value.{Name}
use Rattle.verilog_meaning.specs.Hierarchy.{Placed, dotted}
use Rattle.verilog_meaning.specs.Settled.{Design, IsPlacedIn, IsDeclared}
use Rattle.v_places.specs.Below.{Spot}
use Rattle.v_flat.specs.Numbered.{numbered}
use Rattle.v_flat.specs.Whole.{IsPlacing}

-- a name after the names of these instances, the innermost of which is first, with dots between
abbrev pub under_steps : List Name → Name → Name
under_steps [] n = n
under_steps (u ∷ us) n = under_steps us (u ++ 46 ∷ n)

-- The text is the dotted name of each net or variable that is called by this name where the modules stand at these places.
abbrev pub IsToldIn : List Spot → (name text : Name) → Type 0
IsToldIn spots name text = (d : Design) → IsPlacing d spots → (p : Placed) (k : Name) → IsPlacedIn d p → IsDeclared p k → numbered false spots p.path k ≡ name
    → text ≡ dotted p.path k
