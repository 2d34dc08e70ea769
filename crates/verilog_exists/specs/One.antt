-- An accepted design settles in one way.
use Rattle.std.specs.Prelude.{◌≡◌}
use Rattle.wb_values.specs.Value.{Name, Valuation}
use Rattle.verilog_meaning.specs.Hierarchy.{Placed}
use Rattle.verilog_meaning.specs.Settled.{Design, IsPlacedIn, inside, IsDeclared, IsSettled}
use Rattle.verilog_meaning.specs.Next.{AreInputs}
use Rattle.verilog_designs.specs.Accepted.{IsAccepted}
use Rattle.verilog_exists.specs.Exists.{IsOfText}

-- All that is settled for these registers and inputs gives each declared name of each module the value that it has here.
abbrev pub IsTheOne : (d : Design) (registers inputs v : Valuation) → Type 0
IsTheOne d registers inputs v =
    (w : Valuation) (p : Placed) (n : Name) → IsSettled d registers inputs w → IsPlacedIn d p → IsDeclared p n → inside w p n ≡ inside v p n

-- An accepted design, whose tree is that of a text, has exactly one settled valuation, as far as declared names go.
abbrev pub OneSettledValuation : Type 0
OneSettledValuation =
    (d : Design) (registers inputs : Valuation) → IsAccepted d → IsOfText d → AreInputs d inputs
    → (v : Valuation) × IsSettled d registers inputs v × IsTheOne d registers inputs v
