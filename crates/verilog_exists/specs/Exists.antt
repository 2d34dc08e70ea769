-- An accepted design has a settled valuation, for all registers and all inputs.
use Rattle.std.specs.Prelude.{◌≡◌, false, List, Contains, Some, IsTrue}
use Rattle.wb_values.specs.Value.{Name, Valuation}
use Rattle.verilog_trees.specs.Syntax.{Module, Source}
use Rattle.verilog_meaning.specs.Hierarchy.{PathStep, Placed, module_named}
use Rattle.verilog_meaning.specs.Settled.{Design, IsDeclared, IsSettled}
use Rattle.verilog_meaning.specs.Next.{AreInputs}
use Rattle.verilog_designs.specs.Known.{known_at, known_scope}
use Rattle.verilog_designs.specs.Names.{declared_names}
use Rattle.verilog_designs.specs.Expressions.{broken_module}
use Rattle.verilog_designs.specs.Accepted.{IsAccepted}
use Rattle.verilog_unique.specs.Unique.{NumbersFit}

-- No dot stands in the name. (Its code is 46.)
abbrev pub HasNoDot : Name → Type 0
HasNoDot n = ¬ Contains n 46

-- No name that a module declares has a dot: so a dotted name says which net of which instance is meant. In the tree of a text none has.
abbrev pub NamesHaveNoDots : Source → Type 0
NamesHaveNoDots source = (k : Name) (m : Module) (n : Name) → module_named source k ≡ Some m → Contains (declared_names m) n → HasNoDot n

-- In no module does the rules' reading find a number that has no bits or does not fit its width, or parts that have no bits. In the
-- tree of a text it finds none.
abbrev pub IsShapely : Design → Type 0
IsShapely d = (path : List PathStep) (p : Placed) → known_at d.source d.top path ≡ Some p → (broken_module d.source p).misshapen ≡ false

-- The design's tree is that of a text.
pub record IsOfText (d : Design) : Type 0 where
  pub numbers_fit : NumbersFit d.source
  pub shapely : IsShapely d
  pub no_dots : NamesHaveNoDots d.source

-- By the rules' reading each net, variable and memory has a range with a value.
abbrev pub RangesHaveValues : Design → Type 0
RangesHaveValues d =
    (path : List PathStep) (p : Placed) (n : Name) → known_at d.source d.top path ≡ Some p → IsDeclared p n → IsTrue ((known_scope p n).is_declared)

-- So it is in an accepted design that is shapely.
abbrev pub RangesExist : Type 0
RangesExist = (d : Design) → IsAccepted d → IsShapely d → RangesHaveValues d

-- An accepted design, whose tree is that of a text, has a settled valuation for any registers, and for any inputs that give each input
-- of the top but the clock a value of its width.
abbrev pub SettledValuationExists : Type 0
SettledValuationExists =
    (d : Design) (registers inputs : Valuation) → IsAccepted d → IsOfText d → AreInputs d inputs → (v : Valuation) × IsSettled d registers inputs v
