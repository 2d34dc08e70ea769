-- A design has one order of its registers; its scripts are read in one way, and have one text.
use Rattle.std.specs.Prelude.{◌≡◌, ℕ, List}
use Rattle.wb_values.specs.Value.{Name}
use Rattle.verilog_meaning.specs.Hierarchy.{Placed}
use Rattle.verilog_meaning.specs.Settled.{Design}
use Rattle.verilog_registers.specs.Order.{Member, AreInOrder}
use Rattle.scripts.specs.Script.{Settables, Script, script_reading}
use Rattle.design_scripts.specs.Names.{AreSettables}
use Rattle.design_scripts.specs.Simulation.{HasCycles, IsTold}

-- The registers of parts of a module stand in one order.
abbrev pub OneOrder : Type 0
OneOrder = (d : Design) (p : Placed) (parts : List Member) (ns ms : List Name) → AreInOrder d p parts ns → AreInOrder d p parts ms → ns ≡ ms

-- By all names that a script may set of a design a text is read in one way.
abbrev pub OneReading : Type 0
OneReading =
    (d : Design) (names others : Settables) (bytes : List ℕ) → HasCycles d → AreSettables d names → AreSettables d others
    → script_reading names bytes ≡ script_reading others bytes

-- A script has one text.
abbrev pub OneText : Type 0
OneText =
    (d : Design) (names others : Settables) (script : Script) (text other : List ℕ) → HasCycles d → AreSettables d names → AreSettables d others
    → IsTold d names script text → IsTold d others script other → text ≡ other
