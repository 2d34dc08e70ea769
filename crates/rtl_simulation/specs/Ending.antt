-- What a design does under a script, or why it is not run.
use Rattle.std.specs.Prelude.{◌≡◌, ℕ, List}
use Rattle.scripts.specs.Script as scripts
use Rattle.scripts.specs.Script.{Settables, Script, ScriptReading, is_script, script_reading}
use Rattle.verilog_meaning.specs.Settled.{Design}
use Rattle.verilog_designs.specs.Accepted.{DesignKind, IsAccepted, IsRefusedBy}
use Rattle.design_scripts.specs.Names.{AreSettables}
use Rattle.design_scripts.specs.Simulation as run

-- The design is refused by a kind; or the script is refused; or the design was run, and these lines tell it.
pub data Ending : Type 0 where
  broken : DesignKind → Ending
  bad_line missing_input : Ending
  ran : (lines : List ℕ) → Ending

-- What the bytes of a script are for the design, by the names that may be set of it.
pub record IsReadAs (d : Design) (bytes : List ℕ) (names : Settables) (reading : ScriptReading) : Type 0 where
  pub are_names : AreSettables d names
  pub is_reading : script_reading names bytes ≡ reading

-- The lines tell what the design does under the script of these bytes.
pub record IsRunTold (d : Design) (bytes lines : List ℕ) : Type 0 where
  pub names : Settables
  pub script : Script
  pub is_read : IsReadAs d bytes names (is_script script)
  pub is_told : run.IsTold d names script lines

-- What comes of a design and the bytes of a script. The script is read, and the design run, where it is accepted.
abbrev pub IsEnding : Design → (bytes : List ℕ) → Ending → Type 0
IsEnding d bytes (broken kind) = IsRefusedBy d kind
IsEnding d bytes bad_line = IsAccepted d × (names : Settables) × IsReadAs d bytes names scripts.bad_line
IsEnding d bytes missing_input = IsAccepted d × (names : Settables) × IsReadAs d bytes names scripts.missing_input
IsEnding d bytes (ran lines) = IsAccepted d × IsRunTold d bytes lines
