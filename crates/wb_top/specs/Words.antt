-- The words of a command, and the files that it names.
use Rattle.std.specs.Prelude.{ℕ, Bool, ◌&&◌, ◌==◌, nat_le, nat_lt, List, [], ◌∷◌, Option, option_map}
use Rattle.wb_values.specs.Value.{Name}
use Rattle.wb_words.specs.Requests as asked
use Rattle.wb_words.specs.Requests.{Request, request_of}

-- what is asked for: a check with its budget, a simulation of a model, or one of a design, by the names of its top and its clock, a replay,
-- a simulation of a model and a design side by side, or the design of a model, or its map alone
pub data Verb : Type 0 where
  check : (budget : ℕ) → Verb
  simulate : Verb
  simulate_rtl : (top clock : Name) → Verb
  replay : Verb
  simulate_both : Verb
  emit : (map_only : Bool) → Verb

-- what is asked for, and the names of the files in the order in which they are read
pub record Command : Type 0 where
  pub verb : Verb
  pub files : List Name

-- A check reads the model file, the map file and each Verilog file; a simulation of a model the model file and the script; one of a
-- design the script and each Verilog file; a replay the model file, the map file, the trace file and each Verilog file; a simulation side
-- by side the model file, the map file, the script and each Verilog file; an emission the model file alone.
abbrev pub command_for : Request → Command
command_for (asked.check model map budget designs) = record { verb = check budget; files = model ∷ map ∷ designs }
command_for (asked.simulate model script) = record { verb = simulate; files = model ∷ script ∷ [] }
command_for (asked.simulate_rtl top clock script designs) = record { verb = simulate_rtl top clock; files = script ∷ designs }
command_for (asked.replay model map trace designs) = record { verb = replay; files = model ∷ map ∷ trace ∷ designs }
command_for (asked.simulate_both model map script designs) = record { verb = simulate_both; files = model ∷ map ∷ script ∷ designs }
command_for (asked.emit model map_only) = record { verb = emit map_only; files = model ∷ [] }

-- the command that words ask for
abbrev pub command_of : List Name → Option Command
command_of words = option_map command_for (request_of words)

-- a command reads so many files, and a check has a budget
abbrev pub is_command : Verb → ℕ → Bool
is_command (check budget) n = nat_le 3 n && nat_lt 0 budget
is_command simulate n = n == 2
is_command (simulate_rtl top clock) n = nat_le 2 n
is_command replay n = nat_le 4 n
is_command simulate_both n = nat_le 4 n
is_command (emit map_only) n = n == 1
