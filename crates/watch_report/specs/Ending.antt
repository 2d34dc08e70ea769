-- What comes of a script for a model and a design with its map.
use Rattle.std.specs.Prelude.{ℕ, List, length}
use Rattle.scripts.specs.Script as scripts
use Rattle.scripts.specs.Script.{Script, is_script}
use Rattle.refinement.specs.Map.{Setting, design_of}
use Rattle.refinement.specs.Run.{Run}
use Rattle.watched_runs.specs.Watched.{Watched, IsWatched, IsWatchedLine}
use Rattle.script_cycles.specs.Read.{IsReadingFor}
use Rattle.watch_report.specs.Script.{IsRunOfScript}

-- The script is refused; or its run is watched beside the model, and a line tells the answer.
pub data Ending : Type 0 where
  bad_line missing_input : Ending
  told : Watched → (line : List ℕ) → Ending

-- The bytes are a script for the setting's design. It has a run, the answer is that of each of its runs, and the line says so.
pub record IsTold (s : Setting) (bytes : List ℕ) (answer : Watched) (line : List ℕ) : Type 0 where
  pub script : Script
  pub is_read : IsReadingFor (design_of s) bytes (is_script script)
  pub some_run : (run : Run) × IsRunOfScript s script run
  pub each_run : (run : Run) → IsRunOfScript s script run → IsWatched s run (length script.inputs) answer
  pub is_line : IsWatchedLine s answer line

-- What comes of a script's bytes for a setting.
abbrev pub IsEnding : Setting → (bytes : List ℕ) → Ending → Type 0
IsEnding s bytes bad_line = IsReadingFor (design_of s) bytes scripts.bad_line
IsEnding s bytes missing_input = IsReadingFor (design_of s) bytes scripts.missing_input
IsEnding s bytes (told answer line) = IsTold s bytes answer line
