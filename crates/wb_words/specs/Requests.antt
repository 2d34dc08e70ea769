-- What the program's words ask for.
use Rattle.std.specs.Prelude.{ℕ, Bool, false, List, [], ◌∷◌, Option, Some, None, if◌then◌else◌, codes, option_and_then}
use Rattle.std.specs.Str.{bytes_eq}
use Rattle.std.specs.Str.Parse.{digits_value, without_leading_plus}
use Rattle.clap.specs.ValueTests.{is_unsigned_in}
use Rattle.clap.specs.Walk.{Row, Text, all_of, first_of, one_of}
use Rattle.clap.specs.Simple.{subcommand_of}
use Rattle.clap.specs.Takes.{takes}
use Rattle.wb_words.specs.Application.{workbench_app}

-- a command with the names of its files: a check of a model, a map and designs, with its budget; a
-- simulation of a model and a script; a simulation of a design, its top and its clock by their
-- names, with a script and the design's files; a replay of a trace, with the files of a check; a
-- simulation of a model and a design side by side, with a script and the files of a check; or the
-- Verilog of a model, or its map alone
pub data Request : Type 0 where
  check : Text → Text → ℕ → List Text → Request
  simulate : Text → Text → Request
  simulate_rtl : (top clock script : Text) → List Text → Request
  replay : (model map trace : Text) → List Text → Request
  simulate_both : (model map script : Text) → List Text → Request
  emit : (model : Text) → (map_only : Bool) → Request

-- the number that a text of decimal digits stands for, from 1 to 1,000,000,000
abbrev pub budget_in : Text → Option ℕ
budget_in text = if is_unsigned_in 1 1000000000 text
    then Some (digits_value 10 (without_leading_plus text)) else None

-- the names of designs, one or more
abbrev pub designs_in : List Text → Option (List Text)
designs_in [] = None
designs_in (design ∷ more) = Some (design ∷ more)

-- A flag is set: clap gives it the value `true` where it is among the words, and `false` where it is not.
abbrev pub is_set : Option Text → Bool
is_set None = false
is_set (Some value) = bytes_eq value (codes "true")

-- a check, where each of its parts is there
abbrev pub check_of : Option Text → Option Text → Option ℕ → Option (List Text) → Option Request
check_of (Some model) (Some map) (Some budget) (Some designs) =
    Some (check model map budget designs)
check_of _ _ _ _ = None

-- a simulation, where both of its parts are there
abbrev pub simulate_of : Option Text → Option Text → Option Request
simulate_of (Some model) (Some script) = Some (simulate model script)
simulate_of _ _ = None

-- a simulation of a design, where each of its parts is there
abbrev pub simulate_rtl_of : Option Text → Option Text → Option Text → Option (List Text) → Option Request
simulate_rtl_of (Some top) (Some clock) (Some script) (Some designs) =
    Some (simulate_rtl top clock script designs)
simulate_rtl_of _ _ _ _ = None

-- a replay, where each of its parts is there
abbrev pub replay_of : Option Text → Option Text → Option Text → Option (List Text) → Option Request
replay_of (Some model) (Some map) (Some trace) (Some designs) =
    Some (replay model map trace designs)
replay_of _ _ _ _ = None

-- a simulation side by side, where each of its parts is there
abbrev pub simulate_both_of : Option Text → Option Text → Option Text → Option (List Text) → Option Request
simulate_both_of (Some model) (Some map) (Some script) (Some designs) =
    Some (simulate_both model map script designs)
simulate_both_of _ _ _ _ = None

-- what is emitted of a model, where that is there
abbrev pub emit_of : Option Text → (map_only : Bool) → Option Request
emit_of (Some model) map_only = Some (emit model map_only)
emit_of None map_only = None

-- what a subcommand asks for, by its name and the values of its options
unfoldable pub request_in : Text → List Row → Option Request
request_in name rows = if bytes_eq name (codes "check")
    then check_of (first_of (codes "model") rows) (first_of (codes "map") rows)
    (option_and_then budget_in (one_of (codes "budget") rows))
    (option_and_then designs_in (all_of (codes "designs") rows))
    else (if bytes_eq name (codes "simulate")
    then simulate_of (first_of (codes "model") rows) (first_of (codes "script") rows)
    else (if bytes_eq name (codes "simulate-rtl")
    then simulate_rtl_of (first_of (codes "top") rows) (first_of (codes "clock") rows)
    (first_of (codes "script") rows) (option_and_then designs_in (all_of (codes "designs") rows))
    else (if bytes_eq name (codes "replay")
    then replay_of (first_of (codes "model") rows) (first_of (codes "map") rows)
    (first_of (codes "trace") rows) (option_and_then designs_in (all_of (codes "designs") rows))
    else (if bytes_eq name (codes "simulate-both")
    then simulate_both_of (first_of (codes "model") rows) (first_of (codes "map") rows)
    (first_of (codes "script") rows) (option_and_then designs_in (all_of (codes "designs") rows))
    else (if bytes_eq name (codes "emit")
    then emit_of (first_of (codes "model") rows) (is_set (first_of (codes "map-only") rows))
    else None)))))

-- what the words ask for: where clap takes them, what their subcommand asks for
unfoldable pub request_of : List Text → Option Request
request_of words = if takes workbench_app words
    then option_and_then (λ p. request_in p.0 p.1) (subcommand_of workbench_app words) else None
