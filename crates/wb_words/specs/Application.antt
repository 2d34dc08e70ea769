-- The program's words, as a command in the sense of clap.
use Rattle.std.specs.Prelude.{true, false, [], ◌∷◌, Some, codes}
use Rattle.clap.specs.Lexer.{usize_max}
use Rattle.clap.specs.Walk.{Rule, Text}
use Rattle.clap.specs.Simple.{App, Shape, new_rule, new_shape}
use Rattle.clap.specs.declared.builder.action.ArgAction.TheVariants.{SetTrue}
use Rattle.clap.specs.declared.builder.value_parser.ValueParser.TheVariants.{Unsigned}

-- an option that has to be there, with one value
abbrev pub required_option : Text → Rule
required_option name = record (new_rule name) { long = Some name; required = true }

-- an option without a value, which may be there or not
abbrev pub flag : Text → Rule
flag name = record (new_rule name) { long = Some name; action = Some SetTrue }

-- `--budget N`: from 1 to 1,000,000,000, and 100,000 where it is not there
abbrev pub budget_option : Rule
budget_option = record (new_rule (codes "budget")) {
  long = Some (codes "budget");
  parser = Some (Unsigned 1 1000000000);
  defaults = codes "100000" ∷ [];
}

-- the words that belong to no option, one or more
abbrev pub designs_argument : Rule
designs_argument = record (new_rule (codes "designs")) {
  required = true;
  range = Some (record { start_inclusive = 1; end_inclusive = usize_max });
}

-- `check --model M --map P [--budget N] RTL...`
abbrev pub check_command : Shape
check_command = record (new_shape (codes "check")) {
  rules = required_option (codes "model") ∷ required_option (codes "map") ∷ budget_option
      ∷ designs_argument ∷ [];
}

-- `simulate --model M --script S`
abbrev pub simulate_command : Shape
simulate_command = record (new_shape (codes "simulate")) {
  rules = required_option (codes "model") ∷ required_option (codes "script") ∷ [];
}

-- `simulate-rtl --top T --clock C --script S RTL...`
abbrev pub simulate_rtl_command : Shape
simulate_rtl_command = record (new_shape (codes "simulate-rtl")) {
  rules = required_option (codes "top") ∷ required_option (codes "clock") ∷ required_option (codes "script")
      ∷ designs_argument ∷ [];
}

-- `replay --model M --map P --trace X RTL...`
abbrev pub replay_command : Shape
replay_command = record (new_shape (codes "replay")) {
  rules = required_option (codes "model") ∷ required_option (codes "map") ∷ required_option (codes "trace")
      ∷ designs_argument ∷ [];
}

-- `simulate-both --model M --map P --script S RTL...`
abbrev pub simulate_both_command : Shape
simulate_both_command = record (new_shape (codes "simulate-both")) {
  rules = required_option (codes "model") ∷ required_option (codes "map") ∷ required_option (codes "script")
      ∷ designs_argument ∷ [];
}

-- `emit --model M [--map-only]`
abbrev pub emit_command : Shape
emit_command = record (new_shape (codes "emit")) {
  rules = required_option (codes "model") ∷ flag (codes "map-only") ∷ [];
}

-- the program, with one of its commands
unfoldable pub workbench_app : App
workbench_app = record {
  top = record (new_shape (codes "wb")) {
    is_leaf = false;
    subcommand_required = true;
    disable_help_subcommand = true;
  };
  subs = check_command ∷ simulate_command ∷ simulate_rtl_command ∷ replay_command ∷ simulate_both_command ∷ emit_command ∷ [];
}
