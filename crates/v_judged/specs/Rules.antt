-- Which rules on expressions and ports modules break, place by place.
use Rattle.std.specs.Prelude.{Bool, List, [], ◌∷◌}
use Rattle.verilog_trees.specs.Syntax.{Source}
use Rattle.verilog_rules.specs.Expression as rules
use Rattle.verilog_designs.specs.Expressions.{broken_module}
use Rattle.verilog_designs.specs.Ports.{has_bad_port}
use Rattle.v_size.specs.declared.rule.Broken.{Broken}
use Rattle.v_size.specs.Rule.{coded, both}
use Rattle.v_modules.specs.Kinds.{kinds}
use Rattle.v_places.specs.Below.{Spot}
use Rattle.v_places.specs.Places.{placed_by}

-- those that the module at a place breaks, whatever its path is
abbrev pub spot_rules : Source → Spot → Broken
spot_rules source x = coded (kinds (broken_module source (placed_by [] x)))

-- those that one of these breaks, besides the ones that are known already
abbrev pub rules_after : Source → Broken → List Spot → Broken
rules_after source b [] = b
rules_after source b (x ∷ spots) = rules_after source (both b (spot_rules source x)) spots

abbrev pub all_rules : Source → List Spot → Broken
all_rules source spots = rules_after source (coded rules.nothing) spots

abbrev pub has_bad_ports : Source → Spot → Bool
has_bad_ports source x = has_bad_port source (placed_by [] x)
