-- Inputs of one bit, by the list of a design's modules.
use Rattle.std.specs.Prelude.{Bool, ◌&&◌, ◌==◌}
use Rattle.wb_values.specs.Value.{Name}
use Rattle.verilog_meaning.specs.Expression.{object_width}
use Rattle.verilog_designs.specs.Accepted.{is_input_port}
use Rattle.v_places.specs.Below.{Spot}
use Rattle.map_paths.specs.Located.{scope_there}

-- the module of the list has an input port of this name and of one bit
abbrev pub is_one_bit_input_there : Spot → Name → Bool
is_one_bit_input_there x n = is_input_port x.of_module n && (object_width (scope_there x n) == 1)
