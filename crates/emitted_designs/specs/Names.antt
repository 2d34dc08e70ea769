-- The names of an emitted design that the model does not give: its control signals, and the registers that keep inputs.
use Rattle.std.specs.Prelude.{◌++◌, codes}
use Rattle.wb_values.specs.Value.{Name}

-- the clock and the reset
abbrev pub clock_name : Name
clock_name = codes "wb_clk"

abbrev pub reset_name : Name
reset_name = codes "wb_rst"

-- the request to start an instruction
abbrev pub go_name : Name
go_name = codes "wb_go"

-- an instruction starts, and one ends
abbrev pub start_name : Name
start_name = codes "wb_start"

abbrev pub commit_name : Name
commit_name = codes "wb_commit"

-- a child program runs
abbrev pub busy_name : Name
busy_name = codes "wb_busy"

-- the register that keeps an input while child programs run
abbrev pub kept_name : Name → Name
kept_name n = codes "wb_in_" ++ n
