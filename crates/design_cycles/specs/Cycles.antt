-- An accepted design runs under each script.
use Rattle.verilog_meaning.specs.Settled.{Design}
use Rattle.verilog_designs.specs.Accepted.{IsAccepted}
use Rattle.verilog_exists.specs.Exists.{IsOfText}
use Rattle.design_scripts.specs.Simulation.{HasCycles}

-- An accepted design, whose tree is that of a text, has what is asked of a design that a script is run on.
abbrev pub AcceptedDesignHasCycles : Type 0
AcceptedDesignHasCycles = (d : Design) → IsAccepted d → IsOfText d → HasCycles d
