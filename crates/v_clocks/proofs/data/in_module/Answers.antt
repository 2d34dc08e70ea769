use Rattle.verilog_designs.specs.Clocks.{names_in_module}
use Rattle.v_syntax.specs.Source.{module_of}
use Rattle.v_clocks.proofs.Ends.{none_in}
use Rattle.v_clocks.proofs.data.in_module.Goals as goal

pub returns-in-None : goal.returns-in-None
returns-in-None c = none_in c.args.nets.now c.args.number (names_in_module (module_of c.args.within.now)) c.in-None.ensures.lookup.0
