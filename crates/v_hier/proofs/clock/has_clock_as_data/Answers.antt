use Rattle.v_hier.specs.Tables.{has_name}
use Rattle.v_hier.specs.Reading.{knows}
use Rattle.v_syntax.specs.Source.{module_of}
use Rattle.v_hier.proofs.ClockNames.{clocks-among}
use Rattle.v_hier.proofs.clock.has_clock_as_data.Goals as goal

pub returns : goal.returns
returns c =
    clocks-among (knows c.but-names.result) (has_name c.args.clocks.now) (module_of c.args.within.now) _ c.but-names.ensures c.is_module_known.ensures
