use Rattle.std.proofs.Common.{◌≡◌, drop}
use Rattle.std.specs.List.{list_any}
use Rattle.v_clocks.specs.Data.{is_data}
use Rattle.v_clocks.specs.Views.{uses_in}
use Rattle.v_clocks.proofs.data.some_data.Given as goal

abbrev pub invariant-loop-each : goal.invariant-loop-each
invariant-loop-each l = list_any is_data (uses_in l.uses) ≡ list_any is_data (uses_in (drop l.each-index l.uses))
