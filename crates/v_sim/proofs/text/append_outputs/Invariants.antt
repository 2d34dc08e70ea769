use Rattle.std.proofs.Common.{◌≡◌, ◌++◌, List, drop}
use Rattle.std.specs.String.{string_bytes}
use Rattle.std.proofs.Common.{map}
use Rattle.wb_values.specs.Value.{Value}
use Rattle.v_design.specs.Seen.{parts_of}
use Rattle.v_cycle.specs.Running.{HasRun}
use Rattle.v_sim.specs.Texts.{outputs_by}
use Rattle.v_sim.proofs.text.append_outputs.Given as goal

abbrev pub invariant-loop-name : goal.invariant-loop-name
invariant-loop-name l =
    (rs is : List Value) → HasRun (parts_of l.design) l.cycle rs is
    → l.out.items ++ outputs_by (parts_of l.design) rs is (map string_bytes (drop l.name-index l.name-items)) ≡ l.initial.out.items ++ outputs_by (parts_of l.design) rs is (parts_of l.design).outputs
