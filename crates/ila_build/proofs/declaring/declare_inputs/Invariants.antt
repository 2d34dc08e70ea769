use Rattle.std.proofs.Common.{◌≡◌, ◌++◌, true, length, map, drop}
use Rattle.ila_file.specs.View.{input_view}
use Rattle.ila_build.specs.Standing.{IsTable}
use Rattle.ila_build.specs.Declaring.{input_entry}
use Rattle.ila_build.specs.Refusing.{are_sorts, entry_names}
use Rattle.ila_build.proofs.Fresh.{IsBringing}
use Rattle.ila_build.proofs.LeavingLemmas.{IsLeaving}
use Rattle.ila_build.proofs.declaring.declare_inputs.Given as goal

abbrev pub invariant-loop-input : goal.invariant-loop-input
invariant-loop-input l =
    IsLeaving l.fn.terms l.fn.known l.terms l.known (entry_names (map input_entry (map input_view (drop l.input-index l.inputs)))) (length (map input_entry (map input_view (drop l.input-index l.inputs)))) (entry_names (map input_entry (map input_view l.inputs))) (length (map input_entry (map input_view l.inputs)))
    × (l.terms.names ++ map input_entry (map input_view (drop l.input-index l.inputs)) ≡ l.fn.terms.names ++ map input_entry (map input_view l.inputs)) × IsTable l.terms l.known × IsBringing l.fn.known l.known (entry_names (map input_entry (map input_view (drop l.input-index l.inputs)))) (entry_names (map input_entry (map input_view l.inputs)))
    × (are_sorts (map input_entry (map input_view l.inputs)) ≡ true → are_sorts (map input_entry (map input_view (drop l.input-index l.inputs))) ≡ true)
