use Rattle.std.proofs.Common.{◌≡◌, ◌++◌, true, length, map, drop}
use Rattle.ila_file.specs.View.{state_view}
use Rattle.ila_build.specs.Standing.{IsTable}
use Rattle.ila_build.specs.Declaring.{state_entry}
use Rattle.ila_build.specs.Refusing.{are_sorts, entry_names}
use Rattle.ila_build.proofs.Fresh.{IsBringing}
use Rattle.ila_build.proofs.LeavingLemmas.{IsLeaving}
use Rattle.ila_build.proofs.declaring.declare_states.Given as goal

abbrev pub invariant-loop-state : goal.invariant-loop-state
invariant-loop-state l =
    IsLeaving l.fn.terms l.fn.known l.terms l.known (entry_names (map state_entry (map state_view (drop l.state-index l.states)))) (length (map state_entry (map state_view (drop l.state-index l.states)))) (entry_names (map state_entry (map state_view l.states))) (length (map state_entry (map state_view l.states)))
    × (l.terms.names ++ map state_entry (map state_view (drop l.state-index l.states)) ≡ l.fn.terms.names ++ map state_entry (map state_view l.states)) × IsTable l.terms l.known × IsBringing l.fn.known l.known (entry_names (map state_entry (map state_view (drop l.state-index l.states)))) (entry_names (map state_entry (map state_view l.states)))
    × (are_sorts (map state_entry (map state_view l.states)) ≡ true → are_sorts (map state_entry (map state_view (drop l.state-index l.states))) ≡ true)
