use Rattle.std.proofs.Common.{◌≡◌, ◌++◌, map, drop, option_map}
use Rattle.wb_terms.specs.Environment.{as_value}
use Rattle.ila_file.specs.View.{state_view}
use Rattle.ila_build.proofs.declaring.initial_values.Given as goal

abbrev pub invariant-loop-state : goal.invariant-loop-state
invariant-loop-state l = map (option_map as_value) l.values.items ++ map (λ s. s.init) (map state_view (drop l.state-index l.states)) ≡ map (λ s. s.init) (map state_view l.states)
