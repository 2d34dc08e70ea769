use Rattle.std.proofs.Common.{◌≡◌, map, drop}
use Rattle.std.specs.Prelude.{is_some}
use Rattle.std.specs.List.{list_all}
use Rattle.ila_file.specs.View.{state_view}
use Rattle.ila_build.proofs.child.have_values.Given as goal

abbrev pub invariant-loop-state : goal.invariant-loop-state
invariant-loop-state l = list_all (λ s. is_some s.init) (map state_view l.states) ≡ list_all (λ s. is_some s.init) (map state_view (drop l.state-index l.states))
