use Rattle.std.specs.Prelude.{◌≡◌, ◌+◌, ◌*◌, ◌^◌, ◌≤◌, drop}
use Rattle.model_meaning.specs.Model.{states_of}
use Rattle.ila_model.specs.Model.{model_of}
use Rattle.check_limits.specs.Limits.{state_bits}
use Rattle.check_limits.proofs.memories.bits_of_states.Given as goal

abbrev pub invariant-loop-place : goal.invariant-loop-place
invariant-loop-place l =
    (l.total + state_bits (drop l.place (states_of (model_of l.model).top)) ≡ state_bits (states_of (model_of l.model).top)) × (l.total ≤ l.place * 2 ^ 23)
