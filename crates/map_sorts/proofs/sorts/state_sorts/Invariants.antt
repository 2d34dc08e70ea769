use Rattle.std.proofs.Common.{◌≡◌, drop}
use Rattle.wb_values.specs.Value.{Name}
use Rattle.wb_values.specs.Choice.{first_of}
use Rattle.model_meaning.specs.Model.{states_of, state_named}
use Rattle.refinement.specs.Map.{sort_of_state}
use Rattle.ila_model.specs.Model.{model_of}
use Rattle.map_rules.specs.Case.{state_sort}
use Rattle.map_sorts.specs.Tables.{sort_in}
use Rattle.map_sorts.proofs.sorts.state_sorts.Given as goal

abbrev pub invariant-loop-place : goal.invariant-loop-place
invariant-loop-place l =
    (q : Name) → first_of (sort_in l.table q) (sort_of_state (state_named (drop l.place (states_of (model_of l.model).top)) q)) ≡ state_sort (model_of l.model) q
