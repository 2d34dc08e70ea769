use Rattle.std.proofs.Common.{◌≡◌, drop}
use Rattle.wb_values.specs.Value.{Name}
use Rattle.wb_values.specs.Choice.{first_of}
use Rattle.refinement.specs.Map.{sort_of_input}
use Rattle.ila_model.specs.Model.{model_of}
use Rattle.map_rules.specs.Case.{input_sort}
use Rattle.map_sorts.specs.Tables.{sort_in}
use Rattle.map_sorts.proofs.sorts.input_sorts.Given as goal

abbrev pub invariant-loop-place : goal.invariant-loop-place
invariant-loop-place l =
    (q : Name) → first_of (sort_in l.table q) (sort_of_input (drop l.place (model_of l.model).inputs) q) ≡ input_sort (model_of l.model) q
