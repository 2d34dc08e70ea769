-- The values of terms, in their order.
use Rattle.std.specs.Prelude.{List, map}
use Rattle.wb_values.specs.Value.{Value}
use Rattle.wb_terms.specs.declared.nodes.TermId.{TermId}
use Rattle.wb_terms.specs.declared.values.Env.{Env}
use Rattle.wb_terms.specs.Graph.{Graph}
use Rattle.wb_terms.specs.Environment.{value_of}

abbrev pub values_of_terms : Graph → Env → List TermId → List Value
values_of_terms g e ids = map (λ id. value_of g e id.0) ids
