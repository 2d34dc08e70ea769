use Rattle.std.proofs.Common.{ap}
use Rattle.wb_terms.specs.Graph.{Graph}
use Rattle.ila_build.proofs.Declared.{table_empty}
use Rattle.ila_build.proofs.empty.empty_table.Goals as goal

pub returns-clause-table : goal.returns-clause-table
returns-clause-table c = table_empty c.in_ok-terms.terms c.new-known.result (ap (λ (g : Graph). g.names) c.in_ok-terms.ensures) c.new-known.ensures.empty
