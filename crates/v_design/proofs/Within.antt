-- A term that stands in the store.
use Rattle.std.proofs.Common.{◌<◌, length, Option, Some, None, option_map, IfSome, IsTrue, arith}
use Rattle.std.proofs.lemmas.Bool.Decides.{nat_tests}
use Rattle.wb_terms.specs.Graph.{Graph}
use Rattle.wb_terms.specs.declared.nodes.TermId.{TermId}
use Rattle.v_design.specs.Parts.{is_within}

pub within_some : (g : Graph) (o : Option TermId) → IsTrue (is_within g (option_map (λ id. id.0) o)) → IfSome o (λ id. id.0 < length g.nodes)
within_some g None h = tt
within_some g (Some id) h = grind (arith, nat_tests)
