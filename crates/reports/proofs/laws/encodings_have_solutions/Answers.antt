use Rattle.model_meaning.specs.Model.{instruction_name}
use Rattle.refinement.specs.Obligation.{Falsifies, IsWholeCommand, bound_named}
use Rattle.reports.proofs.Solved.{has_solutions}
use Rattle.reports.proofs.laws.encodings_have_solutions.Goals as goal

pub returns-clause-obligations : goal.returns-clause-obligations
returns-clause-obligations c = λ s o f m e. has_solutions s o.cycles (λ run. Falsifies s run o) f m e

pub returns-clause-covers : goal.returns-clause-covers
returns-clause-covers c = λ s j i f m e. has_solutions s (bound_named s.map (instruction_name i)) (IsWholeCommand s j) f m e
