use Rattle.std.proofs.Common.{subst}
use Rattle.gate_base.specs.Circuit.{Circuit, IsDetermined}
use Rattle.gate_base.specs.Clauses.{AreOrdered}
use Rattle.gate_base.proofs.Following.{determined}
use Rattle.gate_base.proofs.building.Builder.is_determined.Goals as goal

pub returns-clause-determined : goal.returns-clause-determined
returns-clause-determined c = subst IsDetermined c.self.view_is (determined _ c.self.invariant)

pub returns-clause-ordered : goal.returns-clause-ordered
returns-clause-ordered c = subst (λ (g : Circuit). AreOrdered g.inputs g.gates) c.self.view_is c.self.invariant
