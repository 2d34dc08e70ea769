use Rattle.std.proofs.Common.{◌≡◌, ◌+◌, ◌<◌, length, arith, refl, ap, subst}
use Rattle.std.proofs.lemmas.Option.{slice_get_read}
use Rattle.gate_base.specs.Circuit.{Circuit}
use Rattle.gate_base.specs.Clauses.{IsGateBelow}
use Rattle.gate_base.proofs.Copying.{ordered_at}
use Rattle.gate_base.proofs.building.Builder.gate.Goals as goal

pub returns-clause-below : goal.returns-clause-below
returns-clause-below c =
    let gates = c.self.inside.gates.items in
    let long : length gates ≡ length c.args.self.now.gates = ap (λ (g : Circuit). length g.gates) c.self.view_is in
    let within : c.args.place < length gates = omega (arith, long, c.requires) in
    subst (λ (g : Circuit). IsGateBelow (g.inputs + c.args.place) c.index.result.now) c.self.view_is
    (ordered_at c.self.inside.inputs gates c.args.place c.index.result.now c.self.invariant (slice_get_read gates (length gates) c.args.place c.index.result.now refl within c.index.ensures))
