use Rattle.std.proofs.Common.{rules, ◌≡◌, ◌∙◌, length, slice_get, Some, ap, refl, subst}
use Rattle.std.proofs.lemmas.Option.{slice_get_read}
use Rattle.gate_base.specs.Circuit.{Circuit}
use Rattle.gate_base.proofs.building.Builder.place_of.Goals as goal

pub returns-then-eq : goal.returns-then-eq
returns-then-eq c =
    let place = c.in_ok-place.field-0.now in
    let found = c.in_ok-found.field-0.now in
    let gates = c.deref.result.now in
    let stands : slice_get gates place ≡ Some found =
    slice_get_read gates (length gates) place found refl c.in_ok-found.ensures.lookup.3.0 c.in_ok-found.ensures.lookup.1 in
    let same : found ≡ c.args.gate = search rules in
    let held : slice_get c.self.inside.gates.items place ≡ Some found = subst (λ gs. slice_get gs place ≡ Some found) c.deref.ensures.value stands in
    subst (λ (g : Circuit). slice_get g.gates place ≡ Some c.args.gate) c.self.view_is (held ∙ ap Some same)
