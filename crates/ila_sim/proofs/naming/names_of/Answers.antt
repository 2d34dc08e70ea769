use Rattle.std.proofs.Common.{◌≡◌, true, sym, subst}
use Rattle.std.specs.String.{string_bytes}
use Rattle.ila_sim.specs.Names.{are_apart}
use Rattle.ila_sim.proofs.Declared.{states_apart, inputs_apart}
use Rattle.ila_sim.proofs.naming.names_of.Goals as goal

pub invariant_of-result : goal.invariant_of-result
invariant_of-result c =
    let m = c.args.model.now in record {
      states_apart = subst (λ t. are_apart t ≡ true) (sym c.in_ok-states.ensures) (states_apart m.parts (string_bytes m.name) m.well_sorted);
      inputs_apart = subst (λ t. are_apart t ≡ true) (sym c.in_ok-inputs.ensures) (inputs_apart m.parts (string_bytes m.name) m.well_sorted);
    }
