use Rattle.std.proofs.Common.{◌≡◌, true, sym, subst}
use Rattle.v_design.specs.Seen.{parts_of}
use Rattle.v_design.specs.Parts.{registers_of, inputs_of}
use Rattle.ila_sim.specs.Names.{are_apart}
use Rattle.v_sim.specs.Names.{names_by}
use Rattle.v_sim.proofs.Lists.{distinct_take, distinct_drop}
use Rattle.v_sim.proofs.Settings.{registers_named, inputs_named, apart}
use Rattle.v_sim.proofs.naming.names_of.Goals as goal

pub invariant_of-result : goal.invariant_of-result
invariant_of-result c =
    let d = c.args.design.now in
    let e = parts_of d in
    let names = c.name_count.ensures.distinct in record {
      states_apart = subst (λ t. are_apart t ≡ true) (sym c.in_ok-states.ensures)
          (apart (registers_of e) (names_by e).states (registers_named (registers_of e) e.bits d.counting) (distinct_take d.register_count d.terms.names names));
      inputs_apart = subst (λ t. are_apart t ≡ true) (sym c.in_ok-inputs.ensures)
          (apart (inputs_of e) (names_by e).inputs (inputs_named (inputs_of e)) (distinct_drop d.register_count d.terms.names names));
    }
