use Rattle.std.proofs.Common.{◌∙◌, ap}
use Rattle.v_design.specs.Seen.{parts_of, register_values}
use Rattle.v_sim.specs.Texts.{first_values}
use Rattle.script_cycles.proofs.Rest.{first_rest}
use Rattle.script_cycles.proofs.values.cycles_by.Goals as goal

pub returns-clause-registers : goal.returns-clause-registers
returns-clause-registers c = c.in_ok-registers.ensures.values ∙ ap (first_values (parts_of c.args.design.now)) c.deref.ensures.value

pub returns-clause-values : goal.returns-clause-values
returns-clause-values c =
    let design = c.args.design.now in
    let e = parts_of design in record {
      registers = c.in_ok-registers.ensures.sorted;
      rest = first_rest e c.args.script.state.items (register_values c.in_ok-registers.registers) design.counting c.requires.0
          (c.in_ok-registers.ensures.values ∙ ap (first_values e) c.deref.ensures.value);
      inputs = c.in_ok-inputs.ensures.sorted;
    }
