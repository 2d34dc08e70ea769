-- What holds of the values that a script gives, whatever the design is.
use Rattle.std.specs.Prelude.{All}
use Rattle.wb_terms.specs.Environment.{AreOfSorts}
use Rattle.v_design.specs.Parts.{Parts, registers_of, inputs_of}
use Rattle.v_design.specs.Seen.{register_values, input_values}
use Rattle.mapped_designs.specs.Runs.{IsRestZero}
use Rattle.script_cycles.specs.declared.values.ScriptCycles.{ScriptCycles}

-- Each register and each input has a value of its sort, and what does not count of a register is 0.
pub record AreValuesFor (e : Parts) (c : ScriptCycles) : Type 0 where
  pub registers : AreOfSorts (registers_of e) (register_values c.registers)
  pub rest : IsRestZero e (register_values c.registers)
  pub inputs : All (λ i. AreOfSorts (inputs_of e) (input_values i)) c.inputs.items
