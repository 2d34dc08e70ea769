-- The design with a map that the code's record stands for.
use Rattle.std.specs.Prelude.{ℕ, map}
use Rattle.wb_terms.specs.declared.nodes.TermId.{TermId}
use Rattle.v_design.specs.Seen.{parts_of}
use Rattle.mapped_designs.specs.declared.design.MappedDesign.{MappedDesign}
use Rattle.mapped_designs.specs.declared.design.MappedInstruction as code
use Rattle.mapped_designs.specs.Mapped.{Mapped, MappedInstruction}

abbrev pub instruction_view : code.MappedInstruction → MappedInstruction
instruction_view i = record { commit = i.commit.0; bound = i.bound }

abbrev pub number_of : TermId → ℕ
number_of id = id.0

abbrev pub mapped_of : MappedDesign → Mapped
mapped_of x = record {
  parts = parts_of x.design;
  reset_cycles = x.reset_cycles;
  reset = x.reset.0;
  start = x.start.0;
  assume = map number_of x.assume.items;
  invariants = map number_of x.invariants.items;
  states = map number_of x.states.items;
  inputs = map number_of x.inputs.items;
  instructions = map instruction_view x.instructions.items;
}
