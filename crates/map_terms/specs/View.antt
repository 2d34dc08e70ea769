-- What the code's records stand for.
use Rattle.std.specs.Prelude.{map}
use Rattle.std.specs.String.{string_bytes}
use Rattle.wb_values.specs.Value.{Name, Sort}
use Rattle.wb_terms.specs.Sort.{as_sort}
use Rattle.verilog_trees.specs.Syntax.{Source}
use Rattle.ila_model.specs.declared.model.IlaModel.{IlaModel}
use Rattle.ila_model.specs.declared.parts.Instruction.{Instruction}
use Rattle.ila_model.specs.Model.{model_of}
use Rattle.refinement.specs.Map.{Setting}
use Rattle.map_trees.specs.declared.trees.RefinementMap.{RefinementMap}
use Rattle.map_trees.specs.View.{tree_map_view}
use Rattle.mapped_designs.specs.View.{number_of, instruction_view}
use Rattle.map_terms.specs.declared.states.Wanted.{Wanted}
use Rattle.map_terms.specs.declared.terms.MapTerms.{MapTerms}
use Rattle.map_terms.specs.Terms.{TermsOfMap}

-- that the source refines the model under the map
abbrev pub setting_of : IlaModel → RefinementMap → Source → Setting
setting_of m r source = record { model = model_of m; source = source; map = tree_map_view r }

abbrev pub wanted_view : Wanted → Name × Sort
wanted_view w = (w.name.now, as_sort w.sort)

abbrev pub called_of : Instruction → Name
called_of i = string_bytes i.name

abbrev pub map_terms_view : MapTerms → TermsOfMap
map_terms_view r = record {
  start = r.start.0;
  assume = map number_of r.assume.items;
  invariants = map number_of r.invariants.items;
  states = map number_of r.states.items;
  inputs = map number_of r.inputs.items;
  instructions = map instruction_view r.instructions.items;
}
