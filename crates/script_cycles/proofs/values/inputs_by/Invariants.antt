use Rattle.std.proofs.Common.{◌≡◌, ◌++◌, All, IsTrue, map}
use Rattle.std.specs.List.{list_all}
use Rattle.wb_terms.specs.Environment.{AreOfSorts}
use Rattle.v_design.specs.Seen.{parts_of, input_values}
use Rattle.v_design.specs.Parts.{inputs_of}
use Rattle.ila_sim.specs.Sets.{are_right}
use Rattle.v_sim.specs.Names.{names_by}
use Rattle.v_sim.specs.Texts.{line_values, input_lines}
use Rattle.script_cycles.proofs.values.inputs_by.Given as goal

abbrev pub invariant-loop-sets : goal.invariant-loop-sets
invariant-loop-sets l = record {
  right : IsTrue (list_all (λ sets. are_right (names_by (parts_of l.design)).inputs sets.items) l.sets-iterator.rest.items);
  values : map input_values l.list.items ++ map (line_values (parts_of l.design)) (input_lines l.sets-iterator.rest.items)
      ≡ map (line_values (parts_of l.design)) (input_lines l.fn.lines.items);
  sorted : All (λ i. AreOfSorts (inputs_of (parts_of l.design)) (input_values i)) l.list.items;
}
