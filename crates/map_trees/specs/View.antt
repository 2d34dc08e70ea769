-- The map of refinement that the code's map with trees stands for.
use Rattle.std.specs.Prelude.{List, map}
use Rattle.std.specs.String.{string_bytes}
use Rattle.wb_values.specs.Value.{Name}
use Rattle.verilog_trees.specs.Syntax.{Expression}
use Rattle.refinement.specs.Map.{Map, InstructionMap}
use Rattle.v_syntax.specs.Tree.{tree_of}
use Rattle.map_file.specs.View.{level}
use Rattle.map_trees.specs.declared.trees.MappedTree.{MappedTree}
use Rattle.map_trees.specs.declared.trees.InstructionTree.{InstructionTree}
use Rattle.map_trees.specs.declared.trees.RefinementMap.{RefinementMap}

abbrev pub mapped_tree_view : MappedTree → Name × Expression
mapped_tree_view m = (m.name.now, tree_of m.tree)

abbrev pub instruction_tree_view : InstructionTree → InstructionMap
instruction_tree_view i = record { called = i.name.now; commit = tree_of i.commit; bound = i.bound }

abbrev pub tree_map_view : RefinementMap → Map
tree_map_view r = record {
  top = string_bytes r.written.now.top;
  clock = string_bytes r.written.now.clock;
  reset_signal = string_bytes r.written.now.reset.signal;
  reset_active = level r.written.now.reset.is_active_high;
  reset_cycles = r.written.now.reset.cycles;
  assume = map tree_of r.assume.items;
  invariants = map tree_of r.invariants.items;
  start = tree_of r.start;
  states = map mapped_tree_view r.states.items;
  inputs = map mapped_tree_view r.inputs.items;
  instructions = map instruction_tree_view r.instructions.items;
}
