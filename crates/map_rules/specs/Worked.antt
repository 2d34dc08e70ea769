-- The counter's map as it is written, and changes of it; and a small design.
use Rattle.std.specs.Prelude.{ℕ, List, [], ◌∷◌, None, codes}
use Rattle.wb_values.specs.Value.{Name, Entries}
use Rattle.model_meaning.specs.Worked.{counter}
use Rattle.map_files.specs.Written.{Text, InstructionEntry, WrittenMap}
use Rattle.verilog_trees.specs.Syntax.{input, output, by_order, declared, Module}
use Rattle.verilog_meaning.specs.Expression.{Scope}
use Rattle.verilog_meaning.specs.Settled.{Design}
use Rattle.verilog_designs.specs.Worked.{range, port_as, a, b, q, instance_of, child}
use Rattle.map_rules.specs.Case.{MapCase}
use Rattle.map_rules.specs.Expressions.{design_scope}

abbrev pub entry : Name → ℕ → InstructionEntry
entry n b = record { called = n; commit = codes "1"; bound = b }

abbrev pub map_with : Entries Text → Entries Text → (cycles : ℕ) → List InstructionEntry → WrittenMap
map_with ss ws k is = record {
  top = codes "counter";
  clock = codes "clk";
  reset = record { signal = codes "rst"; active = 1; cycles = k };
  assume = [];
  invariants = [];
  start = codes "go";
  states = ss;
  inputs = ws;
  instructions = is;
}

abbrev pub cnt : Entries Text
cnt = (codes "cnt", codes "cnt") ∷ []

abbrev pub op : Entries Text
op = (codes "op", codes "op") ∷ []

abbrev pub both : List InstructionEntry
both = entry (codes "INC") 1 ∷ entry (codes "CLR") 1 ∷ []

-- The counter's model under a map of these states, inputs, cycles of reset and instructions. The rules of the worked cases do not ask
-- for the source.
abbrev pub counter_under : Entries Text → Entries Text → (cycles : ℕ) → List InstructionEntry → MapCase
counter_under ss ws k is = record { written = map_with ss ws k is; model = counter; source = [] }

-- ---- a small design

-- module top(input clk, input rst, input [3:0] a, input [5:5] b, output q); t u(); endmodule
abbrev pub top : Module
top = record {
  module_name = codes "top";
  parameters = [];
  ports =
      declared
      (port_as input None None (codes "clk") ∷ port_as input None None (codes "rst") ∷ port_as input None (range 3 0) a ∷ port_as input None (range 5 5) b
      ∷ port_as output None None q ∷ []);
  items = instance_of (by_order []) ∷ [];
}

-- it and module t(input [3:0] a, output q)
abbrev pub small_design : Design
small_design = record { source = top ∷ child ∷ []; top = codes "top"; clock = codes "clk" }

abbrev pub small_scope : Scope
small_scope = design_scope small_design
