-- The emitted module of a model without child programs.
use Rattle.std.specs.Prelude.{ℕ, suc, Bool, cond, List, [], ◌∷◌, ◌++◌, map, length, drop, codes, decimal}
use Rattle.wb_values.specs.Value.{Name, truth, Entries}
use Rattle.model_meaning.specs.Term.{is_memory_sort}
use Rattle.verilog_trees.specs.Syntax.{Expression, unary, complement, binary, bitwise_and, conditional, Module}
use Rattle.verilog_meaning.specs.Settled.{whole_name}
use Rattle.term_expressions.specs.Expressions.{sized}
use Rattle.wb_terms.specs.Graph.{Graph}
use Rattle.ila_model.specs.declared.parts.Update.{Update}
use Rattle.ila_model.specs.declared.parts.Instruction.{Instruction}
use Rattle.ila_model.specs.declared.parts.Parts.{Parts}
use Rattle.ila_model.specs.Meaning.{declared_states, declared_inputs}
use Rattle.ila_model.specs.Sorted.{sort_at}
use Rattle.emitted_designs.specs.Names.{go_name}
use Rattle.emitted_modules.specs.Rtl.{Wire, Stored, Guarded, Rtl, module_of}
use Rattle.emitted_modules.specs.Nodes.{operand, called_at, node_wires}
use Rattle.emitted_modules.specs.Stores.{MemoryUpdate, via_wires, stores_of}

-- ---- which instruction decodes

-- none of the last k instructions decodes; exactly one of them does
abbrev pub none_name : ℕ → Name
none_name k = codes "wb_none_" ++ decimal k

abbrev pub one_name : ℕ → Name
one_name k = codes "wb_one_" ++ decimal k

abbrev pub bit_wire : Name → Expression → Wire
bit_wire n e = record { wire_name = n; sort = truth; expression = e }

-- one more instruction, with this decode condition, in front of k
abbrev pub none_wire : Expression → ℕ → Wire
none_wire d k = bit_wire (none_name (suc k)) (binary bitwise_and (unary complement d) (whole_name (none_name k)))

abbrev pub one_wire : Expression → ℕ → Wire
one_wire d k = bit_wire (one_name (suc k)) (conditional d (whole_name (none_name k)) (whole_name (one_name k)))

-- from the last instruction to the first
abbrev pub decode_wires : List Expression → List Wire
decode_wires [] = bit_wire (none_name 0) (sized 1 1) ∷ bit_wire (one_name 0) (sized 1 0) ∷ []
decode_wires (d ∷ ds) = decode_wires ds ++ none_wire d (length ds) ∷ one_wire d (length ds) ∷ []

abbrev pub decodes_of : Graph → List Instruction → List Expression
decodes_of g is = map (λ i. operand g i.decode.0) is

-- ---- the module

abbrev pub update_for : Graph → Update → Name × Expression
update_for g u = (called_at g.names u.state.0, operand g u.term.0)

-- the updates of truth values and words, and those of memories
abbrev pub is_of_memory : Graph → Update → Bool
is_of_memory g u = is_memory_sort (sort_at g.names u.state.0)

abbrev pub updates_for : Graph → List Update → Entries Expression
updates_for g [] = []
updates_for g (u ∷ us) = cond (is_of_memory g u) (updates_for g us) (update_for g u ∷ updates_for g us)

-- of instruction j, with this decode condition
abbrev pub memory_update : Graph → (j : ℕ) → Expression → Update → MemoryUpdate
memory_update g j d u = record { instruction = j; decode = d; memory_name = called_at g.names u.state.0; term = u.term.0 }

abbrev pub memory_updates : Graph → (j : ℕ) → Expression → List Update → List MemoryUpdate
memory_updates g j d [] = []
memory_updates g j d (u ∷ us) = cond (is_of_memory g u) (memory_update g j d u ∷ []) [] ++ memory_updates g j d us

abbrev pub all_stores : Graph → List MemoryUpdate → List Stored
all_stores g [] = []
all_stores g (u ∷ us) = stores_of g u (suc u.term) ++ all_stores g us

abbrev pub all_ways : Graph → List MemoryUpdate → List Wire
all_ways g [] = []
all_ways g (u ∷ us) = via_wires g u (suc u.term) ++ all_ways g us

abbrev pub memories_for : Graph → (j : ℕ) → Instruction → List MemoryUpdate
memories_for g j i = memory_updates g j (operand g i.decode.0) i.updates.items

abbrev pub guarded_for : Graph → (j : ℕ) → Instruction → Guarded
guarded_for g j i = record { guard = operand g i.decode.0; updates = updates_for g i.updates.items; stores = all_stores g (memories_for g j i) }

-- the instructions from number j on
abbrev pub guarded_from : Graph → (j : ℕ) → List Instruction → List Guarded
guarded_from g j [] = []
guarded_from g j (i ∷ is) = guarded_for g j i ∷ guarded_from g (suc j) is

abbrev pub memories_from : Graph → (j : ℕ) → List Instruction → List MemoryUpdate
memories_from g j [] = []
memories_from g j (i ∷ is) = memories_for g j i ++ memories_from g (suc j) is

-- wb_go, the valid condition, and exactly one decode condition
abbrev pub ready_of : Parts → Expression
ready_of p =
    binary bitwise_and (whole_name go_name)
    (binary bitwise_and (operand p.terms p.valid.0) (whole_name (one_name (length p.instructions.items))))

abbrev pub rtl_of : Name → Parts → (keep : ℕ → Bool) → Rtl
rtl_of name p keep = record {
  called = name;
  inputs = declared_inputs p.inputs (drop (length p.initial_values.items) p.terms.names);
  registers = declared_states p.terms.names p.initial_values.items;
  wires =
      node_wires p.terms keep 0 p.terms.nodes
      ++ (decode_wires (decodes_of p.terms p.instructions.items) ++ all_ways p.terms (memories_from p.terms 0 p.instructions.items));
  ready = ready_of p;
  guarded = guarded_from p.terms 0 p.instructions.items;
}

-- The emitted module, with a wire for each node that is kept.
abbrev pub emitted_module : Name → Parts → (keep : ℕ → Bool) → Module
emitted_module name p keep = module_of (rtl_of name p keep)
