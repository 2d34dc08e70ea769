-- The parts of an emitted module in the order in which the code makes them.
use Rattle.std.specs.Prelude.{ℕ, Bool, List, [], ◌∷◌, ◌++◌, map}
use Rattle.wb_values.specs.Value.{Name}
use Rattle.verilog_trees.specs.Syntax.{Expression, binary, bitwise_and, Statement, if_then, if_else, Item, always}
use Rattle.verilog_meaning.specs.Settled.{whole_name}
use Rattle.wb_terms.specs.declared.nodes.TermId.{TermId}
use Rattle.wb_terms.specs.Graph.{Graph}
use Rattle.ila_model.specs.declared.parts.Instruction.{Instruction}
use Rattle.ila_model.specs.declared.parts.Parts.{Parts}
use Rattle.ila_model.specs.Meaning.{declared_states}
use Rattle.emitted_designs.specs.Names.{reset_name, go_name, start_name, commit_name}
use Rattle.emitted_modules.specs.Rtl.{wire_item, register_item, in_block, takes, first_takes, writes, kept_words, all_guarded, at_clock}
use Rattle.emitted_modules.specs.Nodes.{operand, node_wires}
use Rattle.emitted_modules.specs.Module.{decode_wires, decodes_of, guarded_from, all_ways, memories_from, ready_of}
use Rattle.emitted_trees.specs.Items.{assigned}

-- the decode conditions of instructions
abbrev pub decodes_among : List Instruction → List TermId
decodes_among is = map (λ i. i.decode) is

-- where wb_go starts something, by the name of the wire that says that exactly one instruction decodes
abbrev pub ready_from : Graph → ℕ → Name → Expression
ready_from g valid one = binary bitwise_and (whole_name go_name) (binary bitwise_and (operand g valid) (whole_name one))

-- the assignments to wb_start and wb_commit
abbrev pub start_items : Expression → List Item
start_items e = assigned start_name e ∷ assigned commit_name (whole_name start_name) ∷ []

abbrev pub registers_and_terms : Parts → (keep : ℕ → Bool) → List Item
registers_and_terms p keep =
    map register_item (declared_states p.terms.names p.initial_values.items) ++ map wire_item (node_wires p.terms keep 0 p.terms.nodes)

-- the wires that say which instruction decodes, and by which way memories are updated
abbrev pub instruction_wires : Graph → List Instruction → List Item
instruction_wires g is = map wire_item (decode_wires (decodes_of g is)) ++ map wire_item (all_ways g (memories_from g 0 is))

-- if (wb_rst) begin .. end else if (wb_start) begin .. end
abbrev pub clocked_for : Parts → Statement
clocked_for p =
    if_else (whole_name reset_name)
    (in_block
    (map takes (first_takes (declared_states p.terms.names p.initial_values.items))
    ++ map writes (kept_words (declared_states p.terms.names p.initial_values.items))))
    (if_then (whole_name start_name) (in_block (all_guarded (guarded_from p.terms 0 p.instructions.items))))

-- all of them
abbrev pub items_for : Parts → (keep : ℕ → Bool) → List Item
items_for p keep = registers_and_terms p keep ++ instruction_wires p.terms p.instructions.items ++ start_items (ready_of p) ++ always at_clock (clocked_for p) ∷ []
