-- The refinement map of an emitted design, as a map, as it is written, and its text.
use Rattle.std.specs.Prelude.{ℕ, true, false, cond, List, [], ◌∷◌, map, codes, decimal}
use Rattle.wb_values.specs.Value.{Name, Entries}
use Rattle.model_meaning.specs.Model.{Model, Instruction, instruction_name, instructions_in}
use Rattle.model_meaning.specs.Invariant.{state_names}
use Rattle.verilog_trees.specs.Syntax.{Expression, number, comparison, equal, Module}
use Rattle.verilog_meaning.specs.Settled.{whole_name}
use Rattle.refinement.specs.Map.{Map, InstructionMap, Setting}
use Rattle.map_files.specs.Written.{Text, InstructionEntry, WrittenMap}
use Rattle.reports.specs.Report.{quoted, in_brackets, in_braces, member_text, is_before}
use Rattle.emitted_designs.specs.Names.{clock_name, reset_name, start_name, commit_name, busy_name}
use Rattle.emitted_designs.specs.Bounds.{instruction_bound, has_children}

-- ---- the map

-- a name put in its place among names that stand in the order of their bytes
abbrev pub with_key : Name → List Name → List Name
with_key n [] = n ∷ []
with_key n (k ∷ ks) = cond (is_before n k) (n ∷ k ∷ ks) (k ∷ with_key n ks)

-- the names in the order of their bytes, as the keys of a map file's objects stand
abbrev pub in_byte_order : List Name → List Name
in_byte_order [] = []
in_byte_order (n ∷ ns) = with_key n (in_byte_order ns)

abbrev pub mapped_state_names : Model → List Name
mapped_state_names m = in_byte_order (state_names m.top)

abbrev pub mapped_input_names : Model → List Name
mapped_input_names m = in_byte_order (map (λ i. i.input_name) m.inputs)

-- the number 0 as it is written without a size
abbrev pub zero_number : Expression
zero_number = number (record { width = 32; sized = false; signed = true; value = 0; unknown = 0; wild = 0; has_unknown = false; has_wild = false })

-- no child program runs: `wb_busy == 0`
abbrev pub rest_expression : Expression
rest_expression = comparison equal (whole_name busy_name) zero_number

-- each name stands for itself
abbrev pub by_their_names : List Name → Entries Expression
by_their_names ns = map (λ n. (n, whole_name n)) ns

abbrev pub entry_for : Instruction → InstructionMap
entry_for i = record { called = instruction_name i; commit = whole_name commit_name; bound = instruction_bound i }

-- The map of an emitted design: one cycle of reset; each state and input is the register or port of its name; an instruction starts at
-- wb_start and ends at wb_commit, within its bound. Where some instruction has a child, wb_busy is 0 between commands.
abbrev pub emitted_map : Model → Map
emitted_map m = record {
  top = m.model_name;
  clock = clock_name;
  reset_signal = reset_name;
  reset_active = 1;
  reset_cycles = 1;
  assume = [];
  invariants = cond (has_children m) (rest_expression ∷ []) [];
  start = whole_name start_name;
  states = by_their_names (mapped_state_names m);
  inputs = by_their_names (mapped_input_names m);
  instructions = map entry_for (instructions_in m.top);
}

-- What is claimed of an emitted module: that it refines the model under this map.
abbrev pub setting_of : Model → Module → Setting
setting_of m x = record { model = m; source = x ∷ []; map = emitted_map m }

-- ---- as it is written

abbrev pub written_by_their_names : List Name → Entries Text
written_by_their_names ns = map (λ n. (n, n)) ns

abbrev pub written_entry_for : Instruction → InstructionEntry
written_entry_for i = record { called = instruction_name i; commit = commit_name; bound = instruction_bound i }

-- the same map, with the texts of its expressions
abbrev pub written_map : Model → WrittenMap
written_map m = record {
  top = m.model_name;
  clock = clock_name;
  reset = record { signal = reset_name; active = 1; cycles = 1 };
  assume = [];
  invariants = cond (has_children m) (codes "wb_busy == 0" ∷ []) [];
  start = start_name;
  states = written_by_their_names (mapped_state_names m);
  inputs = written_by_their_names (mapped_input_names m);
  instructions = map written_entry_for (instructions_in m.top);
}

-- ---- its text

abbrev pub text_members : Entries Text → List (List ℕ)
text_members es = map (λ e. member_text e.0 (quoted e.1)) es

abbrev pub entry_text : InstructionEntry → List ℕ
entry_text i =
    in_braces
    (member_text (codes "bound") (decimal i.bound) ∷ member_text (codes "commit") (quoted i.commit)
    ∷ member_text (codes "name") (quoted i.called) ∷ [])

-- A written map as compact JSON, its keys in the order of their bytes. No text in it has a character that JSON writes otherwise.
abbrev pub map_text : WrittenMap → List ℕ
map_text w =
    in_braces
    (member_text (codes "assume") (in_brackets (map quoted w.assume))
    ∷ member_text (codes "clock") (quoted w.clock)
    ∷ member_text (codes "inputs") (in_braces (text_members w.inputs))
    ∷ member_text (codes "instructions") (in_brackets (map entry_text w.instructions))
    ∷ member_text (codes "invariants") (in_brackets (map quoted w.invariants))
    ∷ member_text (codes "reset")
    (in_braces
    (member_text (codes "active") (decimal w.reset.active) ∷ member_text (codes "cycles") (decimal w.reset.cycles)
    ∷ member_text (codes "signal") (quoted w.reset.signal) ∷ []))
    ∷ member_text (codes "start") (quoted w.start)
    ∷ member_text (codes "states") (in_braces (text_members w.states))
    ∷ member_text (codes "top") (quoted w.top)
    ∷ member_text (codes "version") (decimal 1)
    ∷ [])
