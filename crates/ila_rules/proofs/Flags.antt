-- Which rules the parts of a model file break, without the places: gathered part after part.
use Rattle.std.specs.Prelude.{Bool, false, not, ◌||◌, List, [], ◌∷◌, Option, Some, None}
use Rattle.wb_values.specs.Value.{Sort, Value, Entries}
use Rattle.model_meaning.specs.Term.{is_sort}
use Rattle.model_meaning.specs.Model.{StateDeclaration, InputDeclaration}
use Rattle.model_files.specs.Written.{WrittenTerm, WrittenMachine, machine, WrittenInstruction, instruction, WrittenInstructions, no_instructions, and_then, WrittenChild, no_child, child, WrittenModel}
use Rattle.model_files.specs.Rules.{has_widths, has_fitting_constants, fits_sort}
use Rattle.ila_rules.specs.Seen.{LookUp, States, with_name, sort_at, memory_at, uses_unknown, brief_at, Role, definition, fetch, condition, update, updates_none, has_role_sort, copies_at}
use Rattle.ila_rules.specs.Flaws.{look_inputs, look_states, look_fetch, look_within, states_within}

-- the rules that were broken so far
pub record Flags : Type 0 where
  pub unknown_name : Bool
  pub bad_width : Bool
  pub bad_sort : Bool
  pub bad_number : Bool
  pub memory_copy : Bool

abbrev pub no_flags : Flags
no_flags = record { unknown_name = false; bad_width = false; bad_sort = false; bad_number = false; memory_copy = false }

unfoldable pub term_flags : LookUp → Role → WrittenTerm → Flags → Flags
term_flags look role e f = record {
  unknown_name = f.unknown_name || (uses_unknown look e || updates_none role);
  bad_width = f.bad_width || not (has_widths e);
  bad_sort = f.bad_sort || not (has_role_sort role (sort_at look e));
  bad_number = f.bad_number || not (has_fitting_constants e);
  memory_copy = f.memory_copy || copies_at role (memory_at look e);
}

unfoldable pub declared_flags : Sort → Option Value → Flags → Flags
declared_flags s x f = record {
  unknown_name = f.unknown_name;
  bad_width = f.bad_width || not (is_sort s);
  bad_sort = f.bad_sort;
  bad_number = f.bad_number || not (fits_sort s x);
  memory_copy = f.memory_copy;
}

abbrev pub input_flags : List InputDeclaration → Flags → Flags
input_flags [] f = f
input_flags (i ∷ is) f = input_flags is (declared_flags i.sort None f)

abbrev pub state_flags : List StateDeclaration → Flags → Flags
state_flags [] f = f
state_flags (s ∷ ss) f = state_flags ss (declared_flags s.sort s.init f)

abbrev pub definition_flags : LookUp → Entries WrittenTerm → Flags → Flags
definition_flags look [] f = f
definition_flags look (d ∷ ds) f = definition_flags (with_name d.0 (brief_at look d.1) look) ds (term_flags look definition d.1 f)

abbrev pub fetch_flags : LookUp → Option WrittenTerm → Flags → Flags
fetch_flags look None f = f
fetch_flags look (Some e) f = term_flags look fetch e f

abbrev pub update_flags : LookUp → States → Entries WrittenTerm → Flags → Flags
update_flags look states [] f = f
update_flags look states (u ∷ us) f = update_flags look states us (term_flags look (update u.0 (states u.0)) u.1 f)

-- the flags of a machine, but for its instructions
abbrev pub head_flags : LookUp → List StateDeclaration → Entries WrittenTerm → Option WrittenTerm → WrittenTerm → Flags → Flags
head_flags look ss ds f v flags =
    term_flags (look_fetch (look_within look ss ds) f) condition v
    (fetch_flags (look_within look ss ds) f (definition_flags (look_states look ss) ds (state_flags ss flags)))

-- the flags of an instruction, but for its child
abbrev pub own_flags : LookUp → States → WrittenTerm → Entries WrittenTerm → Flags → Flags
own_flags look states decode us flags = update_flags look states us (term_flags look condition decode flags)

abbrev mutual
  pub machine_flags : LookUp → States → WrittenMachine → Flags → Flags
  machine_flags look states (machine ss ds f v is) flags =
      instructions_flags (look_within look ss ds) (look_fetch (look_within look ss ds) f) (states_within states ss) is (head_flags look ss ds f v flags)

  pub instructions_flags : LookUp → LookUp → States → WrittenInstructions → Flags → Flags
  instructions_flags inner look states no_instructions flags = flags
  instructions_flags inner look states (and_then i is) flags =
      instructions_flags inner look states is (instruction_flags inner look states i flags)

  pub instruction_flags : LookUp → LookUp → States → WrittenInstruction → Flags → Flags
  instruction_flags inner look states (instruction called decode us program) flags =
      child_flags inner states program (own_flags look states decode us flags)

  pub child_flags : LookUp → States → WrittenChild → Flags → Flags
  child_flags inner states no_child flags = flags
  child_flags inner states (child steps program) flags = machine_flags inner states program flags

-- The flags of the states and the terms of a whole file.
abbrev pub model_flags : WrittenModel → Flags
model_flags m = machine_flags (look_inputs (λ n. None) m.inputs) (λ n. None) m.top (input_flags m.inputs no_flags)
