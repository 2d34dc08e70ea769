-- The first places at which the parts of a model file break rules, gathered part after part.
use Rattle.std.specs.Prelude.{ℕ, ◌+◌, ◌-◌, Bool, not, ◌||◌, List, [], ◌∷◌, length, take, Option, Some, None, codes}
use Rattle.wb_values.specs.Choice.{first_of, some_if}
use Rattle.wb_values.specs.Value.{Name, same_name, Sort, Value, Entries}
use Rattle.model_meaning.specs.Term.{is_sort}
use Rattle.model_meaning.specs.Model.{StateDeclaration, InputDeclaration}
use Rattle.model_files.specs.Written.{WrittenTerm, WrittenMachine, machine, WrittenInstruction, instruction, WrittenInstructions, no_instructions, and_then, WrittenChild, no_child, child, WrittenModel}
use Rattle.model_files.specs.Rules.{has_widths, has_fitting_constants, fits_sort}
use Rattle.model_places.specs.Sites.{Way, into, Spot, key_spot, item_spot, part_spot, instruction_spot, update_spot}
use Rattle.model_places.specs.Notes.{note_at}
use Rattle.ila_rules.specs.Seen.{LookUp, States, with_name, sort_at, memory_at, uses_unknown, brief_at, brief_declared, Role, definition, fetch, condition, update, updates_none, has_role_sort, copies_at}

-- the way to the machine that is looked at, and the note of the first place of each rule that was broken so far
pub record Flaws : Type 0 where
  pub way : Way
  pub unknown_name : Option (List ℕ)
  pub bad_width : Option (List ℕ)
  pub bad_sort : Option (List ℕ)
  pub bad_number : Option (List ℕ)
  pub memory_copy : Option (List ℕ)

abbrev pub no_flaws : Flaws
no_flaws = record { way = []; unknown_name = None; bad_width = None; bad_sort = None; bad_number = None; memory_copy = None }

-- the note that was kept, or else this one if the rule is broken here
abbrev pub kept_first : Option (List ℕ) → (broken : Bool) → List ℕ → Option (List ℕ)
kept_first kept broken note = first_of kept (some_if broken note)

-- the same on the way to the machine of a child, and back
abbrev pub on_way : Way → Flaws → Flaws
on_way w f = record {
  way = w;
  unknown_name = f.unknown_name;
  bad_width = f.bad_width;
  bad_sort = f.bad_sort;
  bad_number = f.bad_number;
  memory_copy = f.memory_copy;
}

abbrev pub entered : (instruction : ℕ) → Flaws → Flaws
entered k f = on_way (into f.way k) f

abbrev pub left : Flaws → Flaws
left f = on_way (take (length f.way - 1) f.way) f

unfoldable pub with_term : LookUp → Role → Spot → WrittenTerm → Flaws → Flaws
with_term look role spot e f = record {
  way = f.way;
  unknown_name = kept_first f.unknown_name (uses_unknown look e || updates_none role) (note_at f.way spot);
  bad_width = kept_first f.bad_width (not (has_widths e)) (note_at f.way spot);
  bad_sort = kept_first f.bad_sort (not (has_role_sort role (sort_at look e))) (note_at f.way spot);
  bad_number = kept_first f.bad_number (not (has_fitting_constants e)) (note_at f.way spot);
  memory_copy = kept_first f.memory_copy (copies_at role (memory_at look e)) (note_at f.way spot);
}

unfoldable pub with_declared : Spot → Sort → Option Value → Flaws → Flaws
with_declared spot s x f = record {
  way = f.way;
  unknown_name = f.unknown_name;
  bad_width = kept_first f.bad_width (not (is_sort s)) (note_at f.way spot);
  bad_sort = f.bad_sort;
  bad_number = kept_first f.bad_number (not (fits_sort s x)) (note_at f.way spot);
  memory_copy = f.memory_copy;
}

abbrev pub input_flaws : ℕ → List InputDeclaration → Flaws → Flaws
input_flaws k [] f = f
input_flaws k (i ∷ is) f = input_flaws (k + 1) is (with_declared (item_spot (codes "inputs") k (Some i.input_name)) i.sort None f)

abbrev pub state_flaws : ℕ → List StateDeclaration → Flaws → Flaws
state_flaws k [] f = f
state_flaws k (s ∷ ss) f = state_flaws (k + 1) ss (with_declared (item_spot (codes "states") k (Some s.state_name)) s.sort s.init f)

abbrev pub definition_flaws : LookUp → ℕ → Entries WrittenTerm → Flaws → Flaws
definition_flaws look k [] f = f
definition_flaws look k (d ∷ ds) f =
    definition_flaws (with_name d.0 (brief_at look d.1) look) (k + 1) ds (with_term look definition (item_spot (codes "define") k (Some d.0)) d.1 f)

abbrev pub fetch_flaws : LookUp → Option WrittenTerm → Flaws → Flaws
fetch_flaws look None f = f
fetch_flaws look (Some e) f = with_term look fetch (key_spot (codes "fetch")) e f

abbrev pub update_flaws : LookUp → States → (index : ℕ) → (called : Name) → Entries WrittenTerm → Flaws → Flaws
update_flaws look states k n [] f = f
update_flaws look states k n (u ∷ us) f =
    update_flaws look states k n us (with_term look (update u.0 (states u.0)) (update_spot k n u.0) u.1 f)

-- ---- look-ups within a machine

abbrev pub look_inputs : LookUp → List InputDeclaration → LookUp
look_inputs look [] = look
look_inputs look (i ∷ is) = look_inputs (with_name i.input_name (brief_declared i.input_name i.sort) look) is

abbrev pub look_states : LookUp → List StateDeclaration → LookUp
look_states look [] = look
look_states look (s ∷ ss) = look_states (with_name s.state_name (brief_declared s.state_name s.sort) look) ss

abbrev pub look_definitions : LookUp → Entries WrittenTerm → LookUp
look_definitions look [] = look
look_definitions look (d ∷ ds) = look_definitions (with_name d.0 (brief_at look d.1) look) ds

abbrev pub look_fetch : LookUp → Option WrittenTerm → LookUp
look_fetch look None = look
look_fetch look (Some e) = with_name (codes "fetch") (brief_at look e) look

-- Of several states with one name, the outermost counts.
abbrev pub with_state : Name → Sort → States → States
with_state k s states n = first_of (states n) (some_if (same_name k n) s)

abbrev pub states_within : States → List StateDeclaration → States
states_within states [] = states
states_within states (s ∷ ss) = states_within (with_state s.state_name s.sort states) ss

-- what a machine's instructions may use of its names, without fetch
abbrev pub look_within : LookUp → List StateDeclaration → Entries WrittenTerm → LookUp
look_within look ss ds = look_definitions (look_states look ss) ds

-- the flaws of a machine, but for its instructions
abbrev pub head_flaws : LookUp → List StateDeclaration → Entries WrittenTerm → Option WrittenTerm → WrittenTerm → Flaws → Flaws
head_flaws look ss ds f v flaws =
    with_term (look_fetch (look_within look ss ds) f) condition (key_spot (codes "valid")) v
    (fetch_flaws (look_within look ss ds) f (definition_flaws (look_states look ss) 0 ds (state_flaws 0 ss flaws)))

-- the flaws of an instruction, but for its child
abbrev pub own_flaws : LookUp → States → (index : ℕ) → (called : Name) → WrittenTerm → Entries WrittenTerm → Flaws → Flaws
own_flaws look states k n decode us flaws =
    update_flaws look states k n us (with_term look condition (part_spot (instruction_spot k n) (codes "decode")) decode flaws)

abbrev mutual
  pub machine_flaws : LookUp → States → WrittenMachine → Flaws → Flaws
  machine_flaws look states (machine ss ds f v is) flaws =
      instructions_flaws (look_within look ss ds) (look_fetch (look_within look ss ds) f) (states_within states ss) 0 is (head_flaws look ss ds f v flaws)

  pub instructions_flaws : LookUp → LookUp → States → ℕ → WrittenInstructions → Flaws → Flaws
  instructions_flaws inner look states k no_instructions flaws = flaws
  instructions_flaws inner look states k (and_then i is) flaws =
      instructions_flaws inner look states (k + 1) is (instruction_flaws inner look states k i flaws)

  pub instruction_flaws : LookUp → LookUp → States → ℕ → WrittenInstruction → Flaws → Flaws
  instruction_flaws inner look states k (instruction called decode us program) flaws =
      child_flaws inner states k program (own_flaws look states k called decode us flaws)

  pub child_flaws : LookUp → States → (index : ℕ) → WrittenChild → Flaws → Flaws
  child_flaws inner states k no_child flaws = flaws
  child_flaws inner states k (child steps program) flaws = left (machine_flaws inner states program (entered k flaws))

-- The flaws of the states and the terms of a whole file.
abbrev pub model_flaws : WrittenModel → Flaws
model_flaws m = machine_flaws (look_inputs (λ n. None) m.inputs) (λ n. None) m.top (input_flaws 0 m.inputs no_flaws)
