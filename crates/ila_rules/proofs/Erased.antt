-- What is gathered with places tells the same as what is gathered without.
use Rattle.std.proofs.Common.{◌≡◌, ℕ, ◌+◌, Bool, true, false, not, ◌||◌, List, [], ◌∷◌, map, Option, Some, None, refl, ap, ◌∙◌, codes}
use Rattle.std.specs.Prelude.{is_some}
use Rattle.wb_values.specs.Value.{Name, Sort, Value, Entries}
use Rattle.wb_values.specs.Names.{is_model_name}
use Rattle.model_meaning.specs.Term.{is_sort}
use Rattle.model_meaning.specs.Model.{StateDeclaration, InputDeclaration}
use Rattle.model_files.specs.Written.{WrittenTerm, WrittenMachine, machine, WrittenInstruction, instruction, WrittenInstructions, no_instructions, and_then, WrittenChild, no_child, child, WrittenModel}
use Rattle.model_files.specs.Rules.{has_widths, has_fitting_constants, fits_sort}
use Rattle.model_places.specs.Sites.{Spot, key_spot, item_spot, part_spot, instruction_spot, update_spot}
use Rattle.model_places.specs.Notes.{note_at}
use Rattle.ila_rules.specs.Seen.{LookUp, States, with_name, sort_at, memory_at, uses_unknown, brief_at, Role, definition, fetch, condition, update, updates_none, has_role_sort, copies_at}
use Rattle.ila_rules.specs.Flaws.{Flaws, no_flaws, kept_first, entered, with_term, with_declared, input_flaws, state_flaws, definition_flaws, fetch_flaws, update_flaws, look_inputs, look_states, look_fetch, look_within, states_within, head_flaws, own_flaws, machine_flaws, instructions_flaws, instruction_flaws, child_flaws, model_flaws}
use Rattle.ila_rules.specs.NameFlaws.{NameFlaws, with_data, with_instruction, with_all_data, names_in, names_below, names_of_instruction, names_of_child, names_entered, with_model_name, names_in_model, with_member}
use Rattle.ila_rules.proofs.Flags.{Flags, term_flags, declared_flags, input_flags, state_flags, definition_flags, fetch_flags, update_flags, head_flags, own_flags, machine_flags, instructions_flags, instruction_flags, child_flags, model_flags}
use Rattle.ila_rules.proofs.NameFlags as names
use Rattle.ila_rules.proofs.NameFlags.{NameFlags, data_flags, all_data_flags, flags_in, flags_below, flags_of_instruction, flags_of_child, named_flags, model_name_flags}

some_kept : (o : Option (List ℕ)) (b : Bool) (x : List ℕ) → is_some (kept_first o b x) ≡ (is_some o || b)
some_kept None true x = refl
some_kept None false x = refl
some_kept (Some y) b x = refl

-- ---- states and terms

abbrev pub erased : Flaws → Flags
erased f = record {
  unknown_name = is_some f.unknown_name;
  bad_width = is_some f.bad_width;
  bad_sort = is_some f.bad_sort;
  bad_number = is_some f.bad_number;
  memory_copy = is_some f.memory_copy;
}

term_erased : (look : LookUp) (r : Role) (spot : Spot) (e : WrittenTerm) (f : Flaws) → erased (with_term look r spot e f) ≡ term_flags look r e (erased f)
unfolding with_term term_flags
term_erased look r spot e f = λ i. record {
  unknown_name = some_kept f.unknown_name (uses_unknown look e || updates_none r) (note_at f.way spot) i;
  bad_width = some_kept f.bad_width (not (has_widths e)) (note_at f.way spot) i;
  bad_sort = some_kept f.bad_sort (not (has_role_sort r (sort_at look e))) (note_at f.way spot) i;
  bad_number = some_kept f.bad_number (not (has_fitting_constants e)) (note_at f.way spot) i;
  memory_copy = some_kept f.memory_copy (copies_at r (memory_at look e)) (note_at f.way spot) i;
}

declared_erased : (spot : Spot) (s : Sort) (x : Option Value) (f : Flaws) → erased (with_declared spot s x f) ≡ declared_flags s x (erased f)
unfolding with_declared declared_flags
declared_erased spot s x f = λ i. record {
  unknown_name = is_some f.unknown_name;
  bad_width = some_kept f.bad_width (not (is_sort s)) (note_at f.way spot) i;
  bad_sort = is_some f.bad_sort;
  bad_number = some_kept f.bad_number (not (fits_sort s x)) (note_at f.way spot) i;
  memory_copy = is_some f.memory_copy;
}

inputs_erased : (k : ℕ) (is : List InputDeclaration) (f : Flaws) → erased (input_flaws k is f) ≡ input_flags is (erased f)
inputs_erased k [] f = refl
inputs_erased k (x ∷ is) f =
    let spot = item_spot (codes "inputs") k (Some x.input_name) in
    inputs_erased (k + 1) is (with_declared spot x.sort None f) ∙ ap (λ (g : Flags). input_flags is g) (declared_erased spot x.sort None f)

states_erased : (k : ℕ) (ss : List StateDeclaration) (f : Flaws) → erased (state_flaws k ss f) ≡ state_flags ss (erased f)
states_erased k [] f = refl
states_erased k (s ∷ ss) f =
    let spot = item_spot (codes "states") k (Some s.state_name) in
    states_erased (k + 1) ss (with_declared spot s.sort s.init f) ∙ ap (λ (g : Flags). state_flags ss g) (declared_erased spot s.sort s.init f)

definitions_erased : (look : LookUp) (k : ℕ) (ds : Entries WrittenTerm) (f : Flaws) → erased (definition_flaws look k ds f) ≡ definition_flags look ds (erased f)
definitions_erased look k [] f = refl
definitions_erased look k (d ∷ ds) f =
    let spot = item_spot (codes "define") k (Some d.0) in
    let more : LookUp = with_name d.0 (brief_at look d.1) look in
    definitions_erased more (k + 1) ds (with_term look definition spot d.1 f)
    ∙ ap (λ (g : Flags). definition_flags more ds g) (term_erased look definition spot d.1 f)

fetch_erased : (look : LookUp) (e : Option WrittenTerm) (f : Flaws) → erased (fetch_flaws look e f) ≡ fetch_flags look e (erased f)
fetch_erased look None f = refl
fetch_erased look (Some e) f = term_erased look fetch (key_spot (codes "fetch")) e f

updates_erased : (look : LookUp) (states : States) (k : ℕ) (n : Name) (us : Entries WrittenTerm) (f : Flaws)
    → erased (update_flaws look states k n us f) ≡ update_flags look states us (erased f)
updates_erased look states k n [] f = refl
updates_erased look states k n (u ∷ us) f =
    updates_erased look states k n us (with_term look (update u.0 (states u.0)) (update_spot k n u.0) u.1 f)
    ∙ ap (λ (g : Flags). update_flags look states us g) (term_erased look (update u.0 (states u.0)) (update_spot k n u.0) u.1 f)

head_erased : (look : LookUp) (ss : List StateDeclaration) (ds : Entries WrittenTerm) (g : Option WrittenTerm) (v : WrittenTerm) (f : Flaws)
    → erased (head_flaws look ss ds g v f) ≡ head_flags look ss ds g v (erased f)
head_erased look ss ds g v f =
    let within : LookUp = look_within look ss ds in
    let states = state_flaws 0 ss f in
    let defs = definition_flaws (look_states look ss) 0 ds states in
    term_erased (look_fetch within g) condition (key_spot (codes "valid")) v (fetch_flaws within g defs)
    ∙ ap (λ (x : Flags). term_flags (look_fetch within g) condition v x)
    (fetch_erased within g defs
    ∙ ap (λ (x : Flags). fetch_flags within g x)
    (definitions_erased (look_states look ss) 0 ds states ∙ ap (λ (x : Flags). definition_flags (look_states look ss) ds x) (states_erased 0 ss f)))

own_erased : (look : LookUp) (states : States) (k : ℕ) (n : Name) (e : WrittenTerm) (us : Entries WrittenTerm) (f : Flaws)
    → erased (own_flaws look states k n e us f) ≡ own_flags look states e us (erased f)
own_erased look states k n e us f =
    let spot = part_spot (instruction_spot k n) (codes "decode") in
    updates_erased look states k n us (with_term look condition spot e f)
    ∙ ap (λ (g : Flags). update_flags look states us g) (term_erased look condition spot e f)

mutual
  machine_erased : (look : LookUp) (states : States) (m : WrittenMachine) (f : Flaws) → erased (machine_flaws look states m f) ≡ machine_flags look states m (erased f)
  machine_erased look states (machine ss ds g v is) f =
      let within : LookUp = look_within look ss ds in
      let seen : LookUp = look_fetch within g in
      let inner : States = states_within states ss in
      instructions_erased within seen inner 0 is (head_flaws look ss ds g v f)
      ∙ ap (λ (x : Flags). instructions_flags within seen inner is x) (head_erased look ss ds g v f)

  instructions_erased : (inner look : LookUp) (states : States) (k : ℕ) (is : WrittenInstructions) (f : Flaws)
      → erased (instructions_flaws inner look states k is f) ≡ instructions_flags inner look states is (erased f)
  instructions_erased inner look states k no_instructions f = refl
  instructions_erased inner look states k (and_then i is) f =
      instructions_erased inner look states (k + 1) is (instruction_flaws inner look states k i f)
      ∙ ap (λ (x : Flags). instructions_flags inner look states is x) (instruction_erased inner look states k i f)

  instruction_erased : (inner look : LookUp) (states : States) (k : ℕ) (i : WrittenInstruction) (f : Flaws)
      → erased (instruction_flaws inner look states k i f) ≡ instruction_flags inner look states i (erased f)
  instruction_erased inner look states k (instruction called decode us program) f =
      child_erased inner states k program (own_flaws look states k called decode us f)
      ∙ ap (λ (x : Flags). child_flags inner states program x) (own_erased look states k called decode us f)

  child_erased : (inner : LookUp) (states : States) (k : ℕ) (c : WrittenChild) (f : Flaws)
      → erased (child_flaws inner states k c f) ≡ child_flags inner states c (erased f)
  child_erased inner states k no_child f = refl
  child_erased inner states k (child steps program) f = machine_erased inner states program (entered k f)

pub model_erased : (m : WrittenModel) → erased (model_flaws m) ≡ model_flags m
model_erased m =
    let look : LookUp = look_inputs (λ n. None) m.inputs in
    machine_erased look (λ n. None) m.top (input_flaws 0 m.inputs no_flaws)
    ∙ ap (λ (x : Flags). machine_flags look (λ n. None) m.top x) (inputs_erased 0 m.inputs no_flaws)

-- ---- names

abbrev pub names_erased : NameFlaws → NameFlags
names_erased s = record { bad = is_some s.bad; twice = is_some s.twice; data_set = s.data_set; instruction_set = s.instruction_set }

data_erased : (spot : Spot) (n : Name) (s : NameFlaws) → names_erased (with_data spot n s) ≡ data_flags n (names_erased s)
unfolding with_data data_flags
data_erased spot n s = λ i. record {
  bad = some_kept s.bad (not (is_model_name n)) (note_at s.way spot) i;
  twice = some_kept s.twice (s.data_set n) (note_at s.way spot) i;
  data_set = with_member n s.data_set;
  instruction_set = s.instruction_set;
}

instruction_name_erased : (spot : Spot) (n : Name) (s : NameFlaws) → names_erased (with_instruction spot n s) ≡ names.instruction_flags n (names_erased s)
unfolding with_instruction names.instruction_flags
instruction_name_erased spot n s = λ i. record {
  bad = some_kept s.bad (not (is_model_name n)) (note_at s.way spot) i;
  twice = some_kept s.twice (s.instruction_set n) (note_at s.way spot) i;
  data_set = s.data_set;
  instruction_set = with_member n s.instruction_set;
}

all_data_erased : (key : Name) (k : ℕ) (ns : List Name) (s : NameFlaws) → names_erased (with_all_data key k ns s) ≡ all_data_flags ns (names_erased s)
all_data_erased key k [] s = refl
all_data_erased key k (n ∷ ns) s =
    all_data_erased key (k + 1) ns (with_data (item_spot key k (Some n)) n s)
    ∙ ap (λ (x : NameFlags). all_data_flags ns x) (data_erased (item_spot key k (Some n)) n s)

mutual
  names_in_erased : (m : WrittenMachine) (s : NameFlaws) → names_erased (names_in m s) ≡ flags_in m (names_erased s)
  names_in_erased (machine ss ds g v is) s =
      let own = map (λ d. d.state_name) ss in
      let defs = map (λ d. d.0) ds in
      let first = with_all_data (codes "states") 0 own s in
      names_below_erased 0 is (with_all_data (codes "define") 0 defs first)
      ∙ ap (λ (x : NameFlags). flags_below is x)
      (all_data_erased (codes "define") 0 defs first ∙ ap (λ (x : NameFlags). all_data_flags defs x) (all_data_erased (codes "states") 0 own s))

  names_below_erased : (k : ℕ) (is : WrittenInstructions) (s : NameFlaws) → names_erased (names_below k is s) ≡ flags_below is (names_erased s)
  names_below_erased k no_instructions s = refl
  names_below_erased k (and_then i is) s =
      names_below_erased (k + 1) is (names_of_instruction k i s) ∙ ap (λ (x : NameFlags). flags_below is x) (names_of_erased k i s)

  names_of_erased : (k : ℕ) (i : WrittenInstruction) (s : NameFlaws) → names_erased (names_of_instruction k i s) ≡ flags_of_instruction i (names_erased s)
  names_of_erased k (instruction called d u program) s =
      names_child_erased k program (with_instruction (instruction_spot k called) called s)
      ∙ ap (λ (x : NameFlags). flags_of_child program x) (instruction_name_erased (instruction_spot k called) called s)

  names_child_erased : (k : ℕ) (c : WrittenChild) (s : NameFlaws) → names_erased (names_of_child k c s) ≡ flags_of_child c (names_erased s)
  names_child_erased k no_child s = refl
  names_child_erased k (child steps program) s = names_in_erased program (names_entered k s)

model_name_erased : (n : Name) → names_erased (with_model_name n) ≡ named_flags n
model_name_erased n = λ i. record {
  bad = some_kept None (not (is_model_name n)) (note_at [] (key_spot (codes "name"))) i;
  twice = false;
  data_set = (named_flags n).data_set;
  instruction_set = (named_flags n).instruction_set;
}

pub model_names_erased : (m : WrittenModel) → names_erased (names_in_model m) ≡ model_name_flags m
model_names_erased m =
    let inputs = map (λ i. i.input_name) m.inputs in
    names_in_erased m.top (with_all_data (codes "inputs") 0 inputs (with_model_name m.model_name))
    ∙ ap (λ (x : NameFlags). flags_in m.top x)
    (all_data_erased (codes "inputs") 0 inputs (with_model_name m.model_name) ∙ ap (λ (x : NameFlags). all_data_flags inputs x) (model_name_erased m.model_name))
