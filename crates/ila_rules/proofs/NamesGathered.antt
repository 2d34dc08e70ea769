-- What is gathered of names on the way through a model file, as the first of its parts that break a rule.
use Rattle.std.proofs.Common.{◌≡◌, ℕ, suc, ◌+◌, Bool, true, false, cond, ◌||◌, List, [], ◌∷◌, ◌++◌, length, map, Option, Some, None, option_map, sym, refl, ap, ◌∙◌, codes}
use Rattle.wb_values.specs.Value.{Name, same_name, Entries}
use Rattle.wb_values.specs.Choice.{first_of}
use Rattle.model_meaning.specs.Model.{StateDeclaration, InputDeclaration}
use Rattle.model_files.specs.Written.{WrittenTerm, WrittenMachine, machine, WrittenInstruction, instruction, WrittenInstructions, no_instructions, and_then, WrittenChild, no_child, child, WrittenModel}
use Rattle.model_files.specs.Scope.{Visible, MachineScope, of_definition, of_condition, of_fetch, of_update, placed, defined, with_states, with_fetch, scope_within, outermost}
use Rattle.model_meaning.specs.Model.{state_named}
use Rattle.model_files.specs.Meaning.{BadName, DuplicateName}
use Rattle.model_places.specs.Sites.{Way, into, Spot, key_spot, item_spot, part_spot, instruction_spot, update_spot}
use Rattle.model_places.specs.Notes.{site_note, note_at}
use Rattle.model_places.specs.Parts.{Thing, model_name, data_name, instruction_name, declaration, term, program, step_limit, ModelPart, part_at, input_parts, state_parts, definition_parts, fetch_parts, update_parts, machine_parts, instructions_parts, instruction_parts, child_parts, parts_of_model}
use Rattle.model_places.specs.First.{is_bad_name, has_data_name, has_instruction_name, stands_again, breaks, first_among, first_note}
use Rattle.ila_rules.specs.Flaws.{kept_first}
use Rattle.ila_rules.specs.NameFlaws.{NameSet, no_members, with_member, NameFlaws, names_on_way, names_entered, names_left, with_data, with_instruction, with_all_data, names_in, names_below, names_of_instruction, names_of_child, with_model_name, names_in_model}
use Rattle.ila_file.proofs.Ways.{last_left}
use Rattle.ila_rules.proofs.Gathered.{kept_if, next, none_next}

abbrev known_again : NameFlaws → Thing → Bool
known_again s (data_name n) = s.data_set n
known_again s (instruction_name n) = s.instruction_set n
known_again s (model_name n) = false
known_again s (declaration d x) = false
known_again s (term p) = false
known_again s (program d) = false
known_again s (step_limit n) = false

abbrev data_more : Thing → NameSet → NameSet
data_more (data_name n) set = with_member n set
data_more (instruction_name n) set = set
data_more (model_name n) set = set
data_more (declaration d x) set = set
data_more (term p) set = set
data_more (program d) set = set
data_more (step_limit n) set = set

abbrev instructions_more : Thing → NameSet → NameSet
instructions_more (instruction_name n) set = with_member n set
instructions_more (data_name n) set = set
instructions_more (model_name n) set = set
instructions_more (declaration d x) set = set
instructions_more (term p) set = set
instructions_more (program d) set = set
instructions_more (step_limit n) set = set

-- what was found of names, with one part more
abbrev with_named : ModelPart → NameFlaws → NameFlaws
with_named p s = record {
  way = s.way;
  bad = kept_first s.bad (is_bad_name p.thing) (site_note p.site);
  twice = kept_first s.twice (known_again s p.thing) (site_note p.site);
  data_set = data_more p.thing s.data_set;
  instruction_set = instructions_more p.thing s.instruction_set;
}

abbrev gathered : List ModelPart → NameFlaws → NameFlaws
gathered [] s = s
gathered (p ∷ ps) s = gathered ps (with_named p s)

both : (ps qs : List ModelPart) (s : NameFlaws) → gathered qs (gathered ps s) ≡ gathered (ps ++ qs) s
both [] qs s = refl
both (p ∷ ps) qs s = both ps qs (with_named p s)

same_way : (ps : List ModelPart) (s : NameFlaws) → (gathered ps s).way ≡ s.way
same_way [] s = refl
same_way (p ∷ ps) s = same_way ps (with_named p s)

way_aside : (ps : List ModelPart) (w : Way) (s : NameFlaws) → gathered ps (names_on_way w s) ≡ names_on_way w (gathered ps s)
way_aside [] w s = refl
way_aside (p ∷ ps) w s = way_aside ps w (with_named p s)

-- one list of parts after another, both of one way
then : (parts : Way → List ModelPart) (ps : List ModelPart) (s t : NameFlaws) → t ≡ gathered ps s → gathered (parts t.way) t ≡ gathered (ps ++ parts s.way) s
then parts ps s t same =
    ap (λ (x : NameFlaws). gathered (parts x.way) x) same
    ∙ (ap (λ w. gathered (parts w) (gathered ps s)) (same_way ps s) ∙ both ps (parts s.way) s)

within_child : (ps : List ModelPart) (k : ℕ) (s : NameFlaws) → names_left (gathered ps (names_entered k s)) ≡ gathered ps s
within_child ps k s =
    ap names_left (way_aside ps (into s.way k) s)
    ∙ (ap (λ w. names_on_way w (gathered ps s)) (last_left s.way k) ∙ ap (λ w. names_on_way w (gathered ps s)) (sym (same_way ps s)))

-- ---- parts that are no names

skipped : (w : Way) (p : Spot) (t : Thing) (s : NameFlaws) → is_bad_name t ≡ false → known_again s t ≡ false
    → data_more t s.data_set ≡ s.data_set → instructions_more t s.instruction_set ≡ s.instruction_set
    → with_named (part_at w p t) s ≡ s
skipped w p t s a b c d = λ i. record {
  way = s.way;
  bad = kept_if s.bad (is_bad_name t) (note_at w p) a i;
  twice = kept_if s.twice (known_again s t) (note_at w p) b i;
  data_set = c i;
  instruction_set = d i;
}

without : (w : Way) (p : Spot) (t : Thing) (ps : List ModelPart) (s : NameFlaws) → with_named (part_at w p t) s ≡ s → gathered ps s ≡ gathered (part_at w p t ∷ ps) s
without w p t ps s e = ap (λ (x : NameFlaws). gathered ps x) (sym e)

data_named : (spot : Spot) (n : Name) (s : NameFlaws) → with_data spot n s ≡ with_named (part_at s.way spot (data_name n)) s
unfolding with_data
data_named spot n s = refl

instruction_named : (spot : Spot) (n : Name) (s : NameFlaws) → with_instruction spot n s ≡ with_named (part_at s.way spot (instruction_name n)) s
unfolding with_instruction
instruction_named spot n s = refl

inputs_named : (k : ℕ) (is : List InputDeclaration) (s : NameFlaws) → s.way ≡ []
    → with_all_data (codes "inputs") k (map (λ i. i.input_name) is) s ≡ gathered (input_parts k is) s
unfolding with_data
inputs_named k [] s top = refl
inputs_named k (x ∷ is) s top =
    let spot = item_spot (codes "inputs") k (Some x.input_name) in
    let one = with_named (part_at [] spot (data_name x.input_name)) s in
    inputs_named (k + 1) is (with_data spot x.input_name s) top
    ∙ (ap (λ (t : NameFlaws). gathered (input_parts (k + 1) is) t)
    (data_named spot x.input_name s ∙ ap (λ w. with_named (part_at w spot (data_name x.input_name)) s) top)
    ∙ without [] spot (declaration x.sort None) (input_parts (k + 1) is) one (skipped [] spot (declaration x.sort None) one refl refl refl refl))

states_named : (k : ℕ) (ss : List StateDeclaration) (s : NameFlaws)
    → with_all_data (codes "states") k (map (λ d. d.state_name) ss) s ≡ gathered (state_parts s.way k ss) s
unfolding with_data
states_named k [] s = refl
states_named k (d ∷ ss) s =
    let spot = item_spot (codes "states") k (Some d.state_name) in
    let one = with_named (part_at s.way spot (data_name d.state_name)) s in
    states_named (k + 1) ss (with_data spot d.state_name s)
    ∙ (ap (λ (t : NameFlaws). gathered (state_parts s.way (k + 1) ss) t) (data_named spot d.state_name s)
    ∙ without s.way spot (declaration d.sort d.init) (state_parts s.way (k + 1) ss) one (skipped s.way spot (declaration d.sort d.init) one refl refl refl refl))

definitions_named : (names : Entries Visible) (k : ℕ) (ds : Entries WrittenTerm) (s : NameFlaws)
    → with_all_data (codes "define") k (map (λ d. d.0) ds) s ≡ gathered (definition_parts s.way names k ds) s
unfolding with_data
definitions_named names k [] s = refl
definitions_named names k (d ∷ ds) s =
    let spot = item_spot (codes "define") k (Some d.0) in
    let more : Entries Visible = (d.0, defined names d.1) ∷ names in
    let stands : Thing = term (placed names d.1 of_definition) in
    let one = with_named (part_at s.way spot (data_name d.0)) s in
    definitions_named more (k + 1) ds (with_data spot d.0 s)
    ∙ (ap (λ (t : NameFlaws). gathered (definition_parts s.way more (k + 1) ds) t) (data_named spot d.0 s)
    ∙ without s.way spot stands (definition_parts s.way more (k + 1) ds) one (skipped s.way spot stands one refl refl refl refl))

fetch_named : (names : Entries Visible) (e : Option WrittenTerm) (w : Way) (s : NameFlaws) → s ≡ gathered (fetch_parts w names e) s
fetch_named names None w s = refl
fetch_named names (Some e) w s = sym (skipped w (key_spot (codes "fetch")) (term (placed names e of_fetch)) s refl refl refl refl)

updates_named : (names : Entries Visible) (states : List StateDeclaration) (k : ℕ) (n : Name) (us : Entries WrittenTerm) (w : Way) (s : NameFlaws)
    → s ≡ gathered (update_parts w names states k n us) s
updates_named names states k n [] w s = refl
updates_named names states k n (u ∷ us) w s =
    let stands : Thing = term (placed names u.1 (of_update u.0 (state_named states u.0))) in
    updates_named names states k n us w s
    ∙ without w (update_spot k n u.0) stands (update_parts w names states k n us) s (skipped w (update_spot k n u.0) stands s refl refl refl refl)

-- ---- machines

mutual
  machine_named : (around : MachineScope) (m : WrittenMachine) (s : NameFlaws) → names_in m s ≡ gathered (machine_parts s.way around m) s
  machine_named around (machine ss ds g v is) s =
      let inner = scope_within around ss ds in
      let seen = with_fetch inner.names g in
      let outer = with_states around.names ss in
      let valid : Thing = term (placed seen v of_condition) in
      let states = with_all_data (codes "states") 0 (map (λ d. d.state_name) ss) s in
      let defs = with_all_data (codes "define") 0 (map (λ d. d.0) ds) states in
      let rest : Way → List ModelPart = λ w. part_at w (key_spot (codes "valid")) valid ∷ instructions_parts w inner seen 0 is in
      below_named inner seen 0 is defs
      ∙ (without defs.way (key_spot (codes "valid")) valid (instructions_parts defs.way inner seen 0 is) defs (skipped defs.way (key_spot (codes "valid")) valid defs refl refl refl refl)
      ∙ (then rest (fetch_parts defs.way inner.names g) defs defs (fetch_named inner.names g defs.way defs)
      ∙ (then (λ w. fetch_parts w inner.names g ++ rest w) (definition_parts states.way outer 0 ds) states defs (definitions_named outer 0 ds states)
      ∙ then (λ w. definition_parts w outer 0 ds ++ (fetch_parts w inner.names g ++ rest w)) (state_parts s.way 0 ss) s states (states_named 0 ss s))))

  below_named : (inner : MachineScope) (names : Entries Visible) (k : ℕ) (is : WrittenInstructions) (s : NameFlaws)
      → names_below k is s ≡ gathered (instructions_parts s.way inner names k is) s
  below_named inner names k no_instructions s = refl
  below_named inner names k (and_then i is) s =
      below_named inner names (k + 1) is (names_of_instruction k i s)
      ∙ then (λ w. instructions_parts w inner names (k + 1) is) (instruction_parts s.way inner names k i) s (names_of_instruction k i s) (of_instruction_named inner names k i s)

  of_instruction_named : (inner : MachineScope) (names : Entries Visible) (k : ℕ) (i : WrittenInstruction) (s : NameFlaws)
      → names_of_instruction k i s ≡ gathered (instruction_parts s.way inner names k i) s
  of_instruction_named inner names k (instruction called decode us held) s =
      let spot = instruction_spot k called in
      let decoded : Thing = term (placed names decode of_condition) in
      let name = part_at s.way spot (instruction_name called) in
      let one : NameFlaws = with_instruction spot called s in
      let rest : Way → List ModelPart = λ w. update_parts w names inner.states k called us ++ child_parts w inner k called held in
      child_named inner k called held one
      ∙ (then (λ w. child_parts w inner k called held) (update_parts one.way names inner.states k called us) one one (updates_named names inner.states k called us one.way one)
      ∙ (without one.way (part_spot spot (codes "decode")) decoded (rest one.way) one (skipped one.way (part_spot spot (codes "decode")) decoded one refl refl refl refl)
      ∙ then (λ w. part_at w (part_spot spot (codes "decode")) decoded ∷ rest w) (name ∷ []) s one (instruction_named spot called s)))

  child_named : (inner : MachineScope) (k : ℕ) (n : Name) (c : WrittenChild) (s : NameFlaws) → names_of_child k c s ≡ gathered (child_parts s.way inner k n c) s
  child_named inner k n no_child s = refl
  child_named inner k n (child steps below) s =
      let ps = machine_parts (into s.way k) inner below in
      let spot = part_spot (instruction_spot k n) (codes "child") in
      let nested : Thing = program (suc (length s.way)) in
      let limit : Thing = step_limit steps in
      let at_steps = part_at (into s.way k) (key_spot (codes "steps")) limit in
      ap names_left (machine_named inner below (names_entered k s))
      ∙ (within_child ps k s
      ∙ (without (into s.way k) (key_spot (codes "steps")) limit ps s (skipped (into s.way k) (key_spot (codes "steps")) limit s refl refl refl refl)
      ∙ without s.way spot nested (at_steps ∷ ps) s (skipped s.way spot nested s refl refl refl refl)))

abbrev no_names : NameFlaws
no_names = record { way = []; bad = None; twice = None; data_set = no_members; instruction_set = no_members }

model_named : (m : WrittenModel) → names_in_model m ≡ gathered (parts_of_model m) no_names
model_named m =
    let named = with_model_name m.model_name in
    let s = with_all_data (codes "inputs") 0 (map (λ i. i.input_name) m.inputs) named in
    machine_named (outermost m) m.top s
    ∙ then (λ w. machine_parts w (outermost m) m.top) (input_parts 0 m.inputs) named s (inputs_named 0 m.inputs named refl)

-- ---- the first part of all

bad_first : (ps : List ModelPart) (before : List Thing) (s : NameFlaws)
    → (gathered ps s).bad ≡ first_of s.bad (option_map site_note (first_among (breaks BadName) before ps))
bad_first [] before s = none_next s.bad
bad_first (p ∷ ps) before s =
    bad_first ps (p.thing ∷ before) (with_named p s) ∙ next s.bad (is_bad_name p.thing) p.site (first_among (breaks BadName) (p.thing ∷ before) ps)

abbrev data_in : List Thing → NameSet
data_in before n = has_data_name n before

abbrev instructions_in : List Thing → NameSet
instructions_in before n = has_instruction_name n before

cond_or : (b c : Bool) → cond b true c ≡ (b || c)
cond_or true c = refl
cond_or false c = refl

data_on : (t : Thing) (set : NameSet) (before : List Thing) → set ≡ data_in before → data_more t set ≡ data_in (t ∷ before)
data_on (data_name k) set before e = ap (with_member k) e ∙ (λ i n. cond_or (same_name k n) (has_data_name n before) i)
data_on (instruction_name k) set before e = e
data_on (model_name k) set before e = e
data_on (declaration d x) set before e = e
data_on (term p) set before e = e
data_on (program d) set before e = e
data_on (step_limit k) set before e = e

instructions_on : (t : Thing) (set : NameSet) (before : List Thing) → set ≡ instructions_in before → instructions_more t set ≡ instructions_in (t ∷ before)
instructions_on (instruction_name k) set before e = ap (with_member k) e ∙ (λ i n. cond_or (same_name k n) (has_instruction_name n before) i)
instructions_on (data_name k) set before e = e
instructions_on (model_name k) set before e = e
instructions_on (declaration d x) set before e = e
instructions_on (term p) set before e = e
instructions_on (program d) set before e = e
instructions_on (step_limit k) set before e = e

again_on : (t : Thing) (s : NameFlaws) (before : List Thing) → s.data_set ≡ data_in before → s.instruction_set ≡ instructions_in before
    → known_again s t ≡ stands_again before t
again_on (data_name n) s before d e = ap (λ (f : NameSet). f n) d
again_on (instruction_name n) s before d e = ap (λ (f : NameSet). f n) e
again_on (model_name n) s before d e = refl
again_on (declaration a b) s before d e = refl
again_on (term p) s before d e = refl
again_on (program n) s before d e = refl
again_on (step_limit n) s before d e = refl

twice_first : (ps : List ModelPart) (before : List Thing) (s : NameFlaws) → s.data_set ≡ data_in before → s.instruction_set ≡ instructions_in before
    → (gathered ps s).twice ≡ first_of s.twice (option_map site_note (first_among (breaks DuplicateName) before ps))
twice_first [] before s d e = none_next s.twice
twice_first (p ∷ ps) before s d e =
    twice_first ps (p.thing ∷ before) (with_named p s) (data_on p.thing s.data_set before d) (instructions_on p.thing s.instruction_set before e)
    ∙ (ap (λ b. first_of (kept_first s.twice b (site_note p.site)) (option_map site_note (first_among (breaks DuplicateName) (p.thing ∷ before) ps))) (again_on p.thing s before d e)
    ∙ next s.twice (stands_again before p.thing) p.site (first_among (breaks DuplicateName) (p.thing ∷ before) ps))

pub first_bad : (m : WrittenModel) → (names_in_model m).bad ≡ first_note BadName m
first_bad m = ap (λ (s : NameFlaws). s.bad) (model_named m) ∙ bad_first (parts_of_model m) [] no_names

pub first_twice : (m : WrittenModel) → (names_in_model m).twice ≡ first_note DuplicateName m
first_twice m = ap (λ (s : NameFlaws). s.twice) (model_named m) ∙ twice_first (parts_of_model m) [] no_names refl refl
