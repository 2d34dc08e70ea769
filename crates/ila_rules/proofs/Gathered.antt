-- What is gathered of states and terms on the way through a model file, as the first of its parts that break a rule.
use Rattle.std.proofs.Common.{◌≡◌, ℕ, suc, ◌+◌, Bool, true, false, cond, not, ◌||◌, List, [], ◌∷◌, ◌++◌, length, Option, Some, None, option_map, sym, refl, ap, ◌∙◌, codes}
use Rattle.wb_values.specs.Value.{Name, Sort, Value, Entries}
use Rattle.wb_values.specs.Choice.{first_of, some_if}
use Rattle.model_meaning.specs.Term.{is_sort}
use Rattle.model_meaning.specs.Model.{StateDeclaration, InputDeclaration, state_named}
use Rattle.model_files.specs.Written.{WrittenTerm, WrittenMachine, machine, WrittenInstruction, instruction, WrittenInstructions, no_instructions, and_then, WrittenChild, no_child, child, WrittenModel}
use Rattle.model_files.specs.Scope.{Visible, MachineScope, TermPlace, of_definition, of_fetch, of_condition, of_update, placed, defined, with_states, with_fetch, scope_within, outermost}
use Rattle.model_files.specs.Rules.{uses_unknown_name, has_widths, accepts_sort, has_fitting_constants, fits_sort}
use Rattle.model_files.specs.Meaning.{UnknownName, BadWidth, BadSort, BadNumber, MemoryCopy}
use Rattle.model_places.specs.Sites.{Way, into, Spot, Site, key_spot, item_spot, part_spot, instruction_spot, update_spot}
use Rattle.model_places.specs.Notes.{site_note, note_at}
use Rattle.model_places.specs.Parts.{Thing, data_name, instruction_name, declaration, term, program, step_limit, ModelPart, part_at, declared_parts, input_parts, state_parts, definition_parts, fetch_parts, update_parts, machine_parts, instructions_parts, instruction_parts, child_parts, parts_of_model}
use Rattle.model_places.specs.First.{is_unknown, is_bad_width, is_bad_sort, is_bad_number, is_memory_copy, breaks, first_among, first_note}
use Rattle.ila_rules.specs.Seen.{LookUp, States, sort_at, definition, condition, update, updates_none}
use Rattle.ila_rules.specs.Flaws.{Flaws, no_flaws, kept_first, on_way, entered, left, with_term, with_declared, input_flaws, state_flaws, definition_flaws, fetch_flaws, update_flaws, look_states, look_fetch, look_within, states_within, head_flaws, machine_flaws, instructions_flaws, instruction_flaws, child_flaws, model_flaws}
use Rattle.ila_file.proofs.Ways.{last_left}
use Rattle.ila_rules.proofs.Briefs.{briefs, unknown_same, sort_same, definition_more, inputs_same, states_same, fetch_same, sorts_of}
use Rattle.ila_rules.proofs.Judged.{role_of, none_updated, role_sort, role_copies, sorts_within, within_same}

-- the flaws with those of one part more
abbrev pub with_part : ModelPart → Flaws → Flaws
with_part p f = record {
  way = f.way;
  unknown_name = kept_first f.unknown_name (is_unknown p.thing) (site_note p.site);
  bad_width = kept_first f.bad_width (is_bad_width p.thing) (site_note p.site);
  bad_sort = kept_first f.bad_sort (is_bad_sort p.thing) (site_note p.site);
  bad_number = kept_first f.bad_number (is_bad_number p.thing) (site_note p.site);
  memory_copy = kept_first f.memory_copy (is_memory_copy p.thing) (site_note p.site);
}

abbrev pub gathered : List ModelPart → Flaws → Flaws
gathered [] f = f
gathered (p ∷ ps) f = gathered ps (with_part p f)

both : (ps qs : List ModelPart) (f : Flaws) → gathered qs (gathered ps f) ≡ gathered (ps ++ qs) f
both [] qs f = refl
both (p ∷ ps) qs f = both ps qs (with_part p f)

same_way : (ps : List ModelPart) (f : Flaws) → (gathered ps f).way ≡ f.way
same_way [] f = refl
same_way (p ∷ ps) f = same_way ps (with_part p f)

way_aside : (ps : List ModelPart) (w : Way) (f : Flaws) → gathered ps (on_way w f) ≡ on_way w (gathered ps f)
way_aside [] w f = refl
way_aside (p ∷ ps) w f = way_aside ps w (with_part p f)

-- ---- a part that breaks none of these rules

pub kept_if : (o : Option (List ℕ)) (b : Bool) (x : List ℕ) → b ≡ false → kept_first o b x ≡ o
kept_if None b x h = ap (λ c. some_if c x) h
kept_if (Some y) b x h = refl

skipped : (w : Way) (s : Spot) (t : Thing) (f : Flaws)
    → is_unknown t ≡ false → is_bad_width t ≡ false → is_bad_sort t ≡ false → is_bad_number t ≡ false → is_memory_copy t ≡ false
    → with_part (part_at w s t) f ≡ f
skipped w s t f a b c d e = λ i. record {
  way = f.way;
  unknown_name = kept_if f.unknown_name (is_unknown t) (note_at w s) a i;
  bad_width = kept_if f.bad_width (is_bad_width t) (note_at w s) b i;
  bad_sort = kept_if f.bad_sort (is_bad_sort t) (note_at w s) c i;
  bad_number = kept_if f.bad_number (is_bad_number t) (note_at w s) d i;
  memory_copy = kept_if f.memory_copy (is_memory_copy t) (note_at w s) e i;
}

-- ---- declarations and terms

declared_gathered : (spot : Spot) (n : Name) (s : Sort) (x : Option Value) (f : Flaws)
    → with_declared spot s x f ≡ gathered (declared_parts f.way spot n s x) f
unfolding with_declared
declared_gathered spot n s x f =
    (λ i. record {
      way = f.way;
      unknown_name = sym (kept_if f.unknown_name false (note_at f.way spot) refl) i;
      bad_width = kept_first f.bad_width (not (is_sort s)) (note_at f.way spot);
      bad_sort = sym (kept_if f.bad_sort false (note_at f.way spot) refl) i;
      bad_number = kept_first f.bad_number (not (fits_sort s x)) (note_at f.way spot);
      memory_copy = sym (kept_if f.memory_copy false (note_at f.way spot) refl) i;
    })
    ∙ ap (λ (g : Flaws). with_part (part_at f.way spot (declaration s x)) g) (sym (skipped f.way spot (data_name n) f refl refl refl refl refl))

term_gathered : (names : Entries Visible) (e : WrittenTerm) (p : TermPlace) (spot : Spot) (f : Flaws)
    → with_term (briefs names) (role_of p) spot e f ≡ with_part (part_at f.way spot (term (placed names e p))) f
unfolding with_term
term_gathered names e p spot f = λ i. record {
  way = f.way;
  unknown_name = (ap (λ b. kept_first f.unknown_name (b || updates_none (role_of p)) (note_at f.way spot)) (unknown_same names e)
      ∙ ap (λ b. kept_first f.unknown_name (uses_unknown_name names e || b) (note_at f.way spot)) (none_updated p)) i;
  bad_width = kept_first f.bad_width (not (has_widths e)) (note_at f.way spot);
  bad_sort = ap (λ b. kept_first f.bad_sort (not b) (note_at f.way spot)) (role_sort p (sort_at (briefs names) e) ∙ ap (accepts_sort p) (sort_same names e)) i;
  bad_number = kept_first f.bad_number (not (has_fitting_constants e)) (note_at f.way spot);
  memory_copy = ap (λ b. kept_first f.memory_copy b (note_at f.way spot)) (role_copies names e p) i;
}

inputs_gathered : (k : ℕ) (is : List InputDeclaration) (f : Flaws) → f.way ≡ [] → input_flaws k is f ≡ gathered (input_parts k is) f
unfolding with_declared
inputs_gathered k [] f top = refl
inputs_gathered k (x ∷ is) f top =
    let spot = item_spot (codes "inputs") k (Some x.input_name) in
    inputs_gathered (k + 1) is (with_declared spot x.sort None f) top
    ∙ ap (λ (g : Flaws). gathered (input_parts (k + 1) is) g)
    (declared_gathered spot x.input_name x.sort None f ∙ ap (λ w. gathered (declared_parts w spot x.input_name x.sort None) f) top)

states_gathered : (k : ℕ) (ss : List StateDeclaration) (f : Flaws) → state_flaws k ss f ≡ gathered (state_parts f.way k ss) f
unfolding with_declared
states_gathered k [] f = refl
states_gathered k (s ∷ ss) f =
    let spot = item_spot (codes "states") k (Some s.state_name) in
    states_gathered (k + 1) ss (with_declared spot s.sort s.init f)
    ∙ ap (λ (g : Flaws). gathered (state_parts f.way (k + 1) ss) g) (declared_gathered spot s.state_name s.sort s.init f)

definitions_gathered : (names : Entries Visible) (k : ℕ) (ds : Entries WrittenTerm) (f : Flaws)
    → definition_flaws (briefs names) k ds f ≡ gathered (definition_parts f.way names k ds) f
unfolding with_term
definitions_gathered names k [] f = refl
definitions_gathered names k (d ∷ ds) f =
    let spot = item_spot (codes "define") k (Some d.0) in
    let more : Entries Visible = (d.0, defined names d.1) ∷ names in
    let part = part_at f.way spot (term (placed names d.1 of_definition)) in
    ap (λ (l : LookUp). definition_flaws l (k + 1) ds (with_term (briefs names) definition spot d.1 f)) (definition_more names d.0 d.1)
    ∙ (definitions_gathered more (k + 1) ds (with_term (briefs names) definition spot d.1 f)
    ∙ ap (λ (g : Flaws). gathered (definition_parts f.way more (k + 1) ds) g)
    (term_gathered names d.1 of_definition spot f ∙ ap (λ (g : Flaws). with_part part g) (sym (skipped f.way spot (data_name d.0) f refl refl refl refl refl))))

fetch_gathered : (names : Entries Visible) (e : Option WrittenTerm) (f : Flaws) → fetch_flaws (briefs names) e f ≡ gathered (fetch_parts f.way names e) f
fetch_gathered names None f = refl
fetch_gathered names (Some e) f = term_gathered names e of_fetch (key_spot (codes "fetch")) f

updates_gathered : (names : Entries Visible) (states : List StateDeclaration) (k : ℕ) (n : Name) (us : Entries WrittenTerm) (f : Flaws)
    → update_flaws (briefs names) (sorts_of states) k n us f ≡ gathered (update_parts f.way names states k n us) f
unfolding with_term
updates_gathered names states k n [] f = refl
updates_gathered names states k n (u ∷ us) f =
    updates_gathered names states k n us (with_term (briefs names) (update u.0 (sorts_of states u.0)) (update_spot k n u.0) u.1 f)
    ∙ ap (λ (g : Flaws). gathered (update_parts f.way names states k n us) g) (term_gathered names u.1 (of_update u.0 (state_named states u.0)) (update_spot k n u.0) f)

-- ---- machines

-- one list of parts after another, both of one way
then : (parts : Way → List ModelPart) (ps : List ModelPart) (f g : Flaws) → g ≡ gathered ps f → gathered (parts g.way) g ≡ gathered (ps ++ parts f.way) f
then parts ps f g same =
    ap (λ (x : Flaws). gathered (parts x.way) x) same
    ∙ (ap (λ w. gathered (parts w) (gathered ps f)) (same_way ps f) ∙ both ps (parts f.way) f)

-- what is gathered within a child, on the way there
within_child : (ps : List ModelPart) (k : ℕ) (f : Flaws) → left (gathered ps (entered k f)) ≡ gathered ps f
within_child ps k f =
    ap left (way_aside ps (into f.way k) f)
    ∙ (ap (λ w. on_way w (gathered ps f)) (last_left f.way k) ∙ ap (λ w. on_way w (gathered ps f)) (sym (same_way ps f)))

head_gathered : (around : MachineScope) (ss : List StateDeclaration) (ds : Entries WrittenTerm) (g : Option WrittenTerm) (v : WrittenTerm) (f : Flaws)
    → head_flaws (briefs around.names) ss ds g v f
    ≡ gathered (state_parts f.way 0 ss ++ (definition_parts f.way (with_states around.names ss) 0 ds ++ (fetch_parts f.way (scope_within around ss ds).names g
    ++ part_at f.way (key_spot (codes "valid")) (term (placed (with_fetch (scope_within around ss ds).names g) v of_condition)) ∷ []))) f
head_gathered around ss ds g v f =
    let inner = (scope_within around ss ds).names in
    let seen = with_fetch inner g in
    let outer = with_states around.names ss in
    let spot = key_spot (codes "valid") in
    let states = state_flaws 0 ss f in
    let within : LookUp = look_within (briefs around.names) ss ds in
    let same : within ≡ briefs inner = within_same around ss ds in
    let fetched : look_fetch within g ≡ briefs seen = ap (λ (l : LookUp). look_fetch l g) same ∙ fetch_same inner g in
    let defs : Flaws = definition_flaws (briefs outer) 0 ds states in
    let got : Flaws = fetch_flaws (briefs inner) g defs in
    ap (λ (l : LookUp). with_term l condition spot v (fetch_flaws within g (definition_flaws (look_states (briefs around.names) ss) 0 ds states))) fetched
    ∙ (ap (λ (l : LookUp). with_term (briefs seen) condition spot v (fetch_flaws l g (definition_flaws (look_states (briefs around.names) ss) 0 ds states))) same
    ∙ (ap (λ (l : LookUp). with_term (briefs seen) condition spot v (fetch_flaws (briefs inner) g (definition_flaws l 0 ds states))) (states_same around.names ss)
    ∙ (term_gathered seen v of_condition spot got
    ∙ (then (λ w. part_at w spot (term (placed seen v of_condition)) ∷ []) (fetch_parts defs.way inner g) defs got (fetch_gathered inner g defs)
    ∙ (then (λ w. fetch_parts w inner g ++ part_at w spot (term (placed seen v of_condition)) ∷ []) (definition_parts states.way outer 0 ds) states defs (definitions_gathered outer 0 ds states)
    ∙ then (λ w. definition_parts w outer 0 ds ++ (fetch_parts w inner g ++ part_at w spot (term (placed seen v of_condition)) ∷ [])) (state_parts f.way 0 ss) f states (states_gathered 0 ss f))))))

append_assoc : {A : Type 0} (xs ys zs : List A) → (xs ++ ys) ++ zs ≡ xs ++ (ys ++ zs)
append_assoc [] ys zs = refl
append_assoc (x ∷ xs) ys zs = ap (λ rs. x ∷ rs) (append_assoc xs ys zs)

four_lists : (a b c : List ModelPart) (p : ModelPart) (d : List ModelPart) → (a ++ (b ++ (c ++ p ∷ []))) ++ d ≡ a ++ (b ++ (c ++ p ∷ d))
four_lists a b c p d =
    append_assoc a (b ++ (c ++ p ∷ [])) d
    ∙ ap (λ x. a ++ x) (append_assoc b (c ++ p ∷ []) d ∙ ap (λ x. b ++ x) (append_assoc c (p ∷ []) d))

mutual
  machine_gathered : (around : MachineScope) (m : WrittenMachine) (f : Flaws)
      → machine_flaws (briefs around.names) (sorts_of around.states) m f ≡ gathered (machine_parts f.way around m) f
  machine_gathered around (machine ss ds g v is) f =
      let inner = scope_within around ss ds in
      let seen = with_fetch inner.names g in
      let valid = part_at f.way (key_spot (codes "valid")) (term (placed seen v of_condition)) in
      let head : Flaws = head_flaws (briefs around.names) ss ds g v f in
      let within : LookUp = look_within (briefs around.names) ss ds in
      let same : within ≡ briefs inner.names = within_same around ss ds in
      let found : look_fetch within g ≡ briefs seen = ap (λ (l : LookUp). look_fetch l g) same ∙ fetch_same inner.names g in
      let front = state_parts f.way 0 ss ++ (definition_parts f.way (with_states around.names ss) 0 ds ++ (fetch_parts f.way inner.names g ++ valid ∷ [])) in
      ap (λ (l : LookUp). instructions_flaws l (look_fetch within g) (states_within (sorts_of around.states) ss) 0 is head) same
      ∙ (ap (λ (l : LookUp). instructions_flaws (briefs inner.names) l (states_within (sorts_of around.states) ss) 0 is head) found
      ∙ (ap (λ (l : States). instructions_flaws (briefs inner.names) (briefs seen) l 0 is head) (sorts_within around.states ss)
      ∙ (instructions_gathered inner seen 0 is head
      ∙ (then (λ w. instructions_parts w inner seen 0 is) front f head (head_gathered around ss ds g v f)
      ∙ ap (λ ps. gathered ps f)
      (four_lists (state_parts f.way 0 ss) (definition_parts f.way (with_states around.names ss) 0 ds) (fetch_parts f.way inner.names g) valid (instructions_parts f.way inner seen 0 is))))))

  instructions_gathered : (inner : MachineScope) (names : Entries Visible) (k : ℕ) (is : WrittenInstructions) (f : Flaws)
      → instructions_flaws (briefs inner.names) (briefs names) (sorts_of inner.states) k is f ≡ gathered (instructions_parts f.way inner names k is) f
  instructions_gathered inner names k no_instructions f = refl
  instructions_gathered inner names k (and_then i is) f =
      let first : Flaws = instruction_flaws (briefs inner.names) (briefs names) (sorts_of inner.states) k i f in
      instructions_gathered inner names (k + 1) is first
      ∙ then (λ w. instructions_parts w inner names (k + 1) is) (instruction_parts f.way inner names k i) f first (instruction_gathered inner names k i f)

  instruction_gathered : (inner : MachineScope) (names : Entries Visible) (k : ℕ) (i : WrittenInstruction) (f : Flaws)
      → instruction_flaws (briefs inner.names) (briefs names) (sorts_of inner.states) k i f ≡ gathered (instruction_parts f.way inner names k i) f
  instruction_gathered inner names k (instruction called decode us held) f =
      let spot = part_spot (instruction_spot k called) (codes "decode") in
      let name = part_at f.way (instruction_spot k called) (instruction_name called) in
      let condition_part = part_at f.way spot (term (placed names decode of_condition)) in
      let decoded : Flaws = with_term (briefs names) condition spot decode f in
      let own : Flaws = update_flaws (briefs names) (sorts_of inner.states) k called us decoded in
      let first : decoded ≡ gathered (name ∷ condition_part ∷ []) f =
      term_gathered names decode of_condition spot f ∙ ap (λ (g : Flaws). with_part condition_part g) (sym (skipped f.way (instruction_spot k called) (instruction_name called) f refl refl refl refl refl)) in
      child_gathered inner k called held own
      ∙ (then (λ w. child_parts w inner k called held) (update_parts decoded.way names inner.states k called us) decoded own (updates_gathered names inner.states k called us decoded)
      ∙ then (λ w. update_parts w names inner.states k called us ++ child_parts w inner k called held) (name ∷ condition_part ∷ []) f decoded first)

  child_gathered : (inner : MachineScope) (k : ℕ) (n : Name) (c : WrittenChild) (f : Flaws)
      → child_flaws (briefs inner.names) (sorts_of inner.states) k c f ≡ gathered (child_parts f.way inner k n c) f
  child_gathered inner k n no_child f = refl
  child_gathered inner k n (child steps below) f =
      let ps = machine_parts (into f.way k) inner below in
      let spot = part_spot (instruction_spot k n) (codes "child") in
      let nested : Thing = program (suc (length f.way)) in
      let limit : Thing = step_limit steps in
      ap left (machine_gathered inner below (entered k f))
      ∙ (within_child ps k f
      ∙ (ap (λ (g : Flaws). gathered ps g) (sym (skipped (into f.way k) (key_spot (codes "steps")) limit f refl refl refl refl refl))
      ∙ ap (λ (g : Flaws). gathered ps (with_part (part_at (into f.way k) (key_spot (codes "steps")) limit) g)) (sym (skipped f.way spot nested f refl refl refl refl refl))))

model_gathered : (m : WrittenModel) → model_flaws m ≡ gathered (parts_of_model m) no_flaws
model_gathered m =
    let f : Flaws = input_flaws 0 m.inputs no_flaws in
    let first : f ≡ gathered (input_parts 0 m.inputs) no_flaws = inputs_gathered 0 m.inputs no_flaws refl in
    ap (λ (l : LookUp). machine_flaws l (λ n. None) m.top f) (inputs_same [] m.inputs)
    ∙ (machine_gathered (outermost m) m.top f
    ∙ then (λ w. machine_parts w (outermost m) m.top) (input_parts 0 m.inputs) no_flaws f first)

-- ---- the first part of all

pub next : (o : Option (List ℕ)) (b : Bool) (s : Site) (r : Option Site)
    → first_of (kept_first o b (site_note s)) (option_map site_note r) ≡ first_of o (option_map site_note (cond b (Some s) r))
next None true s r = refl
next None false s r = refl
next (Some x) b s r = refl

pub none_next : (o : Option (List ℕ)) → o ≡ first_of o None
none_next None = refl
none_next (Some x) = refl

unknown_first : (ps : List ModelPart) (before : List Thing) (f : Flaws)
    → (gathered ps f).unknown_name ≡ first_of f.unknown_name (option_map site_note (first_among (breaks UnknownName) before ps))
unknown_first [] before f = none_next f.unknown_name
unknown_first (p ∷ ps) before f =
    unknown_first ps (p.thing ∷ before) (with_part p f) ∙ next f.unknown_name (is_unknown p.thing) p.site (first_among (breaks UnknownName) (p.thing ∷ before) ps)

width_first : (ps : List ModelPart) (before : List Thing) (f : Flaws)
    → (gathered ps f).bad_width ≡ first_of f.bad_width (option_map site_note (first_among (breaks BadWidth) before ps))
width_first [] before f = none_next f.bad_width
width_first (p ∷ ps) before f =
    width_first ps (p.thing ∷ before) (with_part p f) ∙ next f.bad_width (is_bad_width p.thing) p.site (first_among (breaks BadWidth) (p.thing ∷ before) ps)

sort_first : (ps : List ModelPart) (before : List Thing) (f : Flaws)
    → (gathered ps f).bad_sort ≡ first_of f.bad_sort (option_map site_note (first_among (breaks BadSort) before ps))
sort_first [] before f = none_next f.bad_sort
sort_first (p ∷ ps) before f =
    sort_first ps (p.thing ∷ before) (with_part p f) ∙ next f.bad_sort (is_bad_sort p.thing) p.site (first_among (breaks BadSort) (p.thing ∷ before) ps)

number_first : (ps : List ModelPart) (before : List Thing) (f : Flaws)
    → (gathered ps f).bad_number ≡ first_of f.bad_number (option_map site_note (first_among (breaks BadNumber) before ps))
number_first [] before f = none_next f.bad_number
number_first (p ∷ ps) before f =
    number_first ps (p.thing ∷ before) (with_part p f) ∙ next f.bad_number (is_bad_number p.thing) p.site (first_among (breaks BadNumber) (p.thing ∷ before) ps)

copy_first : (ps : List ModelPart) (before : List Thing) (f : Flaws)
    → (gathered ps f).memory_copy ≡ first_of f.memory_copy (option_map site_note (first_among (breaks MemoryCopy) before ps))
copy_first [] before f = none_next f.memory_copy
copy_first (p ∷ ps) before f =
    copy_first ps (p.thing ∷ before) (with_part p f) ∙ next f.memory_copy (is_memory_copy p.thing) p.site (first_among (breaks MemoryCopy) (p.thing ∷ before) ps)

pub first_flaws : (m : WrittenModel) → model_flaws m ≡ record {
  way = [];
  unknown_name = first_note UnknownName m;
  bad_width = first_note BadWidth m;
  bad_sort = first_note BadSort m;
  bad_number = first_note BadNumber m;
  memory_copy = first_note MemoryCopy m;
}
first_flaws m = model_gathered m ∙ (λ i. record {
  way = same_way (parts_of_model m) no_flaws i;
  unknown_name = unknown_first (parts_of_model m) [] no_flaws i;
  bad_width = width_first (parts_of_model m) [] no_flaws i;
  bad_sort = sort_first (parts_of_model m) [] no_flaws i;
  bad_number = number_first (parts_of_model m) [] no_flaws i;
  memory_copy = copy_first (parts_of_model m) [] no_flaws i;
})
