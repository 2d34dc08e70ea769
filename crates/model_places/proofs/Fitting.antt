-- Nothing of another kind stands in a file's data exactly where it is a written model: place by place.
use Rattle.std.proofs.Common.{◌≡◌, ℕ, ◌+◌, Bool, true, false, cond, not, ◌&&◌, List, [], ◌∷◌, ◌++◌, Option, Some, None, option_map, option_and_then, is_some, is_none, refl, sym, ap, ◌∙◌}
use Rattle.std.specs.Prelude.{codes}
use Rattle.wb_values.specs.Value.{Name, same_name, Sort, truth, word, memory, Value, Entries}
use Rattle.model_meaning.specs.Model.{StateDeclaration, InputDeclaration}
use Rattle.serde_json.specs.Data.{Data, null, boolean, number, string, array, object, Items, no_items, item, Members, no_members, member}
use Rattle.serde_json.specs.Find.{get, get_member, as_str, as_array, as_object}
use Rattle.model_files.specs.Written.{WrittenTerm, WrittenMachine, WrittenInstruction, WrittenInstructions, WrittenChild}
use Rattle.model_files.specs.Shape.{required, optional, if_there, with_first, all_in, list_in, unsigned_in, sort_in, term_in, initial_in, private_initial_in, state_from, state_declared_in, private_state_in, input_in, definition_in, entry_named, entries_in, update_in, instruction_from, with_instruction, machine_from, machine_in, child_from, instruction_in, child_under, child_in, instructions_under, written_instructions_in, all_instructions, model_from, model_in}
use Rattle.model_places.specs.Sites.{Way, into, Spot, key_spot, part_spot, member_spot}
use Rattle.model_places.specs.Notes.{site_note}
use Rattle.model_places.specs.ShapePlaces.{Judged, fitted, under, has, fits_if_there, may_have, named_spot, in_list, list_places, optional_list_places, no_memory, private_sort_in, state_places, input_places, definition_spot, definition_places, update_places, in_object, own_places, machine_places, instruction_places, child_places_under, child_places, instruction_places_under, instruction_list_places, all_instruction_places, shape_places, first_misfit, shape_note}

-- nothing of another kind stands at these
abbrev pub fit : List Judged → Bool
fit ps = is_none (first_misfit ps)

fit_one : (w : Way) (s : Spot) (b : Bool) (ps : List Judged) → fit (fitted w s b ∷ ps) ≡ (b && fit ps)
fit_one w s true ps = refl
fit_one w s false ps = refl

fit_both : (xs ys : List Judged) → fit (xs ++ ys) ≡ (fit xs && fit ys)
fit_both [] ys = refl
fit_both (p ∷ xs) ys = shown p.fits (fit_both xs ys) where
  shown : (b : Bool) → fit (xs ++ ys) ≡ (fit xs && fit ys) → is_none (cond b (first_misfit (xs ++ ys)) (Some p.site)) ≡ (is_none (cond b (first_misfit xs) (Some p.site)) && fit ys)
  shown true h = h
  shown false h = refl

-- one place, and others behind it
fit_then : (w : Way) (s : Spot) (b c : Bool) (ps : List Judged) → fit ps ≡ c → fit (fitted w s b ∷ ps) ≡ (b && c)
fit_then w s b c ps h = fit_one w s b ps ∙ ap (λ t. b && t) h

-- some places, and others behind them
fit_joined : (xs ys : List Judged) (b c : Bool) → fit xs ≡ b → fit ys ≡ c → fit (xs ++ ys) ≡ (b && c)
fit_joined xs ys b c h g = fit_both xs ys ∙ (λ i. h i && g i)

-- ---- what is there, and what is made of it

some_mapped : {A B : Type 0} (f : A → B) (o : Option A) → is_some (option_map f o) ≡ is_some o
some_mapped f None = refl
some_mapped f (Some x) = refl

some_first : {A : Type 0} (o : Option A) (r : Option (List A)) → is_some (with_first o r) ≡ (is_some o && is_some r)
some_first (Some x) (Some xs) = refl
some_first (Some x) None = refl
some_first None r = refl

some_entry : (n : Name) (e : Option WrittenTerm) → is_some (entry_named n e) ≡ is_some e
some_entry n None = refl
some_entry n (Some e) = refl

some_machine : (ss : Option (List StateDeclaration)) (ds : Option (Option (Entries WrittenTerm))) (f : Option (Option WrittenTerm)) (v : Option WrittenTerm) (is : Option WrittenInstructions)
    → is_some (machine_from ss ds f v is) ≡ (is_some ss && (is_some ds && (is_some f && (is_some v && is_some is))))
some_machine None ds f v is = refl
some_machine (Some ss) None f v is = refl
some_machine (Some ss) (Some None) None v is = refl
some_machine (Some ss) (Some None) (Some f) None is = refl
some_machine (Some ss) (Some None) (Some f) (Some v) None = refl
some_machine (Some ss) (Some None) (Some f) (Some v) (Some is) = refl
some_machine (Some ss) (Some (Some ds)) None v is = refl
some_machine (Some ss) (Some (Some ds)) (Some f) None is = refl
some_machine (Some ss) (Some (Some ds)) (Some f) (Some v) None = refl
some_machine (Some ss) (Some (Some ds)) (Some f) (Some v) (Some is) = refl

some_instruction : (n : Option Name) (e : Option WrittenTerm) (us : Option (Entries WrittenTerm)) (c : Option WrittenChild)
    → is_some (instruction_from n e us c) ≡ ((is_some n && (is_some e && is_some us)) && is_some c)
some_instruction None e us c = refl
some_instruction (Some n) None us c = refl
some_instruction (Some n) (Some e) None c = refl
some_instruction (Some n) (Some e) (Some us) None = refl
some_instruction (Some n) (Some e) (Some us) (Some c) = refl

some_instructions : (i : Option WrittenInstruction) (is : Option WrittenInstructions) → is_some (with_instruction i is) ≡ (is_some i && is_some is)
some_instructions None is = refl
some_instructions (Some i) None = refl
some_instructions (Some i) (Some is) = refl

some_child : (n : Option ℕ) (m : Option WrittenMachine) → is_some (child_from n m) ≡ (is_some n && is_some m)
some_child None m = refl
some_child (Some n) None = refl
some_child (Some n) (Some m) = refl

some_model : (n : Option Name) (is : Option (List InputDeclaration)) (m : Option WrittenMachine) → is_some (model_from n is m) ≡ (is_some n && (is_some is && is_some m))
some_model None is m = refl
some_model (Some n) None m = refl
some_model (Some n) (Some is) None = refl
some_model (Some n) (Some is) (Some m) = refl

there : {A : Type 0} (f : Data → Option A) (o : Option Data) → fits_if_there f o ≡ is_some (if_there f o)
there f None = refl
there f (Some d) = sym (some_mapped Some (f d))

-- ---- lists

-- a list that must be there
list_fits : {A : Type 0} (f : Items → List Judged) (read : Data → Option A) (w : Way) (k : Name) (d : Data) → ((ds : Items) → fit (f ds) ≡ is_some (all_in read ds))
    → fit (list_places f w k d) ≡ is_some (under (list_in read) k d)
list_fits f read w k d h = shown (get k d) where
  shown : (o : Option Data) → fit (fitted w (key_spot k) (is_some (option_and_then as_array o)) ∷ in_list f (option_and_then as_array o)) ≡ is_some (option_and_then (list_in read) o)
  shown None = refl
  shown (Some null) = refl
  shown (Some (boolean b)) = refl
  shown (Some (number n)) = refl
  shown (Some (string s)) = refl
  shown (Some (array ds)) = h ds
  shown (Some (object ms)) = refl

-- a list that may be absent
optional_list_fits : {A : Type 0} (f : Items → List Judged) (read : Data → Option A) (w : Way) (k : Name) (d : Data) → ((ds : Items) → fit (f ds) ≡ is_some (all_in read ds))
    → fit (optional_list_places f w k d) ≡ is_some (if_there (list_in read) (get k d))
optional_list_fits f read w k d h = shown (get k d) where
  shown : (o : Option Data) → fit (fitted w (key_spot k) (fits_if_there as_array o) ∷ in_list f (option_and_then as_array o)) ≡ is_some (if_there (list_in read) o)
  shown None = refl
  shown (Some null) = refl
  shown (Some (boolean b)) = refl
  shown (Some (number n)) = refl
  shown (Some (string s)) = refl
  shown (Some (array ds)) = h ds ∙ sym (some_mapped Some (all_in read ds))
  shown (Some (object ms)) = refl

-- what is a state has a name and a sort
abbrev IsWhole : (Data → Option Sort) → (Data → Option StateDeclaration) → Type 0
IsWhole sort state = (d : Data) → (has as_str (codes "name") d && (has sort (codes "sort") d && is_some (state d))) ≡ is_some (state d)

declared : (initial : Sort → Option Data → Option (Option Value)) (n : Option Name) (s : Option Sort) (i : Option Data)
    → (is_some n && (is_some s && is_some (state_from initial n s i))) ≡ is_some (state_from initial n s i)
declared initial None None i = refl
declared initial None (Some s) i = refl
declared initial (Some n) None i = refl
declared initial (Some n) (Some s) i = refl

declared_whole : IsWhole sort_in state_declared_in
declared_whole null = refl
declared_whole (boolean b) = refl
declared_whole (number n) = refl
declared_whole (string s) = refl
declared_whole (array ds) = refl
declared_whole (object ms) = declared initial_in (required as_str (codes "name") ms) (required sort_in (codes "sort") ms) (get_member (codes "init") ms)

-- what stands under the key sort of a private state
private_sort : (o : Option Data) → option_and_then private_sort_in o ≡ no_memory (option_and_then sort_in o)
private_sort None = refl
private_sort (Some d) = refl

stated : (n : Option Name) (s : Option Sort) (i : Option Data)
    → (is_some n && (is_some (no_memory s) && is_some (state_from private_initial_in n s i))) ≡ is_some (state_from private_initial_in n s i)
stated None None i = refl
stated None (Some s) i = refl
stated (Some n) None i = refl
stated (Some n) (Some truth) i = refl
stated (Some n) (Some (word w)) i = refl
stated (Some n) (Some (memory a w)) i = refl

private_whole : IsWhole private_sort_in private_state_in
private_whole null = refl
private_whole (boolean b) = refl
private_whole (number n) = refl
private_whole (string s) = refl
private_whole (array ds) = refl
private_whole (object ms) =
    ap (λ o. is_some (required as_str (codes "name") ms) && (is_some o && is_some (private_state_in (object ms)))) (private_sort (get_member (codes "sort") ms))
    ∙ stated (required as_str (codes "name") ms) (required sort_in (codes "sort") ms) (get_member (codes "init") ms)

fit_three : (w : Way) (s t u : Spot) (a b c r : Bool) (ps : List Judged) → fit ps ≡ r → fit (fitted w s a ∷ fitted w t b ∷ fitted w u c ∷ ps) ≡ ((a && (b && c)) && r)
fit_three w s t u true true c r ps h = fit_then w u c r ps h
fit_three w s t u true false c r ps h = refl
fit_three w s t u false b c r ps h = refl

states_fit : (sort : Data → Option Sort) (state : Data → Option StateDeclaration) → IsWhole sort state → (w : Way) (k : ℕ) (ds : Items)
    → fit (state_places sort state w k ds) ≡ is_some (all_in state ds)
states_fit sort state h w k no_items = refl
states_fit sort state h w k (item d ds) =
    fit_three w (part_spot (named_spot (codes "states") k d) (codes "name")) (part_spot (named_spot (codes "states") k d) (codes "sort")) (part_spot (named_spot (codes "states") k d) (codes "init"))
    (has as_str (codes "name") d) (has sort (codes "sort") d) (is_some (state d)) (is_some (all_in state ds)) (state_places sort state w (k + 1) ds) (states_fit sort state h w (k + 1) ds)
    ∙ (ap (λ t. t && is_some (all_in state ds)) (h d) ∙ sym (some_first (state d) (all_in state ds)))

inputs_fit : (k : ℕ) (ds : Items) → fit (input_places k ds) ≡ is_some (all_in input_in ds)
inputs_fit k no_items = refl
inputs_fit k (item d ds) =
    fit_then [] (named_spot (codes "inputs") k d) (is_some (input_in d)) (is_some (all_in input_in ds)) (input_places (k + 1) ds) (inputs_fit (k + 1) ds)
    ∙ sym (some_first (input_in d) (all_in input_in ds))

definitions_fit : (w : Way) (k : ℕ) (ds : Items) → fit (definition_places w k ds) ≡ is_some (all_in definition_in ds)
definitions_fit w k no_items = refl
definitions_fit w k (item d ds) =
    fit_then w (definition_spot k d) (is_some (definition_in d)) (is_some (all_in definition_in ds)) (definition_places w (k + 1) ds) (definitions_fit w (k + 1) ds)
    ∙ sym (some_first (definition_in d) (all_in definition_in ds))

-- ---- instructions

entries_fit : (w : Way) (u : Spot) (ms : Members) → fit (update_places w u ms) ≡ is_some (entries_in ms)
entries_fit w u no_members = refl
entries_fit w u (member n d ms) =
    fit_then w (member_spot u n) (is_some (term_in d)) (is_some (entries_in ms)) (update_places w u ms) (entries_fit w u ms)
    ∙ (ap (λ t. t && is_some (entries_in ms)) (sym (some_entry n (term_in d))) ∙ sym (some_first (entry_named n (term_in d)) (entries_in ms)))

updates_fit : (w : Way) (s u : Spot) (d : Data)
    → fit (fitted w s (has as_object (codes "update") d) ∷ in_object (update_places w u) (under as_object (codes "update") d)) ≡ is_some (under update_in (codes "update") d)
updates_fit w s u d = shown (get (codes "update") d) where
  shown : (o : Option Data) → fit (fitted w s (is_some (option_and_then as_object o)) ∷ in_object (update_places w u) (option_and_then as_object o)) ≡ is_some (option_and_then update_in o)
  shown None = refl
  shown (Some null) = refl
  shown (Some (boolean b)) = refl
  shown (Some (number n)) = refl
  shown (Some (string t)) = refl
  shown (Some (array ds)) = refl
  shown (Some (object ms)) = entries_fit w u ms

own_fits : (w : Way) (s : Spot) (d : Data)
    → fit (own_places w s d) ≡ (has as_str (codes "name") d && (has term_in (codes "decode") d && is_some (under update_in (codes "update") d)))
own_fits w s d =
    let update : List Judged = fitted w (part_spot s (codes "update")) (has as_object (codes "update") d) ∷ in_object (update_places w (part_spot s (codes "update"))) (under as_object (codes "update") d) in
    let decode : List Judged = fitted w (part_spot s (codes "decode")) (has term_in (codes "decode") d) ∷ update in
    fit_then w (part_spot s (codes "name")) (has as_str (codes "name") d) (has term_in (codes "decode") d && is_some (under update_in (codes "update") d)) decode
    (fit_then w (part_spot s (codes "decode")) (has term_in (codes "decode") d) (is_some (under update_in (codes "update") d)) update (updates_fit w (part_spot s (codes "update")) (part_spot s (codes "update")) d))

machine_fits : (sort : Data → Option Sort) (state : Data → Option StateDeclaration) → IsWhole sort state → (w : Way) (ms : Members) (is : List Judged) (r : Option WrittenInstructions)
    → fit is ≡ is_some r → fit (machine_places sort state w (object ms) is) ≡ is_some (machine_in state ms r)
machine_fits sort state h w ms is r g =
    let states : List Judged = list_places (state_places sort state w 0) w (codes "states") (object ms) in
    let define : List Judged = optional_list_places (definition_places w 0) w (codes "define") (object ms) in
    let valid : List Judged = fitted w (key_spot (codes "valid")) (has term_in (codes "valid") (object ms)) ∷ is in
    let fetch : List Judged = fitted w (key_spot (codes "fetch")) (may_have term_in (codes "fetch") (object ms)) ∷ valid in
    fit_joined states (define ++ fetch) _ _ (list_fits (state_places sort state w 0) state w (codes "states") (object ms) (states_fit sort state h w 0))
    (fit_joined define fetch _ _ (optional_list_fits (definition_places w 0) definition_in w (codes "define") (object ms) (definitions_fit w 0))
    (fit_then w (key_spot (codes "fetch")) (may_have term_in (codes "fetch") (object ms)) (has term_in (codes "valid") (object ms) && is_some r) valid
    (fit_then w (key_spot (codes "valid")) (has term_in (codes "valid") (object ms)) (is_some r) is g)
    ∙ ap (λ t. t && (has term_in (codes "valid") (object ms) && is_some r)) (there term_in (get_member (codes "fetch") ms))))
    ∙ sym (some_machine (required (list_in state) (codes "states") ms) (optional (list_in definition_in) (codes "define") ms) (optional term_in (codes "fetch") ms) (required term_in (codes "valid") ms) r)

fit_by : {A : Type 0} (b : Bool) (xs ys : List Judged) (x y : Option A) → fit xs ≡ is_some x → fit ys ≡ is_some y → fit (cond b xs ys) ≡ is_some (cond b x y)
fit_by true xs ys x y h g = h
fit_by false xs ys x y h g = g

mutual
  pub instruction_fits : (w : Way) (k : ℕ) (d : Data) → fit (instruction_places w k d) ≡ is_some (instruction_in d)
  instruction_fits w k null = refl
  instruction_fits w k (boolean b) = refl
  instruction_fits w k (number n) = refl
  instruction_fits w k (string s) = refl
  instruction_fits w k (array ds) = refl
  instruction_fits w k (object ms) =
      let spot : Spot = named_spot (codes "instructions") k (object ms) in
      fit_joined (own_places w spot (object ms)) (child_places_under w k (part_spot spot (codes "child")) ms) _ _ (own_fits w spot (object ms)) (child_under_fits w k (part_spot spot (codes "child")) ms)
      ∙ sym (some_instruction (required as_str (codes "name") ms) (required term_in (codes "decode") ms) (required update_in (codes "update") ms) (child_under ms))

  child_under_fits : (w : Way) (k : ℕ) (s : Spot) (ms : Members) → fit (child_places_under w k s ms) ≡ is_some (child_under ms)
  child_under_fits w k s no_members = refl
  child_under_fits w k s (member n d ms) =
      fit_by (same_name n (codes "child")) (child_places w k s d) (child_places_under w k s ms) (child_in d) (child_under ms) (child_fits w k s d) (child_under_fits w k s ms)

  child_fits : (w : Way) (k : ℕ) (s : Spot) (d : Data) → fit (child_places w k s d) ≡ is_some (child_in d)
  child_fits w k s null = refl
  child_fits w k s (boolean b) = refl
  child_fits w k s (number n) = refl
  child_fits w k s (string t) = refl
  child_fits w k s (array ds) = refl
  child_fits w k s (object ms) =
      fit_then (into w k) (key_spot (codes "steps")) (has unsigned_in (codes "steps") (object ms)) (is_some (machine_in private_state_in ms (instructions_under ms)))
      (machine_places private_sort_in private_state_in (into w k) (object ms) (instruction_places_under (into w k) ms))
      (machine_fits private_sort_in private_state_in private_whole (into w k) ms (instruction_places_under (into w k) ms) (instructions_under ms) (instructions_fit (into w k) ms))
      ∙ sym (some_child (required unsigned_in (codes "steps") ms) (machine_in private_state_in ms (instructions_under ms)))

  instructions_fit : (w : Way) (ms : Members) → fit (instruction_places_under w ms) ≡ is_some (instructions_under ms)
  instructions_fit w no_members = refl
  instructions_fit w (member n d ms) =
      fit_by (same_name n (codes "instructions")) (instruction_list_places w d) (instruction_places_under w ms) (written_instructions_in d) (instructions_under ms) (instruction_list_fits w d) (instructions_fit w ms)

  instruction_list_fits : (w : Way) (d : Data) → fit (instruction_list_places w d) ≡ is_some (written_instructions_in d)
  instruction_list_fits w null = refl
  instruction_list_fits w (boolean b) = refl
  instruction_list_fits w (number n) = refl
  instruction_list_fits w (string s) = refl
  instruction_list_fits w (array ds) = all_instructions_fit w 0 ds
  instruction_list_fits w (object ms) = refl

  all_instructions_fit : (w : Way) (k : ℕ) (ds : Items) → fit (all_instruction_places w k ds) ≡ is_some (all_instructions ds)
  all_instructions_fit w k no_items = refl
  all_instructions_fit w k (item d ds) =
      fit_joined (instruction_places w k d) (all_instruction_places w (k + 1) ds) (is_some (instruction_in d)) (is_some (all_instructions ds)) (instruction_fits w k d) (all_instructions_fit w (k + 1) ds)
      ∙ sym (some_instructions (instruction_in d) (all_instructions ds))

pub model_fits : (d : Data) → fit (shape_places d) ≡ is_some (model_in d)
model_fits null = refl
model_fits (boolean b) = refl
model_fits (number n) = refl
model_fits (string s) = refl
model_fits (array ds) = refl
model_fits (object ms) =
    let inputs : List Judged = list_places (input_places 0) [] (codes "inputs") (object ms) in
    let top : List Judged = machine_places sort_in state_declared_in [] (object ms) (instruction_places_under [] ms) in
    fit_then [] (key_spot (codes "name")) (has as_str (codes "name") (object ms)) _ (inputs ++ top)
    (fit_joined inputs top _ _ (list_fits (input_places 0) input_in [] (codes "inputs") (object ms) (inputs_fit 0))
    (machine_fits sort_in state_declared_in declared_whole [] ms (instruction_places_under [] ms) (instructions_under ms) (instructions_fit [] ms)))
    ∙ sym (some_model (required as_str (codes "name") ms) (required (list_in input_in) (codes "inputs") ms) (machine_in state_declared_in ms (instructions_under ms)))

-- the note that there is then
pub noted_misfit : (d : Data) → is_none (shape_note d) ≡ is_some (model_in d)
noted_misfit d = ap not (some_mapped site_note (first_misfit (shape_places d))) ∙ model_fits d
