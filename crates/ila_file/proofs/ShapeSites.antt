-- The first place of a file at which something of another kind stands, object by object.
use Rattle.std.proofs.Common.{◌≡◌, ℕ, ◌+◌, Bool, true, false, cond, not, List, [], ◌∷◌, ◌++◌, Option, Some, None, option_map, option_and_then, is_some, is_none, refl, sym, ap, ◌∙◌}
use Rattle.std.specs.Prelude.{codes}
use Rattle.wb_values.specs.Value.{Name, same_name}
use Rattle.wb_values.specs.Choice.{first_of}
use Rattle.model_files.specs.Shape.{unsigned_in, sort_in, term_in, private_state_in, state_declared_in, input_in, definition_in, instruction_in}
use Rattle.model_places.specs.Sites.{Way, into, Spot, Site, site_at, key_spot, part_spot, member_spot}
use Rattle.model_places.specs.ShapePlaces.{Judged, fitted, under, has, fits_if_there, may_have, named_spot, in_list, list_places, optional_list_places, private_sort_in, state_places, input_places, definition_spot, definition_places, update_places, in_object, own_places, machine_places, instruction_places, child_places_under, child_places, instruction_places_under, instruction_list_places, all_instruction_places, shape_places, first_misfit}
use Rattle.model_places.proofs.Fitting.{instruction_fits}
use Rattle.serde_json.specs.Data.{Data, null, boolean, number, string, array, object, Items, no_items, item, Members, no_members, member}
use Rattle.serde_json.specs.Find.{get_member, get, as_str, as_array, as_object}
use Rattle.ila_file.specs.Parts.{sort_of, state_of}
use Rattle.ila_file.specs.KeySpots.{listed, first_item}
use Rattle.ila_file.specs.ShapeSpots.{unless, in_required, in_optional, state_fault, state_misfits, input_misfits, definition_misfits, term_misfit, machine_misfit, bad_update, update_misfit, child_misfit, instruction_misfit, is_no_instruction, misfit_below, misfit_in_child}
use Rattle.ila_file.proofs.Shapes.{found}
use Rattle.ila_file.proofs.KeySites.{first_then, mapped_first, stays_first}

misfit_one : (w : Way) (s : Spot) (b : Bool) (ps : List Judged) → first_misfit (fitted w s b ∷ ps) ≡ first_of (option_map (site_at w) (unless b s)) (first_misfit ps)
misfit_one w s true ps = refl
misfit_one w s false ps = refl

misfit_then : (xs ys : List Judged) → first_misfit (xs ++ ys) ≡ first_of (first_misfit xs) (first_misfit ys)
misfit_then [] ys = refl
misfit_then (p ∷ xs) ys = shown p.fits (misfit_then xs ys) where
  shown : (b : Bool) → first_misfit (xs ++ ys) ≡ first_of (first_misfit xs) (first_misfit ys)
      → cond b (first_misfit (xs ++ ys)) (Some p.site) ≡ first_of (cond b (first_misfit xs) (Some p.site)) (first_misfit ys)
  shown true h = h
  shown false h = refl

-- the first of two is the first spot of theirs, or what is behind both
spots_then : (w : Way) (a b : Option Spot) (x y r : Option Site) → x ≡ option_map (site_at w) a → y ≡ first_of (option_map (site_at w) b) r
    → first_of x y ≡ first_of (option_map (site_at w) (first_of a b)) r
spots_then w a b x y r h g =
    (λ i. first_of (h i) (g i))
    ∙ (first_then (option_map (site_at w) a) (option_map (site_at w) b) r ∙ ap (λ o. first_of o r) (sym (mapped_first (site_at w) a b)))

-- the same of spots alone
spots_both : (w : Way) (a b : Option Spot) (x y : Option Site) → x ≡ option_map (site_at w) a → y ≡ option_map (site_at w) b → first_of x y ≡ option_map (site_at w) (first_of a b)
spots_both w a b x y h g = (λ i. first_of (h i) (g i)) ∙ sym (mapped_first (site_at w) a b)

-- one place, and others behind it
one_then : (w : Way) (s : Spot) (t : Bool) (b : Option Spot) (ps : List Judged) (r : Option Site) → first_misfit ps ≡ first_of (option_map (site_at w) b) r
    → first_misfit (fitted w s t ∷ ps) ≡ first_of (option_map (site_at w) (first_of (unless t s) b)) r
one_then w s t b ps r h = misfit_one w s t ps ∙ spots_then w (unless t s) b (option_map (site_at w) (unless t s)) (first_misfit ps) r refl h

-- some places, and others behind them
some_then : (w : Way) (a b : Option Spot) (xs ys : List Judged) (r : Option Site) → first_misfit xs ≡ option_map (site_at w) a → first_misfit ys ≡ first_of (option_map (site_at w) b) r
    → first_misfit (xs ++ ys) ≡ first_of (option_map (site_at w) (first_of a b)) r
some_then w a b xs ys r h g = misfit_then xs ys ∙ spots_then w a b (first_misfit xs) (first_misfit ys) r h g

-- ---- lists

required_first : (w : Way) (f : Items → List Judged) (g : Items → Option Spot) (k : Name) → ((ds : Items) → first_misfit (f ds) ≡ option_map (site_at w) (g ds)) → (o : Option Items)
    → first_misfit (fitted w (key_spot k) (is_some o) ∷ in_list f o) ≡ option_map (site_at w) (in_required k g o)
required_first w f g k h None = refl
required_first w f g k h (Some ds) = h ds

optional_first : (w : Way) (f : Items → List Judged) (g : Items → Option Spot) (k : Name) → ((ds : Items) → first_misfit (f ds) ≡ option_map (site_at w) (g ds)) → (o : Option Data)
    → first_misfit (fitted w (key_spot k) (fits_if_there as_array o) ∷ in_list f (option_and_then as_array o)) ≡ option_map (site_at w) (in_optional k g o)
optional_first w f g k h None = refl
optional_first w f g k h (Some d) = required_first w f g k h (as_array d)

three : (w : Way) (s : Spot) (x y z : Bool) (ps : List Judged)
    → first_misfit (fitted w (part_spot s (codes "name")) x ∷ fitted w (part_spot s (codes "sort")) y ∷ fitted w (part_spot s (codes "init")) z ∷ ps)
    ≡ first_of (option_map (site_at w) (option_map (part_spot s) (cond x (cond y (cond z None (Some (codes "init"))) (Some (codes "sort"))) (Some (codes "name"))))) (first_misfit ps)
three w s true true true ps = refl
three w s true true false ps = refl
three w s true false z ps = refl
three w s false y z ps = refl

states_first : (p : Bool) (w : Way) (k : ℕ) (ds : Items) → first_misfit (state_places (sort_of p) (state_of p) w k ds) ≡ option_map (site_at w) (state_misfits p k ds)
states_first p w k no_items = refl
states_first p w k (item d ds) =
    let spot : Option Spot = option_map (part_spot (named_spot (codes "states") k d)) (state_fault p d) in
    three w (named_spot (codes "states") k d) (has as_str (codes "name") d) (has (sort_of p) (codes "sort") d) (is_some (state_of p d)) (state_places (sort_of p) (state_of p) w (k + 1) ds)
    ∙ spots_both w spot (state_misfits p (k + 1) ds) (option_map (site_at w) spot) (first_misfit (state_places (sort_of p) (state_of p) w (k + 1) ds)) refl (states_first p w (k + 1) ds)

inputs_first : (k : ℕ) (ds : Items) → first_misfit (input_places k ds) ≡ option_map (site_at []) (input_misfits k ds)
inputs_first k no_items = refl
inputs_first k (item d ds) =
    let spot : Option Spot = unless (is_some (input_in d)) (named_spot (codes "inputs") k d) in
    misfit_one [] (named_spot (codes "inputs") k d) (is_some (input_in d)) (input_places (k + 1) ds)
    ∙ spots_both [] spot (input_misfits (k + 1) ds) (option_map (site_at []) spot) (first_misfit (input_places (k + 1) ds)) refl (inputs_first (k + 1) ds)

definitions_first : (w : Way) (k : ℕ) (ds : Items) → first_misfit (definition_places w k ds) ≡ option_map (site_at w) (definition_misfits k ds)
definitions_first w k no_items = refl
definitions_first w k (item d ds) =
    let spot : Option Spot = unless (is_some (definition_in d)) (definition_spot k d) in
    misfit_one w (definition_spot k d) (is_some (definition_in d)) (definition_places w (k + 1) ds)
    ∙ spots_both w spot (definition_misfits (k + 1) ds) (option_map (site_at w) spot) (first_misfit (definition_places w (k + 1) ds)) refl (definitions_first w (k + 1) ds)

-- ---- the instructions of a machine

-- the list of instructions, and its items
at_list : Way → Option Items → Option Site
at_list w o = first_of (option_map (site_at w) (unless (is_some o) (key_spot (codes "instructions")))) (first_misfit (in_list (all_instruction_places w 0) o))

list_first : (w : Way) (d : Data) → first_misfit (instruction_list_places w d) ≡ at_list w (as_array d)
unfolding at_list
list_first w null = refl
list_first w (boolean t) = refl
list_first w (number n) = refl
list_first w (string s) = refl
list_first w (array ds) = refl
list_first w (object ms) = refl

list_by : (w : Way) (b : Bool) (d : Data) (o : Option Data) (xs ys : List Judged) → first_misfit xs ≡ at_list w (as_array d) → first_misfit ys ≡ at_list w (option_and_then as_array o)
    → first_misfit (cond b xs ys) ≡ at_list w (option_and_then as_array (cond b (Some d) o))
list_by w true d o xs ys h g = h
list_by w false d o xs ys h g = g

list_under_first : (w : Way) (ms : Members) → first_misfit (instruction_places_under w ms) ≡ at_list w (option_and_then as_array (get_member (codes "instructions") ms))
unfolding at_list
list_under_first w no_members = refl
list_under_first w (member n d ms) =
    list_by w (same_name n (codes "instructions")) d (get_member (codes "instructions") ms) (instruction_list_places w d) (instruction_places_under w ms) (list_first w d) (list_under_first w ms)
    ∙ ap (λ o. at_list w (option_and_then as_array o)) (sym (found (codes "instructions") n (Some d) (get_member (codes "instructions") ms)))

instructions_first : (w : Way) (ms : Members) → first_misfit (instruction_places_under w ms)
    ≡ first_of (option_map (site_at w) (unless (has as_array (codes "instructions") (object ms)) (key_spot (codes "instructions")))) (misfit_below w (object ms))
unfolding at_list
instructions_first w ms = list_under_first w ms

-- ---- machines

-- a machine, its head aside
machine_first : (p : Bool) (w : Way) (ms : Members) → first_misfit (machine_places (sort_of p) (state_of p) w (object ms) (instruction_places_under w ms))
    ≡ first_of (option_map (site_at w) (first_of (in_required (codes "states") (state_misfits p 0) (under as_array (codes "states") (object ms))) (term_misfit (object ms)))) (misfit_below w (object ms))
machine_first p w ms =
    let d : Data = object ms in
    let is : List Judged = instruction_places_under w ms in
    let valid : List Judged = fitted w (key_spot (codes "valid")) (has term_in (codes "valid") d) ∷ is in
    let fetch : List Judged = fitted w (key_spot (codes "fetch")) (may_have term_in (codes "fetch") d) ∷ valid in
    let define : List Judged = optional_list_places (definition_places w 0) w (codes "define") d in
    let states : List Judged = list_places (state_places (sort_of p) (state_of p) w 0) w (codes "states") d in
    let no_list : Option Spot = unless (has as_array (codes "instructions") d) (key_spot (codes "instructions")) in
    let no_valid : Option Spot = first_of (unless (has term_in (codes "valid") d) (key_spot (codes "valid"))) no_list in
    let no_fetch : Option Spot = first_of (unless (may_have term_in (codes "fetch") d) (key_spot (codes "fetch"))) no_valid in
    some_then w (in_required (codes "states") (state_misfits p 0) (under as_array (codes "states") d)) (term_misfit d) states (define ++ fetch) (misfit_below w d)
    (required_first w (state_places (sort_of p) (state_of p) w 0) (state_misfits p 0) (codes "states") (states_first p w 0) (under as_array (codes "states") d))
    (some_then w (in_optional (codes "define") (definition_misfits 0) (get (codes "define") d)) no_fetch define fetch (misfit_below w d)
    (optional_first w (definition_places w 0) (definition_misfits 0) (codes "define") (definitions_first w 0) (get (codes "define") d))
    (one_then w (key_spot (codes "fetch")) (may_have term_in (codes "fetch") d) no_valid valid (misfit_below w d)
    (one_then w (key_spot (codes "valid")) (has term_in (codes "valid") d) no_list is (misfit_below w d) (instructions_first w ms))))

-- a child: the steps first
child_first : (w : Way) (ms : Members)
    → first_misfit (fitted w (key_spot (codes "steps")) (has unsigned_in (codes "steps") (object ms)) ∷ machine_places private_sort_in private_state_in w (object ms) (instruction_places_under w ms))
    ≡ first_of (option_map (site_at w) (machine_misfit true (object ms))) (misfit_below w (object ms))
child_first w ms =
    one_then w (key_spot (codes "steps")) (has unsigned_in (codes "steps") (object ms))
    (first_of (in_required (codes "states") (state_misfits true 0) (under as_array (codes "states") (object ms))) (term_misfit (object ms)))
    (machine_places private_sort_in private_state_in w (object ms) (instruction_places_under w ms)) (misfit_below w (object ms)) (machine_first true w ms)

-- the first misfit of a file: of the machine, and then of its instructions
pub model_first : (d : Data) → first_misfit (shape_places d) ≡ first_of (option_map (site_at []) (machine_misfit false d)) (misfit_below [] d)
model_first null = refl
model_first (boolean t) = refl
model_first (number n) = refl
model_first (string s) = refl
model_first (array ds) = refl
model_first (object ms) =
    let d : Data = object ms in
    let inputs : List Judged = list_places (input_places 0) [] (codes "inputs") d in
    let top : List Judged = machine_places sort_in state_declared_in [] d (instruction_places_under [] ms) in
    let input : Option Spot = in_required (codes "inputs") (input_misfits 0) (under as_array (codes "inputs") d) in
    let behind : Option Spot = first_of (in_required (codes "states") (state_misfits false 0) (under as_array (codes "states") d)) (term_misfit d) in
    let no_name : Option Spot = unless (has as_str (codes "name") d) (key_spot (codes "name")) in
    one_then [] (key_spot (codes "name")) (has as_str (codes "name") d) (first_of input behind) (inputs ++ top) (misfit_below [] d)
    (some_then [] input behind inputs top (misfit_below [] d)
    (required_first [] (input_places 0) (input_misfits 0) (codes "inputs") (inputs_first 0) (under as_array (codes "inputs") d)) (machine_first false [] ms))
    ∙ ap (λ o. first_of (option_map (site_at []) o) (misfit_below [] d)) (first_then no_name input behind)

-- ---- instructions

updates_first : (w : Way) (u : Spot) (ms : Members) → first_misfit (update_places w u ms) ≡ option_map (site_at w) (option_map (member_spot u) (bad_update ms))
updates_first w u no_members = refl
updates_first w u (member n d ms) = shown (is_some (term_in d)) (updates_first w u ms) where
  shown : (b : Bool) → first_misfit (update_places w u ms) ≡ option_map (site_at w) (option_map (member_spot u) (bad_update ms))
      → cond b (first_misfit (update_places w u ms)) (Some (site_at w (member_spot u n))) ≡ option_map (site_at w) (option_map (member_spot u) (cond b (bad_update ms) (Some n)))
  shown true h = h
  shown false h = refl

update_first : (w : Way) (u : Spot) (o : Option Members) → first_misfit (fitted w u (is_some o) ∷ in_object (update_places w u) o) ≡ option_map (site_at w) (update_misfit u o)
update_first w u None = refl
update_first w u (Some ms) = updates_first w u ms

-- an instruction, and what stands behind its own
own_first : (w : Way) (s : Spot) (d : Data) (a : Option Spot) (r : Option Site) (rest : List Judged) → first_misfit rest ≡ first_of (option_map (site_at w) a) r
    → first_misfit (own_places w s d ++ rest)
    ≡ first_of (option_map (site_at w) (first_of (unless (has as_str (codes "name") d) (part_spot s (codes "name")))
    (first_of (unless (has term_in (codes "decode") d) (part_spot s (codes "decode"))) (first_of (update_misfit (part_spot s (codes "update")) (under as_object (codes "update") d)) a)))) r
own_first w s d a r rest h =
    let u : Spot = part_spot s (codes "update") in
    let update : List Judged = fitted w u (has as_object (codes "update") d) ∷ in_object (update_places w u) (under as_object (codes "update") d) in
    let no_update : Option Spot = first_of (update_misfit u (under as_object (codes "update") d)) a in
    let no_decode : Option Spot = first_of (unless (has term_in (codes "decode") d) (part_spot s (codes "decode"))) no_update in
    one_then w (part_spot s (codes "name")) (has as_str (codes "name") d) no_decode (fitted w (part_spot s (codes "decode")) (has term_in (codes "decode") d) ∷ (update ++ rest)) r
    (one_then w (part_spot s (codes "decode")) (has term_in (codes "decode") d) no_update (update ++ rest) r
    (some_then w (update_misfit u (under as_object (codes "update") d)) a update rest r (update_first w u (under as_object (codes "update") d)) h))

-- a child that may be there, and what stands in it
at_child : Way → ℕ → Spot → Option Data → Option Site
at_child w k s o = first_of (option_map (site_at w) (child_misfit s o)) (misfit_in_child (into w k) o)

child_there : (w : Way) (k : ℕ) (s : Spot) (d : Data) → first_misfit (child_places w k s d) ≡ at_child w k s (Some d)
unfolding at_child
child_there w k s null = refl
child_there w k s (boolean t) = refl
child_there w k s (number n) = refl
child_there w k s (string t) = refl
child_there w k s (array ds) = refl
child_there w k s (object ms) = child_first (into w k) ms

child_by : (w : Way) (k : ℕ) (s : Spot) (b : Bool) (d : Data) (o : Option Data) (xs ys : List Judged) → first_misfit xs ≡ at_child w k s (Some d) → first_misfit ys ≡ at_child w k s o
    → first_misfit (cond b xs ys) ≡ at_child w k s (cond b (Some d) o)
child_by w k s true d o xs ys h g = h
child_by w k s false d o xs ys h g = g

child_under_first : (w : Way) (k : ℕ) (s : Spot) (ms : Members) → first_misfit (child_places_under w k s ms) ≡ at_child w k s (get_member (codes "child") ms)
unfolding at_child
child_under_first w k s no_members = refl
child_under_first w k s (member n d ms) =
    child_by w k s (same_name n (codes "child")) d (get_member (codes "child") ms) (child_places w k s d) (child_places_under w k s ms) (child_there w k s d) (child_under_first w k s ms)
    ∙ ap (at_child w k s) (sym (found (codes "child") n (Some d) (get_member (codes "child") ms)))

-- the first misfit of an instruction: of its own, and then of its child
pub instruction_first : (w : Way) (k : ℕ) (d : Data)
    → first_misfit (instruction_places w k d) ≡ first_of (option_map (site_at w) (instruction_misfit k d)) (misfit_in_child (into w k) (get (codes "child") d))
unfolding at_child
instruction_first w k null = refl
instruction_first w k (boolean t) = refl
instruction_first w k (number n) = refl
instruction_first w k (string s) = refl
instruction_first w k (array ds) = refl
instruction_first w k (object ms) =
    let s : Spot = named_spot (codes "instructions") k (object ms) in
    own_first w s (object ms) (child_misfit (part_spot s (codes "child")) (get_member (codes "child") ms)) (misfit_in_child (into w k) (get_member (codes "child") ms))
    (child_places_under w k (part_spot s (codes "child")) ms) (child_under_first w k (part_spot s (codes "child")) ms)

-- ---- the first instruction that is none

site_of : Way → Option (ℕ × Data) → Option Site
site_of w None = None
site_of w (Some r) = first_misfit (instruction_places w r.0 r.1)

site_by : (w : Way) (b : Bool) (k : ℕ) (d : Data) (o : Option (ℕ × Data)) → cond b (first_misfit (instruction_places w k d)) (site_of w o) ≡ site_of w (cond b (Some (k, d)) o)
unfolding site_of
site_by w true k d o = refl
site_by w false k d o = refl

some_turned : (a : Option Site) (b : Bool) → is_none a ≡ b → is_some a ≡ not b
some_turned None b h = ap not h
some_turned (Some s) b h = ap not h

all_first : (w : Way) (k : ℕ) (ds : Items) → first_misfit (all_instruction_places w k ds) ≡ site_of w (first_item is_no_instruction k ds)
unfolding site_of
all_first w k no_items = refl
all_first w k (item d ds) =
    misfit_then (instruction_places w k d) (all_instruction_places w (k + 1) ds)
    ∙ (stays_first (first_misfit (instruction_places w k d)) _ _ (is_no_instruction d) (some_turned (first_misfit (instruction_places w k d)) (is_some (instruction_in d)) (instruction_fits w k d)) (all_first w (k + 1) ds)
    ∙ site_by w (is_no_instruction d) k d (first_item is_no_instruction (k + 1) ds))

below_first : (w : Way) (o : Option Items) → first_misfit (in_list (all_instruction_places w 0) o) ≡ site_of w (listed (first_item is_no_instruction 0) o)
unfolding site_of
below_first w None = refl
below_first w (Some ds) = all_first w 0 ds

-- below a machine, where an instruction is refused
pub below_some : (w : Way) (d e : Data) (k : ℕ) → Some (k, e) ≡ listed (first_item is_no_instruction 0) (under as_array (codes "instructions") d) → misfit_below w d ≡ first_misfit (instruction_places w k e)
unfolding site_of
below_some w d e k h = below_first w (under as_array (codes "instructions") d) ∙ ap (site_of w) (sym h)

-- and where none is
pub below_none : (w : Way) (d : Data) → None ≡ listed (first_item is_no_instruction 0) (under as_array (codes "instructions") d) → misfit_below w d ≡ None
unfolding site_of
below_none w d h = below_first w (under as_array (codes "instructions") d) ∙ ap (site_of w) (sym h)
