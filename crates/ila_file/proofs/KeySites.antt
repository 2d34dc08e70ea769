-- The first unknown key of a file, object by object.
use Rattle.std.proofs.Common.{◌≡◌, ℕ, suc, ◌+◌, ◌<◌, ◌≤◌, Bool, true, false, cond, not, ◌||◌, List, [], ◌∷◌, ◌++◌, Option, Some, None, option_map, option_and_then, is_some, refl, sym, ap, ◌∙◌, subst, arith}
use Rattle.std.specs.Prelude.{codes}
use Rattle.wb_values.specs.Value.{Name, same_name}
use Rattle.wb_values.specs.Choice.{first_of}
use Rattle.model_meaning.specs.Among.{is_name_in}
use Rattle.model_files.specs.Keys.{has_other_key, some_item, some_item_of, some_item_under, state_keys, state_has_other_key, input_has_other_key, input_keys, instruction_keys, child_keys, model_keys, instruction_has_unknown_key, child_under_has_unknown_key, child_has_unknown_key, instructions_under_have_unknown_key, instructions_have_unknown_key, some_instruction_has_unknown_key, model_has_unknown_key}
use Rattle.model_places.specs.Sites.{Way, into, Spot, Site, site_at, key_spot, item_spot, part_spot}
use Rattle.model_places.specs.KeyPlaces.{Keyed, keyed, key_of_item, state_objects, input_objects, objects_of, objects_under, instruction_objects, child_objects_under, child_objects, instruction_objects_under, instruction_list_objects, all_instruction_objects, objects_in, first_other_key, other_key_site, first_key_site}
use Rattle.serde_json.specs.Data.{Data, null, boolean, number, string, array, object, Items, no_items, item, Members, no_members, member, depth, items_depth}
use Rattle.serde_json.specs.Find.{get_member, get, as_str, as_array, as_object}
use Rattle.model_places.specs.ShapePlaces.{under, named_spot}
use Rattle.ila_file.specs.KeyParts.{memory_keys, valued_keys}
use Rattle.ila_file.specs.KeySpots.{other_key_of, state_key_of, state_spots, input_spots, listed, own_spot, first_item, below, child_below}
use Rattle.ila_file.proofs.Shapes.{found}
use Rattle.ila_file.proofs.KnownKeys.{memory_found}

-- ---- whether there is one

some_first : {A : Type 0} (a b : Option A) → is_some (first_of a b) ≡ (is_some a || is_some b)
some_first None b = refl
some_first (Some x) b = refl

pub first_then : {A : Type 0} (a b c : Option A) → first_of a (first_of b c) ≡ first_of (first_of a b) c
first_then None b c = refl
first_then (Some x) b c = refl

sites_then : (xs ys : List Keyed) → first_key_site (xs ++ ys) ≡ first_of (first_key_site xs) (first_key_site ys)
sites_then [] ys = refl
sites_then (x ∷ xs) ys = ap (first_of (other_key_site x)) (sites_then xs ys) ∙ first_then (other_key_site x) (first_key_site xs) (first_key_site ys)

some_sites : (xs ys : List Keyed) → is_some (first_key_site (xs ++ ys)) ≡ (is_some (first_key_site xs) || is_some (first_key_site ys))
some_sites xs ys = ap is_some (sites_then xs ys) ∙ some_first (first_key_site xs) (first_key_site ys)

pub some_mapped : {A B : Type 0} (f : A → B) (o : Option A) → is_some (option_map f o) ≡ is_some o
some_mapped f None = refl
some_mapped f (Some x) = refl

some_key : (ks : List Name) (ms : Members) → is_some (first_other_key ks ms) ≡ has_other_key ks ms
some_key ks no_members = refl
some_key ks (member k d ms) = shown (is_name_in k ks) (some_key ks ms) where
  shown : (b : Bool) → is_some (first_other_key ks ms) ≡ has_other_key ks ms → is_some (cond b (first_other_key ks ms) (Some k)) ≡ (not b || has_other_key ks ms)
  shown true h = h
  shown false h = refl

some_object : (w : Way) (s : (key : Name) → Spot) (ks : List Name) (ms : Members) (os : List Keyed) (b : Bool) → is_some (first_key_site os) ≡ b
    → is_some (first_key_site (keyed w s ks ms ∷ os)) ≡ (has_other_key ks ms || b)
some_object w s ks ms os b h =
    some_first (other_key_site (keyed w s ks ms)) (first_key_site os)
    ∙ (λ i. (some_mapped (λ key. site_at w (s key)) (first_other_key ks ms) ∙ some_key ks ms) i || h i)

some_states : (way : Way) (k : ℕ) (ds : Items) → is_some (first_key_site (state_objects way k ds)) ≡ some_item state_has_other_key ds
some_states way k no_items = refl
some_states way k (item null ds) = some_states way (k + 1) ds
some_states way k (item (boolean t) ds) = some_states way (k + 1) ds
some_states way k (item (number n) ds) = some_states way (k + 1) ds
some_states way k (item (string s) ds) = some_states way (k + 1) ds
some_states way k (item (array es) ds) = some_states way (k + 1) ds
some_states way k (item (object ms) ds) =
    some_object way (key_of_item (codes "states") k ms) (state_keys ms) ms (state_objects way (k + 1) ds) _ (some_states way (k + 1) ds)

some_inputs : (k : ℕ) (ds : Items) → is_some (first_key_site (input_objects k ds)) ≡ some_item input_has_other_key ds
some_inputs k no_items = refl
some_inputs k (item null ds) = some_inputs (k + 1) ds
some_inputs k (item (boolean t) ds) = some_inputs (k + 1) ds
some_inputs k (item (number n) ds) = some_inputs (k + 1) ds
some_inputs k (item (string s) ds) = some_inputs (k + 1) ds
some_inputs k (item (array es) ds) = some_inputs (k + 1) ds
some_inputs k (item (object ms) ds) = some_object [] (key_of_item (codes "inputs") k ms) input_keys ms (input_objects (k + 1) ds) _ (some_inputs (k + 1) ds)

some_of : (f : Items → List Keyed) (p : Data → Bool) → ((ds : Items) → is_some (first_key_site (f ds)) ≡ some_item p ds) → (d : Data)
    → is_some (first_key_site (objects_of f d)) ≡ some_item_of p d
some_of f p h null = refl
some_of f p h (boolean t) = refl
some_of f p h (number n) = refl
some_of f p h (string s) = refl
some_of f p h (array ds) = h ds
some_of f p h (object ms) = refl

some_by : (b : Bool) (xs ys : List Keyed) (t u : Bool) → is_some (first_key_site xs) ≡ t → is_some (first_key_site ys) ≡ u → is_some (first_key_site (cond b xs ys)) ≡ cond b t u
some_by true xs ys t u h g = h
some_by false xs ys t u h g = g

some_under : (f : Items → List Keyed) (p : Data → Bool) → ((ds : Items) → is_some (first_key_site (f ds)) ≡ some_item p ds) → (n : Name) (ms : Members)
    → is_some (first_key_site (objects_under f n ms)) ≡ some_item_under p n ms
some_under f p h n no_members = refl
some_under f p h n (member k d ms) = some_by (same_name k n) (objects_of f d) (objects_under f n ms) _ _ (some_of f p h d) (some_under f p h n ms)

mutual
  pub some_instruction : (way : Way) (k : ℕ) (d : Data) → is_some (first_key_site (instruction_objects way k d)) ≡ instruction_has_unknown_key d
  some_instruction way k null = refl
  some_instruction way k (boolean t) = refl
  some_instruction way k (number n) = refl
  some_instruction way k (string s) = refl
  some_instruction way k (array ds) = refl
  some_instruction way k (object ms) =
      some_object way (key_of_item (codes "instructions") k ms) instruction_keys ms (child_objects_under (into way k) ms) _ (some_child_under (into way k) ms)

  some_child_under : (way : Way) (ms : Members) → is_some (first_key_site (child_objects_under way ms)) ≡ child_under_has_unknown_key ms
  some_child_under way no_members = refl
  some_child_under way (member k d ms) =
      some_by (same_name k (codes "child")) (child_objects way d) (child_objects_under way ms) _ _ (some_child way d) (some_child_under way ms)

  some_child : (way : Way) (d : Data) → is_some (first_key_site (child_objects way d)) ≡ child_has_unknown_key d
  some_child way null = refl
  some_child way (boolean t) = refl
  some_child way (number n) = refl
  some_child way (string s) = refl
  some_child way (array ds) = refl
  some_child way (object ms) =
      some_object way key_spot child_keys ms (objects_under (state_objects way 0) (codes "states") ms ++ instruction_objects_under way ms) _
      (some_sites (objects_under (state_objects way 0) (codes "states") ms) (instruction_objects_under way ms)
      ∙ (λ i. some_under (state_objects way 0) state_has_other_key (some_states way 0) (codes "states") ms i || some_instructions_under way ms i))

  some_instructions_under : (way : Way) (ms : Members) → is_some (first_key_site (instruction_objects_under way ms)) ≡ instructions_under_have_unknown_key ms
  some_instructions_under way no_members = refl
  some_instructions_under way (member k d ms) =
      some_by (same_name k (codes "instructions")) (instruction_list_objects way d) (instruction_objects_under way ms) _ _ (some_list way d) (some_instructions_under way ms)

  some_list : (way : Way) (d : Data) → is_some (first_key_site (instruction_list_objects way d)) ≡ instructions_have_unknown_key d
  some_list way null = refl
  some_list way (boolean t) = refl
  some_list way (number n) = refl
  some_list way (string s) = refl
  some_list way (array ds) = some_all way 0 ds
  some_list way (object ms) = refl

  some_all : (way : Way) (k : ℕ) (ds : Items) → is_some (first_key_site (all_instruction_objects way k ds)) ≡ some_instruction_has_unknown_key ds
  some_all way k no_items = refl
  some_all way k (item d ds) =
      some_sites (instruction_objects way k d) (all_instruction_objects way (k + 1) ds)
      ∙ (λ i. some_instruction way k d i || some_all way (k + 1) ds i)

-- a file has an unknown key where there is a first one
pub some_in : (d : Data) → is_some (first_key_site (objects_in d)) ≡ model_has_unknown_key d
some_in null = refl
some_in (boolean t) = refl
some_in (number n) = refl
some_in (string s) = refl
some_in (array ds) = refl
some_in (object ms) =
    let states : List Keyed = objects_under (state_objects [] 0) (codes "states") ms in
    let inputs : List Keyed = objects_under (input_objects 0) (codes "inputs") ms in
    some_object [] key_spot model_keys ms (inputs ++ (states ++ instruction_objects_under [] ms)) _
    (some_sites inputs (states ++ instruction_objects_under [] ms)
    ∙ ((λ i. some_under (input_objects 0) input_has_other_key (some_inputs 0) (codes "inputs") ms i
    || (some_sites states (instruction_objects_under [] ms)
    ∙ (λ j. some_under (state_objects [] 0) state_has_other_key (some_states [] 0) (codes "states") ms j || some_instructions_under [] ms j)) i)
    ∙ turned (some_item_under input_has_other_key (codes "inputs") ms) (some_item_under state_has_other_key (codes "states") ms) (instructions_under_have_unknown_key ms)))
  where
    turned : (a b c : Bool) → (a || (b || c)) ≡ (b || (a || c))
    turned true true c = refl
    turned true false c = refl
    turned false true c = refl
    turned false false c = refl

-- ---- where it is

pub mapped_first : {A B : Type 0} (f : A → B) (a b : Option A) → option_map f (first_of a b) ≡ first_of (option_map f a) (option_map f b)
mapped_first f None b = refl
mapped_first f (Some x) b = refl

mapped_twice : {A B C : Type 0} (f : B → C) (g : A → B) (a : Option A) → option_map (λ x. f (g x)) a ≡ option_map f (option_map g a)
mapped_twice f g None = refl
mapped_twice f g (Some x) = refl

object_site : (w : Way) (s : (key : Name) → Spot) (ks : List Name) (ms : Members) → other_key_site (keyed w s ks ms) ≡ option_map (site_at w) (option_map s (first_other_key ks ms))
object_site w s ks ms = mapped_twice (site_at w) s (first_other_key ks ms)

state_key : (ms : Members) → first_other_key (state_keys ms) ms ≡ state_key_of (object ms)
state_key ms = ap (λ b. first_other_key (cond b memory_keys valued_keys) ms) (sym (memory_found ms))

states_first : (way : Way) (k : ℕ) (ds : Items) → first_key_site (state_objects way k ds) ≡ option_map (site_at way) (state_spots k ds)
states_first way k no_items = refl
states_first way k (item null ds) = states_first way (k + 1) ds
states_first way k (item (boolean t) ds) = states_first way (k + 1) ds
states_first way k (item (number n) ds) = states_first way (k + 1) ds
states_first way k (item (string s) ds) = states_first way (k + 1) ds
states_first way k (item (array es) ds) = states_first way (k + 1) ds
states_first way k (item (object ms) ds) =
    (λ i. first_of ((object_site way (key_of_item (codes "states") k ms) (state_keys ms) ms
    ∙ ap (λ o. option_map (site_at way) (option_map (key_of_item (codes "states") k ms) o)) (state_key ms)) i) (states_first way (k + 1) ds i))
    ∙ sym (mapped_first (site_at way) (option_map (part_spot (named_spot (codes "states") k (object ms))) (state_key_of (object ms))) (state_spots (k + 1) ds))

inputs_first : (k : ℕ) (ds : Items) → first_key_site (input_objects k ds) ≡ option_map (site_at []) (input_spots k ds)
inputs_first k no_items = refl
inputs_first k (item null ds) = inputs_first (k + 1) ds
inputs_first k (item (boolean t) ds) = inputs_first (k + 1) ds
inputs_first k (item (number n) ds) = inputs_first (k + 1) ds
inputs_first k (item (string s) ds) = inputs_first (k + 1) ds
inputs_first k (item (array es) ds) = inputs_first (k + 1) ds
inputs_first k (item (object ms) ds) =
    (λ i. first_of (object_site [] (key_of_item (codes "inputs") k ms) input_keys ms i) (inputs_first (k + 1) ds i))
    ∙ sym (mapped_first (site_at []) (option_map (part_spot (named_spot (codes "inputs") k (object ms))) (first_other_key input_keys ms)) (input_spots (k + 1) ds))

of_first : (way : Way) (f : Items → List Keyed) (g : Items → Option Spot) → ((ds : Items) → first_key_site (f ds) ≡ option_map (site_at way) (g ds)) → (d : Data)
    → first_key_site (objects_of f d) ≡ option_map (site_at way) (listed g (as_array d))
of_first way f g h null = refl
of_first way f g h (boolean t) = refl
of_first way f g h (number n) = refl
of_first way f g h (string s) = refl
of_first way f g h (array ds) = h ds
of_first way f g h (object ms) = refl

under_by : (way : Way) (g : Items → Option Spot) (b : Bool) (d : Data) (o : Option Data) (xs ys : List Keyed) → first_key_site xs ≡ option_map (site_at way) (listed g (as_array d))
    → first_key_site ys ≡ option_map (site_at way) (listed g (option_and_then as_array o)) → first_key_site (cond b xs ys) ≡ option_map (site_at way) (listed g (option_and_then as_array (cond b (Some d) o)))
under_by way g true d o xs ys h k = h
under_by way g false d o xs ys h k = k

under_first : (way : Way) (f : Items → List Keyed) (g : Items → Option Spot) → ((ds : Items) → first_key_site (f ds) ≡ option_map (site_at way) (g ds)) → (n : Name) (ms : Members)
    → first_key_site (objects_under f n ms) ≡ option_map (site_at way) (listed g (option_and_then as_array (get_member n ms)))
under_first way f g h n no_members = refl
under_first way f g h n (member k d ms) =
    under_by way g (same_name k n) d (get_member n ms) (objects_of f d) (objects_under f n ms) (of_first way f g h d) (under_first way f g h n ms)
    ∙ ap (λ o. option_map (site_at way) (listed g (option_and_then as_array o))) (sym (found n k (Some d) (get_member n ms)))

own_two : (way : Way) (a b : Option Spot) (x y r : Option Site) → x ≡ option_map (site_at way) a → y ≡ option_map (site_at way) b → first_of x (first_of y r) ≡ first_of (option_map (site_at way) (first_of a b)) r
own_two way a b x y r h k =
    (λ i. first_of (h i) (first_of (k i) r))
    ∙ (first_then (option_map (site_at way) a) (option_map (site_at way) b) r ∙ ap (λ o. first_of o r) (sym (mapped_first (site_at way) a b)))

-- the first unknown key of a child: of its own, and then of its instructions
pub child_first : (way : Way) (d : Data) → first_key_site (child_objects way d) ≡ first_of (option_map (site_at way) (own_spot true d)) (below way d)
child_first way null = refl
child_first way (boolean t) = refl
child_first way (number n) = refl
child_first way (string s) = refl
child_first way (array ds) = refl
child_first way (object ms) =
    let states : List Keyed = objects_under (state_objects way 0) (codes "states") ms in
    let key : Option Spot = option_map key_spot (first_other_key child_keys ms) in
    let state : Option Spot = listed (state_spots 0) (option_and_then as_array (get_member (codes "states") ms)) in
    ap (first_of (other_key_site (keyed way key_spot child_keys ms))) (sites_then states (instruction_objects_under way ms))
    ∙ own_two way key state _ _ (first_key_site (instruction_objects_under way ms)) (object_site way key_spot child_keys ms) (under_first way (state_objects way 0) (state_spots 0) (states_first way 0) (codes "states") ms)

-- the first unknown key of a file
pub model_first : (d : Data) → first_key_site (objects_in d) ≡ first_of (option_map (site_at []) (own_spot false d)) (below [] d)
model_first null = refl
model_first (boolean t) = refl
model_first (number n) = refl
model_first (string s) = refl
model_first (array ds) = refl
model_first (object ms) =
    let states : List Keyed = objects_under (state_objects [] 0) (codes "states") ms in
    let inputs : List Keyed = objects_under (input_objects 0) (codes "inputs") ms in
    let rest : List Keyed = instruction_objects_under [] ms in
    let key : Option Spot = option_map key_spot (first_other_key model_keys ms) in
    let state : Option Spot = listed (state_spots 0) (option_and_then as_array (get_member (codes "states") ms)) in
    let input : Option Spot = listed (input_spots 0) (option_and_then as_array (get_member (codes "inputs") ms)) in
    ap (first_of (other_key_site (keyed [] key_spot model_keys ms))) (sites_then inputs (states ++ rest) ∙ ap (first_of (first_key_site inputs)) (sites_then states rest))
    ∙ (ap (first_of (other_key_site (keyed [] key_spot model_keys ms)))
    (own_two [] input state _ _ (first_key_site rest) (under_first [] (input_objects 0) (input_spots 0) (inputs_first 0) (codes "inputs") ms)
    (under_first [] (state_objects [] 0) (state_spots 0) (states_first [] 0) (codes "states") ms))
    ∙ own_two [] key (first_of input state) _ _ (first_key_site rest) (object_site [] key_spot model_keys ms) refl)

child_found_by : (way : Way) (b : Bool) (d : Data) (o : Option Data) (ys : List Keyed) → first_key_site ys ≡ child_below way o
    → first_key_site (cond b (child_objects way d) ys) ≡ child_below way (cond b (Some d) o)
child_found_by way true d o ys h = refl
child_found_by way false d o ys h = h

child_under_first : (way : Way) (ms : Members) → first_key_site (child_objects_under way ms) ≡ child_below way (get_member (codes "child") ms)
child_under_first way no_members = refl
child_under_first way (member k d ms) =
    child_found_by way (same_name k (codes "child")) d (get_member (codes "child") ms) (child_objects_under way ms) (child_under_first way ms)
    ∙ ap (child_below way) (sym (found (codes "child") k (Some d) (get_member (codes "child") ms)))

-- the first unknown key of an instruction: of its own, and then of its child
pub instruction_first : (way : Way) (k : ℕ) (d : Data) → first_key_site (instruction_objects way k d)
    ≡ first_of (option_map (site_at way) (option_map (part_spot (named_spot (codes "instructions") k d)) (other_key_of instruction_keys (as_object d)))) (child_below (into way k) (get (codes "child") d))
instruction_first way k null = refl
instruction_first way k (boolean t) = refl
instruction_first way k (number n) = refl
instruction_first way k (string s) = refl
instruction_first way k (array ds) = refl
instruction_first way k (object ms) =
    λ i. first_of (object_site way (key_of_item (codes "instructions") k ms) instruction_keys ms i) (child_under_first (into way k) ms i)

site_of : Way → Option (ℕ × Data) → Option Site
site_of way None = None
site_of way (Some r) = first_key_site (instruction_objects way r.0 r.1)

pub stays_first : (a r x : Option Site) (b : Bool) → is_some a ≡ b → r ≡ x → first_of a r ≡ cond b a x
stays_first None r x true h e = cc
stays_first None r x false h e = e
stays_first (Some s) r x true h e = refl
stays_first (Some s) r x false h e = cc

site_by : (way : Way) (b : Bool) (k : ℕ) (d : Data) (o : Option (ℕ × Data)) → cond b (first_key_site (instruction_objects way k d)) (site_of way o) ≡ site_of way (cond b (Some (k, d)) o)
unfolding site_of
site_by way true k d o = refl
site_by way false k d o = refl

all_first : (way : Way) (k : ℕ) (ds : Items) → first_key_site (all_instruction_objects way k ds) ≡ site_of way (first_item instruction_has_unknown_key k ds)
unfolding site_of
all_first way k no_items = refl
all_first way k (item d ds) =
    sites_then (instruction_objects way k d) (all_instruction_objects way (k + 1) ds)
    ∙ (stays_first (first_key_site (instruction_objects way k d)) _ _ (instruction_has_unknown_key d) (some_instruction way k d) (all_first way (k + 1) ds)
    ∙ site_by way (instruction_has_unknown_key d) k d (first_item instruction_has_unknown_key (k + 1) ds))

list_first : (way : Way) (d : Data) → first_key_site (instruction_list_objects way d) ≡ site_of way (listed (first_item instruction_has_unknown_key 0) (as_array d))
unfolding site_of
list_first way null = refl
list_first way (boolean t) = refl
list_first way (number n) = refl
list_first way (string s) = refl
list_first way (array ds) = all_first way 0 ds
list_first way (object ms) = refl

list_by : (way : Way) (g : Items → Option (ℕ × Data)) (b : Bool) (d : Data) (o : Option Data) (xs ys : List Keyed) → first_key_site xs ≡ site_of way (listed g (as_array d))
    → first_key_site ys ≡ site_of way (listed g (option_and_then as_array o)) → first_key_site (cond b xs ys) ≡ site_of way (listed g (option_and_then as_array (cond b (Some d) o)))
list_by way g true d o xs ys h k = h
list_by way g false d o xs ys h k = k

instructions_first : (way : Way) (ms : Members) → first_key_site (instruction_objects_under way ms) ≡ site_of way (listed (first_item instruction_has_unknown_key 0) (option_and_then as_array (get_member (codes "instructions") ms)))
unfolding site_of
instructions_first way no_members = refl
instructions_first way (member k d ms) =
    list_by way (first_item instruction_has_unknown_key 0) (same_name k (codes "instructions")) d (get_member (codes "instructions") ms) (instruction_list_objects way d) (instruction_objects_under way ms) (list_first way d) (instructions_first way ms)
    ∙ ap (λ o. site_of way (listed (first_item instruction_has_unknown_key 0) (option_and_then as_array o))) (sym (found (codes "instructions") k (Some d) (get_member (codes "instructions") ms)))

below_first : (way : Way) (d : Data) → below way d ≡ site_of way (listed (first_item instruction_has_unknown_key 0) (under as_array (codes "instructions") d))
unfolding site_of
below_first way null = refl
below_first way (boolean t) = refl
below_first way (number n) = refl
below_first way (string s) = refl
below_first way (array ds) = refl
below_first way (object ms) = instructions_first way ms

-- below a machine, where an instruction has an unknown key
pub below_some : (way : Way) (d e : Data) (k : ℕ) → Some (k, e) ≡ listed (first_item instruction_has_unknown_key 0) (under as_array (codes "instructions") d) → below way d ≡ first_key_site (instruction_objects way k e)
unfolding site_of
below_some way d e k h = below_first way d ∙ ap (site_of way) (sym h)

-- and where none has
pub below_none : (way : Way) (d : Data) → None ≡ listed (first_item instruction_has_unknown_key 0) (under as_array (codes "instructions") d) → below way d ≡ None
unfolding site_of
below_none way d h = below_first way d ∙ ap (site_of way) (sym h)

depth_of : Option (ℕ × Data) → ℕ
depth_of None = 0
depth_of (Some r) = depth r.1

same_depth : (a b n : ℕ) → a ≡ b → b ≤ n → a ≤ n
same_depth a b n e h = omega (arith, e, h)

-- the instruction is less deep than its machine
first_below : (p : Data → Bool) (k : ℕ) (ds : Items) (j : ℕ) (e : Data) → Some (j, e) ≡ first_item p k ds → depth e ≤ items_depth ds
unfolding depth_of
first_below p k no_items j e h = cc
first_below p k (item d ds) j e h = shown (p d) h (first_below p (k + 1) ds j e) where
  shown : (b : Bool) → Some (j, e) ≡ cond b (Some (k, d)) (first_item p (k + 1) ds) → (Some (j, e) ≡ first_item p (k + 1) ds → depth e ≤ items_depth ds) → depth e ≤ items_depth (item d ds)
  shown true g f =
      same_depth (depth e) (depth d) (items_depth (item d ds)) (ap depth_of g) (omega arith)
  shown false g f = omega (arith, f g)

pub listed_below : (p : Data → Bool) (o : Option Items) (d : Data) (j : ℕ) (e : Data) → ((ds : Items) → o ≡ Some ds → suc (items_depth ds) < depth d) → Some (j, e) ≡ listed (first_item p 0) o → depth e < depth d
listed_below p None d j e f h = cc
listed_below p (Some ds) d j e f h = omega (arith, f ds refl, first_below p 0 ds j e h)
