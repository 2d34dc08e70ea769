-- There is a first unknown key exactly where there is some.
use Rattle.std.proofs.Common.{◌≡◌, ℕ, ◌+◌, Bool, true, false, cond, not, ◌||◌, List, Option, Some, None, option_map, is_some, refl, ap, ◌∙◌}
use Rattle.std.specs.Prelude.{codes}
use Rattle.wb_values.specs.Value.{Name}
use Rattle.wb_values.specs.Choice.{first_of}
use Rattle.serde_json.specs.Data.{Data, null, boolean, number, string, array, object, Items, no_items, item, Members, no_members, member}
use Rattle.serde_json.specs.Find.{get, as_array, as_object}
use Rattle.model_meaning.specs.Among.{is_name_in}
use Rattle.model_files.specs.Keys.{has_other_key, some_item}
use Rattle.model_places.specs.Sites.{Spot, key_spot, part_spot}
use Rattle.model_places.specs.KeyPlaces.{first_other_key}
use Rattle.map_files.specs.Shape.{read_under}
use Rattle.map_files.specs.Keys.{map_keys, reset_keys, entry_keys, has_key_besides, is_there_and, map_has_unknown_key}
use Rattle.map_file.specs.Places.{other_key_of, there, reset_key_in, entry_spot, instruction_key, instruction_keys_in, unknown_key_spot}

either : (a b : Option Spot) (s t : Bool) → is_some a ≡ s → is_some b ≡ t → is_some (first_of a b) ≡ (s || t)
either None b s t h g = g ∙ ap (λ r. r || t) h
either (Some x) b s t h g = ap (λ r. r || t) h

mapped : {A B : Type 0} (f : A → B) (o : Option A) → is_some (option_map f o) ≡ is_some o
mapped f None = refl
mapped f (Some x) = refl

first_key : (ks : List Name) (ms : Members) → is_some (first_other_key ks ms) ≡ has_other_key ks ms
first_key ks no_members = refl
first_key ks (member k d ms) = by_test (is_name_in k ks) (first_key ks ms) where
  by_test : (b : Bool) → is_some (first_other_key ks ms) ≡ has_other_key ks ms → is_some (cond b (first_other_key ks ms) (Some k)) ≡ (not b || has_other_key ks ms)
  by_test true h = h
  by_test false h = refl

key_besides : (ks : List Name) (d : Data) → is_some (other_key_of ks (as_object d)) ≡ has_key_besides ks d
key_besides ks null = refl
key_besides ks (boolean b) = refl
key_besides ks (number n) = refl
key_besides ks (string s) = refl
key_besides ks (array ds) = refl
key_besides ks (object ms) = first_key ks ms

in_what_is_there : {A B : Type 0} (f : A → Option B) (p : A → Bool) (o : Option A) → ((x : A) → is_some (f x) ≡ p x) → is_some (there f o) ≡ is_there_and p o
in_what_is_there f p None h = refl
in_what_is_there f p (Some x) h = h x

in_reset : (d : Data) → is_some (reset_key_in d) ≡ has_key_besides reset_keys d
in_reset d = mapped (part_spot (key_spot (codes "reset"))) (other_key_of reset_keys (as_object d)) ∙ key_besides reset_keys d

in_instruction : (i : ℕ) (d : Data) → is_some (instruction_key i d) ≡ has_key_besides entry_keys d
in_instruction i d = mapped (part_spot (entry_spot i d)) (other_key_of entry_keys (as_object d)) ∙ key_besides entry_keys d

in_instructions : (i : ℕ) (ds : Items) → is_some (instruction_keys_in i ds) ≡ some_item (has_key_besides entry_keys) ds
in_instructions i no_items = refl
in_instructions i (item d ds) =
    either (instruction_key i d) (instruction_keys_in (i + 1) ds) (has_key_besides entry_keys d) (some_item (has_key_besides entry_keys) ds)
    (in_instruction i d) (in_instructions (i + 1) ds)

pub spot_of_unknown_key : (d : Data) → is_some (unknown_key_spot d) ≡ map_has_unknown_key d
spot_of_unknown_key d =
    let reset : Option Spot = there reset_key_in (get (codes "reset") d) in
    let listed : Option Spot = there (instruction_keys_in 0) (read_under as_array (codes "instructions") d) in
    let r : Bool = is_there_and (has_key_besides reset_keys) (get (codes "reset") d) in
    let s : Bool = is_there_and (some_item (has_key_besides entry_keys)) (read_under as_array (codes "instructions") d) in
    either (option_map key_spot (other_key_of map_keys (as_object d))) (first_of reset listed) (has_key_besides map_keys d) (r || s)
    (mapped key_spot (other_key_of map_keys (as_object d)) ∙ key_besides map_keys d)
    (either reset listed r s (in_what_is_there reset_key_in (has_key_besides reset_keys) (get (codes "reset") d) in_reset)
    (in_what_is_there (instruction_keys_in 0) (some_item (has_key_besides entry_keys)) (read_under as_array (codes "instructions") d) (in_instructions 0)))
