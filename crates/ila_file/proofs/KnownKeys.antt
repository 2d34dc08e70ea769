-- Unknown keys by what stands under the known ones.
use Rattle.std.proofs.Common.{◌≡◌, Bool, true, false, cond, ◌||◌, Option, Some, option_and_then, is_some, refl, ap, ◌∙◌}
use Rattle.std.specs.Prelude.{codes}
use Rattle.wb_values.specs.Value.{Name, same_name}
use Rattle.model_files.specs.Keys.{has_other_key, some_item, some_item_of, some_item_under, is_list, is_written_memory, state_has_other_key, instruction_keys, child_keys, instruction_has_unknown_key, child_under_has_unknown_key, child_has_unknown_key, instructions_under_have_unknown_key, instructions_have_unknown_key, some_instruction_has_unknown_key}
use Rattle.serde_json.specs.Data.{Data, null, boolean, number, string, array, object, Items, no_items, item, Members, no_members, member}
use Rattle.serde_json.specs.Find.{get_member, as_array, as_object}
use Rattle.ila_file.specs.KeyParts.{is_list_found, memory_keys, valued_keys, state_key_parts, some_listed, child_key_parts, child_key_found, instruction_key_parts}
use Rattle.ila_file.proofs.Shapes.{found}

listed : (d : Data) → is_some (as_array d) ≡ is_list d
listed null = refl
listed (boolean t) = refl
listed (number n) = refl
listed (string s) = refl
listed (array ds) = refl
listed (object ms) = refl

list_found_if : (b : Bool) (d : Data) (o : Option Data) (r : Bool) → is_list_found o ≡ r → is_list_found (cond b (Some d) o) ≡ cond b (is_list d) r
list_found_if true d o r h = listed d
list_found_if false d o r h = h

pub memory_found : (ms : Members) → is_list_found (get_member (codes "sort") ms) ≡ is_written_memory ms
memory_found no_members = refl
memory_found (member k d ms) =
    ap is_list_found (found (codes "sort") k (Some d) (get_member (codes "sort") ms)) ∙ list_found_if (same_name k (codes "sort")) d _ _ (memory_found ms)

pub state_keys-parts : (d : Data) → state_key_parts d ≡ state_has_other_key d
state_keys-parts null = refl
state_keys-parts (boolean t) = refl
state_keys-parts (number n) = refl
state_keys-parts (string s) = refl
state_keys-parts (array ds) = refl
state_keys-parts (object ms) = ap (λ b. has_other_key (cond b memory_keys valued_keys) ms) (memory_found ms)

-- ---- lists under a key

some_listed-item : (p : Data → Bool) (d : Data) → some_listed p (as_array d) ≡ some_item_of p d
some_listed-item p null = refl
some_listed-item p (boolean t) = refl
some_listed-item p (number n) = refl
some_listed-item p (string s) = refl
some_listed-item p (array ds) = refl
some_listed-item p (object ms) = refl

some_found_if : (p : Data → Bool) (b : Bool) (d : Data) (o : Option Data) (r : Bool) → some_listed p (option_and_then as_array o) ≡ r
    → some_listed p (option_and_then as_array (cond b (Some d) o)) ≡ cond b (some_item_of p d) r
some_found_if p true d o r h = some_listed-item p d
some_found_if p false d o r h = h

some_under : (p : Data → Bool) (n : Name) (ms : Members) → some_listed p (option_and_then as_array (get_member n ms)) ≡ some_item_under p n ms
some_under p n no_members = refl
some_under p n (member k d ms) =
    ap (λ o. some_listed p (option_and_then as_array o)) (found n k (Some d) (get_member n ms)) ∙ some_found_if p (same_name k n) d _ _ (some_under p n ms)

-- ---- instructions

some_instruction : (ds : Items) → some_item instruction_has_unknown_key ds ≡ some_instruction_has_unknown_key ds
some_instruction no_items = refl
some_instruction (item d ds) = ap (λ b. instruction_has_unknown_key d || b) (some_instruction ds)

some_of_data : (d : Data) → some_item_of instruction_has_unknown_key d ≡ instructions_have_unknown_key d
some_of_data null = refl
some_of_data (boolean t) = refl
some_of_data (number n) = refl
some_of_data (string s) = refl
some_of_data (array ds) = some_instruction ds
some_of_data (object ms) = refl

some_of_members : (ms : Members) → some_item_under instruction_has_unknown_key (codes "instructions") ms ≡ instructions_under_have_unknown_key ms
some_of_members no_members = refl
some_of_members (member k d ms) = λ i. cond (same_name k (codes "instructions")) (some_of_data d i) (some_of_members ms i)

instructions_found : (ms : Members) → some_listed instruction_has_unknown_key (option_and_then as_array (get_member (codes "instructions") ms)) ≡ instructions_under_have_unknown_key ms
instructions_found ms = some_under instruction_has_unknown_key (codes "instructions") ms ∙ some_of_members ms

child_keys-parts : (d : Data) → child_key_parts d ≡ child_has_unknown_key d
child_keys-parts null = refl
child_keys-parts (boolean t) = refl
child_keys-parts (number n) = refl
child_keys-parts (string s) = refl
child_keys-parts (array ds) = refl
child_keys-parts (object ms) =
    λ i. has_other_key child_keys ms || (some_under state_has_other_key (codes "states") ms i || instructions_found ms i)

child_found_if : (b : Bool) (d : Data) (o : Option Data) (r : Bool) → child_key_found o ≡ r → child_key_found (cond b (Some d) o) ≡ cond b (child_has_unknown_key d) r
child_found_if true d o r h = child_keys-parts d
child_found_if false d o r h = h

child_found : (ms : Members) → child_key_found (get_member (codes "child") ms) ≡ child_under_has_unknown_key ms
child_found no_members = refl
child_found (member k d ms) =
    ap child_key_found (found (codes "child") k (Some d) (get_member (codes "child") ms)) ∙ child_found_if (same_name k (codes "child")) d _ _ (child_found ms)

pub instruction_keys-parts : (d : Data) → instruction_key_parts d ≡ instruction_has_unknown_key d
instruction_keys-parts null = refl
instruction_keys-parts (boolean t) = refl
instruction_keys-parts (number n) = refl
instruction_keys-parts (string s) = refl
instruction_keys-parts (array ds) = refl
instruction_keys-parts (object ms) = ap (λ b. has_other_key instruction_keys ms || b) (child_found ms)
