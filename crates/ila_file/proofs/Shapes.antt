-- The shapes of the definitions, by what stands under the keys.
use Rattle.std.proofs.Common.{◌≡◌, ◌<◌, ◌≤◌, Bool, true, false, List, [], ◌∷◌, Option, Some, None, option_and_then, Ordering, Less, Equal, Greater, is_eq, nat_cmp, refl, sym, ap, ◌∙◌, arith, cond, length, get_or}
use Rattle.std.specs.Prelude.{codes}
use Rattle.std.specs.Ordering.{match_ordering}
use Rattle.std.specs.Cmp.Lexicographic.{slice_cmp, nat_list_eq_equiv}
use Rattle.std.proofs.lemmas.Map.Text.{is_eq-slice_cmp}
use Rattle.wb_values.specs.Value.{Name, same_name, Entries}
use Rattle.model_meaning.specs.Model.{StateDeclaration}
use Rattle.model_files.specs.Written.{WrittenTerm, WrittenInstructions, WrittenChild}
use Rattle.model_files.specs.Shape.{input_in, definition_in, entry_named, term_in, machine_from, child_under, child_in, instructions_under, written_instructions_in, instruction_in, instruction_from, child_from, model_in, model_from}
use Rattle.serde_json.specs.Data.{Data, null, boolean, number, string, array, object, Items, no_items, item, Members, no_members, member}
use Rattle.serde_json.specs.Find.{as_str, get_member}
use Rattle.serde_json.specs.View.{view, items_view}
use Rattle.serde_json.specs.declared.value.Value.{Value}
use Rattle.ila_file.specs.Parts.{state_of, state_under, input_under, or_empty, machine_of_parts, instruction_list, child_found, child_parts, instruction_parts, model_parts}

pub state_of-under : (p : Bool) (d : Data) → state_under p d ≡ state_of p d
state_of-under true null = refl
state_of-under true (boolean t) = refl
state_of-under true (number n) = refl
state_of-under true (string s) = refl
state_of-under true (array ds) = refl
state_of-under true (object ms) = refl
state_of-under false null = refl
state_of-under false (boolean t) = refl
state_of-under false (number n) = refl
state_of-under false (string s) = refl
state_of-under false (array ds) = refl
state_of-under false (object ms) = refl

pub input_in-under : (d : Data) → input_under d ≡ input_in d
input_in-under null = refl
input_in-under (boolean t) = refl
input_in-under (number n) = refl
input_in-under (string s) = refl
input_in-under (array ds) = refl
input_in-under (object ms) = refl

-- ---- definitions

named_item : (n e : Data) → option_and_then (λ k. entry_named k (term_in e)) (as_str n) ≡ definition_in (array (item n (item e no_items)))
named_item null e = refl
named_item (boolean t) e = refl
named_item (number n) e = refl
named_item (string s) e = refl
named_item (array ds) e = refl
named_item (object ms) e = refl

one_item : (d : Data) → definition_in (array (item d no_items)) ≡ None
one_item null = refl
one_item (boolean t) = refl
one_item (number n) = refl
one_item (string s) = refl
one_item (array ds) = refl
one_item (object ms) = refl

three_items : (d e f : Data) (ds : Items) → definition_in (array (item d (item e (item f ds)))) ≡ None
three_items null e f es = refl
three_items (boolean t) e f es = refl
three_items (number n) e f es = refl
three_items (string s) e f es = refl
three_items (array ds) e f es = refl
three_items (object ms) e f es = refl

pub few_items : (xs : List Value) → length xs < 2 → definition_in (array (items_view xs)) ≡ None
few_items [] h = refl
few_items (x ∷ []) h = one_item (view x)
few_items (x ∷ y ∷ xs) h = absurd (omega arith)

pub many_items : (xs : List Value) → 3 ≤ length xs → definition_in (array (items_view xs)) ≡ None
many_items [] h = absurd (omega arith)
many_items (x ∷ []) h = absurd (omega arith)
many_items (x ∷ y ∷ []) h = absurd (omega arith)
many_items (x ∷ y ∷ z ∷ xs) h = three_items (view x) (view y) (view z) (items_view xs)

two : (xs : List Value) (a b : Value) → 2 ≤ length xs → length xs < 3 → a ≡ get_or xs 0 a → b ≡ get_or xs 1 b → xs ≡ a ∷ b ∷ []
two [] a b m n p q = absurd (omega arith)
two (x ∷ []) a b m n p q = absurd (omega arith)
two (x ∷ y ∷ []) a b m n p q = sym (λ i. p i ∷ q i ∷ [])
two (x ∷ y ∷ z ∷ xs) a b m n p q = absurd (omega arith)

-- a list of two items, by its name and its term
pub of_two_items : (xs : List Value) (a b : Value) (n : Option Name) (r : Option (Name × WrittenTerm)) → 2 ≤ length xs → length xs < 3
    → a ≡ get_or xs 0 a → b ≡ get_or xs 1 b → n ≡ as_str (view a) → option_and_then (λ k. entry_named k (term_in (view b))) n ≡ r
    → definition_in (array (items_view xs)) ≡ r
of_two_items xs a b n r m l p q e h =
    ap (λ (vs : List Value). definition_in (array (items_view vs))) (two xs a b m l p q)
    ∙ (sym (named_item (view a) (view b)) ∙ (sym (ap (λ o. option_and_then (λ k. entry_named k (term_in (view b))) o) e) ∙ h))

-- ---- members

same_name_turned : (a b : Name) → same_name a b ≡ same_name b a
same_name_turned a b = nat_list_eq_equiv.symm a b

found_by_order : {A : Type 0} (o : Ordering) (x rest : Option A) → match_ordering o rest x rest ≡ cond (is_eq o) x rest
found_by_order Less x rest = refl
found_by_order Equal x rest = refl
found_by_order Greater x rest = refl

-- the member under a key, by the order of keys or by their equality
pub found : (k l : Name) (x rest : Option Data) → match_ordering (slice_cmp nat_cmp k l) rest x rest ≡ cond (same_name l k) x rest
found k l x rest = found_by_order (slice_cmp nat_cmp k l) x rest ∙ ap (λ b. cond b x rest) (is_eq-slice_cmp k l ∙ same_name_turned k l)

and_then_if : {A B : Type 0} (f : A → Option B) (b : Bool) (x y : Option A) → option_and_then f (cond b x y) ≡ cond b (option_and_then f x) (option_and_then f y)
and_then_if f true x y = refl
and_then_if f false x y = refl

instruction_list-in : (d : Data) → instruction_list d ≡ written_instructions_in d
instruction_list-in null = refl
instruction_list-in (boolean t) = refl
instruction_list-in (number n) = refl
instruction_list-in (string s) = refl
instruction_list-in (array ds) = refl
instruction_list-in (object ms) = refl

pub instructions_under-found : (ms : Members) → option_and_then instruction_list (get_member (codes "instructions") ms) ≡ instructions_under ms
instructions_under-found no_members = refl
instructions_under-found (member k d ms) =
    ap (option_and_then instruction_list) (found (codes "instructions") k (Some d) (get_member (codes "instructions") ms))
    ∙ (and_then_if instruction_list (same_name k (codes "instructions")) (Some d) (get_member (codes "instructions") ms)
    ∙ (λ i. cond (same_name k (codes "instructions")) (instruction_list-in d i) (instructions_under-found ms i)))

-- ---- machines

parts_of_machine : (ss : Option (List StateDeclaration)) (ds : Option (Option (Entries WrittenTerm))) (f : Option (Option WrittenTerm)) (v : Option WrittenTerm) (is : Option WrittenInstructions)
    → machine_of_parts is ss (or_empty ds) f v ≡ machine_from ss ds f v is
parts_of_machine None ds f v None = refl
parts_of_machine None None f v (Some is) = refl
parts_of_machine None (Some None) f v (Some is) = refl
parts_of_machine None (Some (Some ds)) f v (Some is) = refl
parts_of_machine (Some ss) None f v None = refl
parts_of_machine (Some ss) None f v (Some is) = refl
parts_of_machine (Some ss) (Some None) None v None = refl
parts_of_machine (Some ss) (Some None) None v (Some is) = refl
parts_of_machine (Some ss) (Some None) (Some f) None None = refl
parts_of_machine (Some ss) (Some None) (Some f) None (Some is) = refl
parts_of_machine (Some ss) (Some None) (Some f) (Some v) None = refl
parts_of_machine (Some ss) (Some None) (Some f) (Some v) (Some is) = refl
parts_of_machine (Some ss) (Some (Some ds)) None v None = refl
parts_of_machine (Some ss) (Some (Some ds)) None v (Some is) = refl
parts_of_machine (Some ss) (Some (Some ds)) (Some f) None None = refl
parts_of_machine (Some ss) (Some (Some ds)) (Some f) None (Some is) = refl
parts_of_machine (Some ss) (Some (Some ds)) (Some f) (Some v) None = refl
parts_of_machine (Some ss) (Some (Some ds)) (Some f) (Some v) (Some is) = refl

pub child_in-parts : (d : Data) → child_parts d ≡ child_in d
child_in-parts null = refl
child_in-parts (boolean t) = refl
child_in-parts (number n) = refl
child_in-parts (string s) = refl
child_in-parts (array ds) = refl
child_in-parts (object ms) =
    ap (child_from _) (parts_of_machine _ _ _ _ _ ∙ ap (machine_from _ _ _ _) (instructions_under-found ms))

child_found_if : (b : Bool) (d : Data) (o : Option Data) (r : Option WrittenChild) → child_found o ≡ r → child_found (cond b (Some d) o) ≡ cond b (child_in d) r
child_found_if true d o r h = child_in-parts d
child_found_if false d o r h = h

child_under-found : (ms : Members) → child_found (get_member (codes "child") ms) ≡ child_under ms
child_under-found no_members = refl
child_under-found (member k d ms) =
    ap child_found (found (codes "child") k (Some d) (get_member (codes "child") ms))
    ∙ child_found_if (same_name k (codes "child")) d _ _ (child_under-found ms)

pub instruction_in-parts : (d : Data) → instruction_parts d ≡ instruction_in d
instruction_in-parts null = refl
instruction_in-parts (boolean t) = refl
instruction_in-parts (number n) = refl
instruction_in-parts (string s) = refl
instruction_in-parts (array ds) = refl
instruction_in-parts (object ms) = ap (instruction_from _ _ _) (child_under-found ms)

pub model_in-parts : (d : Data) → model_parts d ≡ model_in d
model_in-parts null = refl
model_in-parts (boolean t) = refl
model_in-parts (number n) = refl
model_in-parts (string s) = refl
model_in-parts (array ds) = refl
model_in-parts (object ms) =
    ap (model_from _ _) (parts_of_machine _ _ _ _ _ ∙ ap (machine_from _ _ _ _) (instructions_under-found ms))
