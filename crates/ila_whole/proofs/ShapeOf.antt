-- Data that has the shape of a model file has it in the declarations too.
use Rattle.std.proofs.Common.{◌≡◌, ℕ, Bool, true, false, cond, not, ◌&&◌, ◌||◌, List, [], ◌∷◌, ◌++◌, Option, Some, None, option_map, refl, ap, subst}
use Rattle.std.specs.Prelude.{IfSome, is_none, option_and_then, codes}
use Rattle.std.specs.List.{list_all}
use Rattle.std.proofs.lemmas.Bool.{and_from, and_parts}
use Rattle.serde_json.specs.Data.{Data, null, boolean, number, string, array, object, Items, no_items, item, Members, no_members, member}
use Rattle.serde_json.specs.Find.{get_member, as_bool, as_array, as_object, as_str}
use Rattle.wb_values.specs.Value as meaning
use Rattle.wb_values.specs.Value.{Name, same_name, Sort, truth, word, memory, Entries}
use Rattle.model_meaning.specs.Model.{StateDeclaration, InputDeclaration}
use Rattle.model_files.specs.Written.{WrittenTerm, WrittenInstruction, WrittenInstructions, WrittenMachine, machine, WrittenChild, WrittenModel, states_in, machines_below, machines_of_instruction, machines_of_child}
use Rattle.model_meaning.specs.Term.{is_memory_sort}
use Rattle.model_files.specs.Shape.{required, sort_in, with_first, all_in, list_in, constant_in, initial_in, private_initial_in, with_initial, state_from, declaration_in, state_declared_in, private_state_in, input_from, input_in, instruction_from, with_instruction, machine_from, machine_in, child_from, instruction_in, child_under, child_in, instructions_under, written_instructions_in, all_instructions, model_from, model_in}
use Rattle.ila_whole.specs.Shaped.{is_top_state, is_private_state, is_plain_input, has_private_states, machines_inside, is_shaped}

all_true : {A : Type 0} (P : A → Bool) (x : Option A) (xs : Option (List A)) → IfSome x (λ y. P y ≡ true) → IfSome xs (λ ys. list_all P ys ≡ true) → IfSome (with_first x xs) (λ ys. list_all P ys ≡ true)
all_true P None xs h k = tt
all_true P (Some x) None h k = tt
all_true P (Some x) (Some xs) h k = and_from (P x) (list_all P xs) h k

each_true : {A : Type 0} (f : Data → Option A) (P : A → Bool) → ((d : Data) → IfSome (f d) (λ x. P x ≡ true)) → (ds : Items) → IfSome (all_in f ds) (λ xs. list_all P xs ≡ true)
each_true f P h no_items = refl
each_true f P h (item d ds) = all_true P (f d) (all_in f ds) (h d) (each_true f P h ds)

bound : {A B : Type 0} (f : A → Option B) (Q : B → Type 0) (o : Option A) → ((x : A) → IfSome (f x) Q) → IfSome (option_and_then f o) Q
bound f Q None h = tt
bound f Q (Some x) h = h x

list_true : {A : Type 0} (f : Data → Option A) (P : A → Bool) → ((d : Data) → IfSome (f d) (λ x. P x ≡ true)) → (k : Name) (ms : Members) → IfSome (required (list_in f) k ms) (λ xs. list_all P xs ≡ true)
list_true f P h k ms =
    bound (list_in f) (λ xs. list_all P xs ≡ true) (get_member k ms) (λ d. bound (all_in f) (λ xs. list_all P xs ≡ true) (as_array d) (each_true f P h))

-- ---- declarations

plain_input : (n : Option Name) (s : Option Sort) → IfSome (input_from n s) (λ i. is_plain_input i ≡ true)
plain_input None s = tt
plain_input (Some n) None = tt
plain_input (Some n) (Some truth) = refl
plain_input (Some n) (Some (word w)) = refl
plain_input (Some n) (Some (memory a d)) = tt

input_true : (d : Data) → IfSome (input_in d) (λ i. is_plain_input i ≡ true)
input_true d = bound _ (λ i. is_plain_input i ≡ true) (as_object d) (λ ms. plain_input _ _)

plain_state : (n : Name) (s : Sort) (i : Option (Option meaning.Value)) → is_memory_sort s ≡ false → IfSome (with_initial n s i) (λ x. is_top_state x ≡ true)
plain_state n s None h = tt
plain_state n s (Some i) h = ap (λ b. not b || is_none i) h

top_state : (n : Option Name) (s : Option Sort) (d : Option Data) → IfSome (state_from initial_in n s d) (λ x. is_top_state x ≡ true)
top_state None s d = tt
top_state (Some n) None d = tt
top_state (Some n) (Some truth) d = plain_state n truth (initial_in truth d) refl
top_state (Some n) (Some (word w)) d = plain_state n (word w) (initial_in (word w) d) refl
top_state (Some n) (Some (memory a w)) d = refl

state_true : (d : Data) → IfSome (state_declared_in d) (λ x. is_top_state x ≡ true)
state_true d = bound (declaration_in initial_in) (λ x. is_top_state x ≡ true) (as_object d) (λ ms. top_state (required as_str (codes "name") ms) (required sort_in (codes "sort") ms) (get_member (codes "init") ms))

valued_state : {A : Type 0} (n : Name) (s : Sort) (f : A → meaning.Value) (o : Option A) → is_memory_sort s ≡ false → IfSome (with_initial n s (option_map (λ x. Some (f x)) o)) (λ x. is_private_state x ≡ true)
valued_state n s f None h = tt
valued_state n s f (Some x) h = ap (λ b. not b && true) h

inner_state : (n : Option Name) (s : Option Sort) (d : Option Data) → IfSome (state_from private_initial_in n s d) (λ x. is_private_state x ≡ true)
inner_state None s d = tt
inner_state (Some n) None d = tt
inner_state (Some n) (Some truth) None = tt
inner_state (Some n) (Some truth) (Some d) = valued_state n truth meaning.truth_value (as_bool d) refl
inner_state (Some n) (Some (word w)) None = tt
inner_state (Some n) (Some (word w)) (Some d) = valued_state n (word w) meaning.number (constant_in d) refl
inner_state (Some n) (Some (memory a w)) d = tt

private_true : (d : Data) → IfSome (private_state_in d) (λ x. is_private_state x ≡ true)
private_true d = bound (declaration_in private_initial_in) (λ x. is_private_state x ≡ true) (as_object d) (λ ms. inner_state (required as_str (codes "name") ms) (required sort_in (codes "sort") ms) (get_member (codes "init") ms))

-- ---- machines

abbrev AreInner : List WrittenMachine → Type 0
AreInner ms = list_all has_private_states ms ≡ true

machine_true : (P : StateDeclaration → Bool) (ss : Option (List StateDeclaration)) (ds : Option (Option (Entries WrittenTerm))) (f : Option (Option WrittenTerm)) (v : Option WrittenTerm) (is : Option WrittenInstructions)
    → IfSome ss (λ xs. list_all P xs ≡ true) → IfSome is (λ x. AreInner (machines_below x)) → IfSome (machine_from ss ds f v is) (λ m. (list_all P (states_in m) ≡ true) × AreInner (machines_inside m))
machine_true P None ds f v is h k = tt
machine_true P (Some ss) None f v is h k = tt
machine_true P (Some ss) (Some None) None v is h k = tt
machine_true P (Some ss) (Some None) (Some f) None is h k = tt
machine_true P (Some ss) (Some None) (Some f) (Some v) None h k = tt
machine_true P (Some ss) (Some None) (Some f) (Some v) (Some is) h k = (h, k)
machine_true P (Some ss) (Some (Some ds)) None v is h k = tt
machine_true P (Some ss) (Some (Some ds)) (Some f) None is h k = tt
machine_true P (Some ss) (Some (Some ds)) (Some f) (Some v) None h k = tt
machine_true P (Some ss) (Some (Some ds)) (Some f) (Some v) (Some is) h k = (h, k)

either : {A : Type 0} (P : A → Type 0) (b : Bool) (x y : Option A) → IfSome x P → IfSome y P → IfSome (cond b x y) P
either P true x y h k = h
either P false x y h k = k

all_append : (xs ys : List WrittenMachine) → AreInner xs → AreInner ys → AreInner (xs ++ ys)
all_append [] ys a b = b
all_append (x ∷ xs) ys a b =
    let parts = and_parts (has_private_states x) (list_all has_private_states xs) a in
    and_from (has_private_states x) (list_all has_private_states (xs ++ ys)) parts.0 (all_append xs ys parts.1 b)

from_child : (n : Option Name) (e : Option WrittenTerm) (us : Option (Entries WrittenTerm)) (c : Option WrittenChild) → IfSome c (λ p. AreInner (machines_of_child p)) → IfSome (instruction_from n e us c) (λ i. AreInner (machines_of_instruction i))
from_child None e us c h = tt
from_child (Some n) None us c h = tt
from_child (Some n) (Some e) None c h = tt
from_child (Some n) (Some e) (Some us) None h = tt
from_child (Some n) (Some e) (Some us) (Some c) h = h

from_first : (i : Option WrittenInstruction) (is : Option WrittenInstructions) → IfSome i (λ x. AreInner (machines_of_instruction x)) → IfSome is (λ x. AreInner (machines_below x)) → IfSome (with_instruction i is) (λ x. AreInner (machines_below x))
from_first None is h k = tt
from_first (Some i) None h k = tt
from_first (Some i) (Some is) h k = all_append (machines_of_instruction i) (machines_below is) h k

from_machine : (n : Option ℕ) (m : Option WrittenMachine) → IfSome m (λ x. (list_all is_private_state (states_in x) ≡ true) × AreInner (machines_inside x)) → IfSome (child_from n m) (λ p. AreInner (machines_of_child p))
from_machine None m h = tt
from_machine (Some n) None h = tt
from_machine (Some n) (Some (machine ss ds f v is)) h = and_from (has_private_states (machine ss ds f v is)) (list_all has_private_states (machines_below is)) h.0 h.1

mutual
  instruction_true : (d : Data) → IfSome (instruction_in d) (λ i. AreInner (machines_of_instruction i))
  instruction_true (object ms) = from_child _ _ _ (child_under ms) (under_true ms)
  instruction_true null = tt
  instruction_true (boolean b) = tt
  instruction_true (number n) = tt
  instruction_true (string t) = tt
  instruction_true (array ds) = tt

  under_true : (ms : Members) → IfSome (child_under ms) (λ p. AreInner (machines_of_child p))
  under_true no_members = refl
  under_true (member k d ms) = either (λ p. AreInner (machines_of_child p)) (same_name k (codes "child")) (child_in d) (child_under ms) (child_true d) (under_true ms)

  child_true : (d : Data) → IfSome (child_in d) (λ p. AreInner (machines_of_child p))
  child_true (object ms) = from_machine _ (machine_in private_state_in ms (instructions_under ms)) (machine_true is_private_state _ _ _ _ (instructions_under ms) (list_true private_state_in is_private_state private_true (codes "states") ms) (instructions_true ms))
  child_true null = tt
  child_true (boolean b) = tt
  child_true (number n) = tt
  child_true (string t) = tt
  child_true (array ds) = tt

  instructions_true : (ms : Members) → IfSome (instructions_under ms) (λ is. AreInner (machines_below is))
  instructions_true no_members = tt
  instructions_true (member k d ms) = either (λ is. AreInner (machines_below is)) (same_name k (codes "instructions")) (written_instructions_in d) (instructions_under ms) (those_true d) (instructions_true ms)

  those_true : (d : Data) → IfSome (written_instructions_in d) (λ is. AreInner (machines_below is))
  those_true (array ds) = items_true ds
  those_true null = tt
  those_true (boolean b) = tt
  those_true (number n) = tt
  those_true (string t) = tt
  those_true (object ms) = tt

  items_true : (ds : Items) → IfSome (all_instructions ds) (λ is. AreInner (machines_below is))
  items_true no_items = refl
  items_true (item d ds) = from_first (instruction_in d) (all_instructions ds) (instruction_true d) (items_true ds)

from_parts : (n : Option Name) (is : Option (List InputDeclaration)) (m : Option WrittenMachine) → IfSome is (λ xs. list_all is_plain_input xs ≡ true) → IfSome m (λ x. (list_all is_top_state (states_in x) ≡ true) × AreInner (machines_inside x)) → IfSome (model_from n is m) (λ w. is_shaped w ≡ true)
from_parts None is m h k = tt
from_parts (Some n) None m h k = tt
from_parts (Some n) (Some is) None h k = tt
from_parts (Some n) (Some is) (Some m) h k = and_from (list_all is_plain_input is) _ h (and_from (list_all is_top_state (states_in m)) (list_all has_private_states (machines_inside m)) k.0 k.1)

model_true : (d : Data) → IfSome (model_in d) (λ w. is_shaped w ≡ true)
model_true (object ms) =
    from_parts _ _ (machine_in state_declared_in ms (instructions_under ms)) (list_true input_in is_plain_input input_true (codes "inputs") ms)
    (machine_true is_top_state _ _ _ _ (instructions_under ms) (list_true state_declared_in is_top_state state_true (codes "states") ms) (instructions_true ms))
model_true null = tt
model_true (boolean b) = tt
model_true (number n) = tt
model_true (string t) = tt
model_true (array ds) = tt

-- What a model file's data has the shape of is so.
pub shaped_in : (d : Data) (m : WrittenModel) → model_in d ≡ Some m → is_shaped m ≡ true
shaped_in d m e = subst (λ o. IfSome o (λ w. is_shaped w ≡ true)) e (model_true d)
