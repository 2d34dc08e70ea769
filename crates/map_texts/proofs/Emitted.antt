-- The written map of an emitted design can be read from its text.
use Rattle.std.proofs.Common.{◌≡◌, ◌∙◌, ℕ, ◌<◌, ◌≤◌, ◌^◌, Bool, true, false, cond, List, [], ◌∷◌, ◌++◌, map, refl, sym, ap, subst, arith}
use Rattle.std.specs.Prelude.{max, codes}
use Rattle.std.specs.List.{list_all}
use Rattle.std.proofs.lemmas.Bool.{and_parts, and_from, or_parts, or_from, false≢true}
use Rattle.std.proofs.lemmas.Bool.Decides.{nat_tests}
use Rattle.std.proofs.lemmas.Slice.Eq.{bytes_eq-Decides}
use Rattle.wb_values.specs.Value.{Name, same_name}
use Rattle.wb_values.specs.Names.{is_name_byte, begins_with, is_letter, is_model_name}
use Rattle.model_meaning.specs.Among.{is_name_in, has_twice}
use Rattle.model_meaning.specs.Model.{Model, Machine, machine, instruction_name, Instructions, no_instructions, and_then, instruction_list, instructions_in}
use Rattle.model_meaning.specs.Invariant.{all_machines, inner_machines, gathered, state_names, own_instruction_names, IsModel}
use Rattle.map_files.specs.Written.{Text}
use Rattle.reports.specs.Report.{is_before, is_in_order}
use Rattle.emitted_designs.specs.Bounds.{instruction_bound, bound_among, machine_bound, greatest_bound, most_cycles, has_children}
use Rattle.emitted_designs.specs.Map.{with_key, in_byte_order, written_by_their_names, written_entry_for, written_map}
use Rattle.map_texts.specs.Readable.{is_bare_byte, is_bare, AreBare, HasBareEntries, HasBareInstructions, IsReadable, EmittedMapsAreRead}
use Rattle.map_texts.proofs.Order.{neither}
use Rattle.map_texts.proofs.Back.{texts_are_read}

-- ---- names of models are bare

bare_byte : (b : ℕ) → is_name_byte b ≡ true → is_bare_byte b ≡ true
bare_byte b h = grind (arith, nat_tests)

bare_bytes : (n : Name) → list_all is_name_byte n ≡ true → is_bare n ≡ true
bare_bytes [] h = refl
bare_bytes (b ∷ n) h =
    let p = and_parts (is_name_byte b) (list_all is_name_byte n) h in
    and_from (is_bare_byte b) (is_bare n) (bare_byte b p.0) (bare_bytes n p.1)

bare_name : (n : Name) → is_model_name n ≡ true → is_bare n ≡ true
bare_name n h =
    let p = and_parts _ _ h in
    let q = and_parts _ _ p.0 in
    let r = and_parts (begins_with is_letter n) (list_all is_name_byte n) q.0 in
    bare_bytes n r.1

-- ---- parts of lists

pub all_left : (p : Name → Bool) (xs ys : List Name) → list_all p (xs ++ ys) ≡ true → list_all p xs ≡ true
all_left p [] ys h = refl
all_left p (x ∷ xs) ys h = let c = and_parts (p x) (list_all p (xs ++ ys)) h in and_from (p x) (list_all p xs) c.0 (all_left p xs ys c.1)

pub all_right : (p : Name → Bool) (xs ys : List Name) → list_all p (xs ++ ys) ≡ true → list_all p ys ≡ true
all_right p [] ys h = h
all_right p (x ∷ xs) ys h = all_right p xs ys (and_parts (p x) (list_all p (xs ++ ys)) h).1

not_in_left : (n : Name) (xs ys : List Name) → is_name_in n (xs ++ ys) ≡ false → is_name_in n xs ≡ false
not_in_left n [] ys h = refl
not_in_left n (x ∷ xs) ys h =
    let c = or_parts (same_name n x) (is_name_in n (xs ++ ys)) h in
    or_from (same_name n x) (is_name_in n xs) c.0 (not_in_left n xs ys c.1)

pub once_left : (xs ys : List Name) → has_twice (xs ++ ys) ≡ false → has_twice xs ≡ false
once_left [] ys h = refl
once_left (x ∷ xs) ys h =
    let c = or_parts (is_name_in x (xs ++ ys)) (has_twice (xs ++ ys)) h in
    or_from (is_name_in x xs) (has_twice xs) (not_in_left x xs ys c.0) (once_left xs ys c.1)

once_right : (xs ys : List Name) → has_twice (xs ++ ys) ≡ false → has_twice ys ≡ false
once_right [] ys h = h
once_right (x ∷ xs) ys h = once_right xs ys (or_parts (is_name_in x (xs ++ ys)) (has_twice (xs ++ ys)) h).1

-- the top is the first of a model's machines
pub top_first : {A : Type 0} (f : Machine → List A) (t : Machine) → gathered f (all_machines t) ≡ f t ++ gathered f (inner_machines t)
top_first f (machine _ _ _) = refl

-- ---- names in their order

all_with : (p : Name → Bool) (n : Name) (ks : List Name) → p n ≡ true → list_all p ks ≡ true → list_all p (with_key n ks) ≡ true
all_with p n [] e h = and_from (p n) true e refl
all_with p n (k ∷ ks) e h =
    let c = and_parts (p k) (list_all p ks) h in
    by (is_before n k) (and_from (p k) (list_all p (with_key n ks)) c.0 (all_with p n ks e c.1))
  where
    by : (t : Bool) → list_all p (k ∷ with_key n ks) ≡ true → list_all p (cond t (n ∷ k ∷ ks) (k ∷ with_key n ks)) ≡ true
    by true later = and_from (p n) (list_all p (k ∷ ks)) e h
    by false later = later

pub all_in_order : (p : Name → Bool) (ns : List Name) → list_all p ns ≡ true → list_all p (in_byte_order ns) ≡ true
all_in_order p [] h = refl
all_in_order p (n ∷ ns) h =
    let c = and_parts (p n) (list_all p ns) h in
    all_with p n (in_byte_order ns) c.0 (all_in_order p ns c.1)

not_in_with : (m n : Name) (ks : List Name) → same_name m n ≡ false → is_name_in m ks ≡ false → is_name_in m (with_key n ks) ≡ false
not_in_with m n [] e h = or_from (same_name m n) false e refl
not_in_with m n (k ∷ ks) e h =
    let c = or_parts (same_name m k) (is_name_in m ks) h in
    by (is_before n k) (or_from (same_name m k) (is_name_in m (with_key n ks)) c.0 (not_in_with m n ks e c.1))
  where
    by : (t : Bool) → is_name_in m (k ∷ with_key n ks) ≡ false → is_name_in m (cond t (n ∷ k ∷ ks) (k ∷ with_key n ks)) ≡ false
    by true later = or_from (same_name m n) (is_name_in m (k ∷ ks)) e h
    by false later = later

not_in_order : (m : Name) (ns : List Name) → is_name_in m ns ≡ false → is_name_in m (in_byte_order ns) ≡ false
not_in_order m [] h = refl
not_in_order m (n ∷ ns) h =
    let c = or_parts (same_name m n) (is_name_in m ns) h in
    not_in_with m n (in_byte_order ns) c.0 (not_in_order m ns c.1)

front : (m n : Name) (ms : List Name) → is_before m n ≡ true → is_in_order (m ∷ ms) ≡ true → is_in_order (with_key n ms) ≡ true
    → is_in_order (m ∷ with_key n ms) ≡ true
front m n [] b h g = and_from (is_before m n) true b refl
front m n (k ∷ ks) b h g = by (is_before n k) g
  where
    by : (t : Bool) → is_in_order (cond t (n ∷ k ∷ ks) (k ∷ with_key n ks)) ≡ true → is_in_order (m ∷ cond t (n ∷ k ∷ ks) (k ∷ with_key n ks)) ≡ true
    by true g' = and_from (is_before m n) (is_in_order (n ∷ k ∷ ks)) b g'
    by false g' =
        let c = and_parts (is_before m k) (is_in_order (k ∷ ks)) h in
        and_from (is_before m k) (is_in_order (k ∷ with_key n ks)) c.0 g'

tail_in_order : (k : Name) (ks : List Name) → is_in_order (k ∷ ks) ≡ true → is_in_order ks ≡ true
tail_in_order k [] g = refl
tail_in_order k (j ∷ ks) g = (and_parts (is_before k j) (is_in_order (j ∷ ks)) g).1

ordered_with : (n : Name) (ks : List Name) → is_in_order ks ≡ true → is_name_in n ks ≡ false → is_in_order (with_key n ks) ≡ true
ordered_with n [] h apart = refl
ordered_with n (k ∷ ks) h apart =
    let c = or_parts (same_name n k) (is_name_in n ks) apart in
    by (is_before n k) refl c.0 (ordered_with n ks (tail_in_order k ks h) c.1)
  where
    other : (t : Bool) → is_before k n ≡ t → is_before n k ≡ false → same_name n k ≡ false → is_before k n ≡ true
    other true e f s = e
    other false e f s = absurd (false≢true (sym s ∙ (bytes_eq-Decides n k).1 (neither n k f e)))

    by : (t : Bool) → is_before n k ≡ t → same_name n k ≡ false → is_in_order (with_key n ks) ≡ true
        → is_in_order (cond t (n ∷ k ∷ ks) (k ∷ with_key n ks)) ≡ true
    by true e s later = and_from (is_before n k) (is_in_order (k ∷ ks)) e h
    by false e s later = front k n ks (other (is_before k n) refl e s) h later

in_order : (ns : List Name) → has_twice ns ≡ false → is_in_order (in_byte_order ns) ≡ true
in_order [] h = refl
in_order (n ∷ ns) h =
    let c = or_parts (is_name_in n ns) (has_twice ns) h in
    ordered_with n (in_byte_order ns) (in_order ns c.1) (not_in_order n ns c.0)

-- ---- entries

bare_entries : (ns : List Name) → list_all is_model_name ns ≡ true → HasBareEntries (written_by_their_names ns)
bare_entries [] h = tt
bare_entries (n ∷ ns) h =
    let c = and_parts (is_model_name n) (list_all is_model_name ns) h in
    let bare = bare_name n c.0 in
    (bare, bare, bare_entries ns c.1)

pub their_names : (ns : List Name) → map (λ (e : Name × Text). e.0) (written_by_their_names ns) ≡ ns
their_names [] = refl
their_names (n ∷ ns) = ap (λ ms. n ∷ ms) (their_names ns)

bare_instructions : (is : Instructions) → list_all is_model_name (map instruction_name (instruction_list is)) ≡ true → bound_among is ≤ 256
    → HasBareInstructions (map written_entry_for (instruction_list is))
bare_instructions no_instructions h small = tt
bare_instructions (and_then i is) h small =
    let c = and_parts (is_model_name (instruction_name i)) (list_all is_model_name (map instruction_name (instruction_list is))) h in
    (bare_name (instruction_name i) c.0, refl, below (instruction_bound i) (bound_among is) small, bare_instructions is c.1 (rest (instruction_bound i) (bound_among is) small))
  where
    below : (a b : ℕ) → max a b ≤ 256 → a < 2 ^ 64
    below a b h = omega (arith, h)

    rest : (a b : ℕ) → max a b ≤ 256 → b ≤ 256
    rest a b h = omega (arith, h)

top_instructions : (t : Machine) → list_all is_model_name (own_instruction_names t) ≡ true → machine_bound t ≤ 256
    → HasBareInstructions (map written_entry_for (instructions_in t))
top_instructions (machine _ _ is) h small = bare_instructions is h small

bare_invariants : (t : Bool) → AreBare (cond t (codes "wb_busy == 0" ∷ []) [])
bare_invariants true = (refl, tt)
bare_invariants false = tt

readable : (m : Model) → IsModel m → greatest_bound m ≤ most_cycles → IsReadable (written_map m)
readable m h small =
    let inputs = map (λ i. i.input_name) m.inputs in
    let inner = gathered state_names (inner_machines m.top) in
    let legal = subst (λ ns. list_all is_model_name (inputs ++ ns) ≡ true) (top_first state_names m.top) h.legal_names in
    let once = subst (λ ns. has_twice (inputs ++ ns) ≡ false) (top_first state_names m.top) h.distinct_names in
    let legal_inputs = all_left is_model_name inputs (state_names m.top ++ inner) legal in
    let legal_states = all_left is_model_name (state_names m.top) inner (all_right is_model_name inputs (state_names m.top ++ inner) legal) in
    let once_inputs = once_left inputs (state_names m.top ++ inner) once in
    let once_states = once_left (state_names m.top) inner (once_right inputs (state_names m.top ++ inner) once) in
    let called = subst (λ ns. list_all is_model_name ns ≡ true) (top_first own_instruction_names m.top) h.legal_instruction_names in
    record {
      top = bare_name m.model_name h.legal_name;
      clock = refl;
      signal = refl;
      active = omega arith;
      cycles = omega arith;
      assume = tt;
      invariants = bare_invariants (has_children m);
      start = refl;
      states = bare_entries (in_byte_order (state_names m.top)) (all_in_order is_model_name (state_names m.top) legal_states);
      states_in_order = ap is_in_order (their_names (in_byte_order (state_names m.top))) ∙ in_order (state_names m.top) once_states;
      inputs = bare_entries (in_byte_order inputs) (all_in_order is_model_name inputs legal_inputs);
      inputs_in_order = ap is_in_order (their_names (in_byte_order inputs)) ∙ in_order inputs once_inputs;
      instructions = top_instructions m.top (all_left is_model_name (own_instruction_names m.top) _ called) small;
    }

pub emitted_maps_are_read : EmittedMapsAreRead
emitted_maps_are_read m h small = texts_are_read (written_map m) (readable m h small)
