-- The map of an emitted design names the states, inputs and instructions of the model, each once, with bounds that a map may state.
use Rattle.std.proofs.Common.{◌≡◌, ◌∙◌, ℕ, ◌+◌, ◌*◌, ◌≤◌, Bool, true, false, cond, not, List, [], ◌∷◌, map, ◌⊎◌, inl, inr, refl, sym, ap, subst, arith, le-leb}
use Rattle.std.specs.Prelude.{max, nat_le}
use Rattle.std.specs.List.{list_all}
use Rattle.std.proofs.lemmas.Bool.{and_parts, and_from, or_left, or_right, or_cases, or_from, false≢true}
use Rattle.std.proofs.lemmas.Slice.Eq.{bytes_eq-Decides}
use Rattle.wb_values.specs.Value.{Name, same_name}
use Rattle.model_meaning.specs.Among.{is_name_in, has_twice}
use Rattle.model_meaning.specs.Model.{Machine, machine, Instruction, instruction, instruction_name, Instructions, no_instructions, and_then, Child, no_child, child, instruction_list, instructions_in}
use Rattle.model_meaning.specs.Invariant.{inner_machines, gathered, state_names, own_instruction_names}
use Rattle.map_files.specs.Written.{InstructionEntry}
use Rattle.reports.specs.Report.{is_before}
use Rattle.map_rules.specs.Names.{are_among, is_from_1_to}
use Rattle.emitted_designs.specs.Bounds.{instruction_bound, child_bound, bound_among, machine_bound}
use Rattle.emitted_designs.specs.Map.{with_key, in_byte_order, written_entry_for}
use Rattle.map_texts.specs.Unbroken.{EmittedMapsNameAll}
use Rattle.map_texts.proofs.Emitted.{all_in_order, once_left, their_names, top_first}

same_itself : (n : Name) → same_name n n ≡ true
same_itself n = (bytes_eq-Decides n n).1 refl

among_more : (y : Name) (xs ys : List Name) → are_among xs ys ≡ true → are_among xs (y ∷ ys) ≡ true
among_more y [] ys h = refl
among_more y (x ∷ xs) ys h =
    let c = and_parts (is_name_in x ys) (are_among xs ys) h in
    and_from (is_name_in x (y ∷ ys)) (are_among xs (y ∷ ys)) (or_right (same_name x y) (is_name_in x ys) c.0) (among_more y xs ys c.1)

among_itself : (ns : List Name) → are_among ns ns ≡ true
among_itself [] = refl
among_itself (n ∷ ns) =
    and_from (is_name_in n (n ∷ ns)) (are_among ns (n ∷ ns)) (or_left (same_name n n) (is_name_in n ns) (same_itself n)) (among_more n ns ns (among_itself ns))

-- ---- names in their order are the same names

ordered_among : (ns : List Name) → are_among (in_byte_order ns) ns ≡ true
ordered_among ns = all_in_order (λ n. is_name_in n ns) ns (among_itself ns)

in_with_new : (n : Name) (ks : List Name) → is_name_in n (with_key n ks) ≡ true
in_with_new n [] = or_left (same_name n n) false (same_itself n)
in_with_new n (k ∷ ks) = by (is_before n k) (in_with_new n ks)
  where
    by : (t : Bool) → is_name_in n (with_key n ks) ≡ true → is_name_in n (cond t (n ∷ k ∷ ks) (k ∷ with_key n ks)) ≡ true
    by true later = or_left (same_name n n) (is_name_in n (k ∷ ks)) (same_itself n)
    by false later = or_right (same_name n k) (is_name_in n (with_key n ks)) later

in_with_old : (m n : Name) (ks : List Name) → is_name_in m ks ≡ true → is_name_in m (with_key n ks) ≡ true
in_with_old m n [] h = absurd (false≢true h)
in_with_old m n (k ∷ ks) h = by (is_before n k) (here (or_cases (same_name m k) (is_name_in m ks) h) (in_with_old m n ks))
  where
    here : (same_name m k ≡ true) ⊎ (is_name_in m ks ≡ true) → (is_name_in m ks ≡ true → is_name_in m (with_key n ks) ≡ true)
        → is_name_in m (k ∷ with_key n ks) ≡ true
    here (inl e) later = or_left (same_name m k) (is_name_in m (with_key n ks)) e
    here (inr e) later = or_right (same_name m k) (is_name_in m (with_key n ks)) (later e)

    by : (t : Bool) → is_name_in m (k ∷ with_key n ks) ≡ true → is_name_in m (cond t (n ∷ k ∷ ks) (k ∷ with_key n ks)) ≡ true
    by true later = or_right (same_name m n) (is_name_in m (k ∷ ks)) h
    by false later = later

among_with : (n : Name) (xs ks : List Name) → are_among xs ks ≡ true → are_among xs (with_key n ks) ≡ true
among_with n [] ks h = refl
among_with n (x ∷ xs) ks h =
    let c = and_parts (is_name_in x ks) (are_among xs ks) h in
    and_from (is_name_in x (with_key n ks)) (are_among xs (with_key n ks)) (in_with_old x n ks c.0) (among_with n xs ks c.1)

among_ordered : (ns : List Name) → are_among ns (in_byte_order ns) ≡ true
among_ordered [] = refl
among_ordered (n ∷ ns) =
    and_from (is_name_in n (with_key n (in_byte_order ns))) (are_among ns (with_key n (in_byte_order ns))) (in_with_new n (in_byte_order ns))
    (among_with n ns (in_byte_order ns) (among_ordered ns))

-- ---- instructions

called : (is : List Instruction) → map (λ (e : InstructionEntry). e.called) (map written_entry_for is) ≡ map instruction_name is
called [] = refl
called (i ∷ is) = ap (λ ns. instruction_name i ∷ ns) (called is)

one_at_least : (c : Child) → 1 ≤ child_bound c
one_at_least no_child = omega arith
one_at_least (child steps program) = two (steps * machine_bound program)
  where
    two : (n : ℕ) → 1 ≤ 2 + n
    two n = omega arith

own_bound : (i : Instruction) → 1 ≤ instruction_bound i
own_bound (instruction _ _ _ program) = one_at_least program

in_range : (n : ℕ) → 1 ≤ n → n ≤ 256 → is_from_1_to 256 n ≡ true
in_range n low high = and_from (nat_le 1 n) (nat_le n 256) (le-leb 1 n low) (le-leb n 256 high)

in_ranges : (is : Instructions) → bound_among is ≤ 256 → list_all (λ (e : InstructionEntry). is_from_1_to 256 e.bound) (map written_entry_for (instruction_list is)) ≡ true
in_ranges no_instructions h = refl
in_ranges (and_then i is) h =
    and_from (is_from_1_to 256 (instruction_bound i)) _ (in_range (instruction_bound i) (own_bound i) (left (instruction_bound i) (bound_among is) h))
    (in_ranges is (right (instruction_bound i) (bound_among is) h))
  where
    left : (a b : ℕ) → max a b ≤ 256 → a ≤ 256
    left a b h = omega (arith, h)

    right : (a b : ℕ) → max a b ≤ 256 → b ≤ 256
    right a b h = omega (arith, h)

top_in_range : (t : Machine) → machine_bound t ≤ 256 → list_all (λ (e : InstructionEntry). is_from_1_to 256 e.bound) (map written_entry_for (instructions_in t)) ≡ true
top_in_range (machine _ _ is) h = in_ranges is h

-- ---- the rules

unbroken : (b : Bool) → b ≡ true → not b ≡ true → ⊥
unbroken b e h = false≢true (sym (ap not e) ∙ h)

pub all_named : EmittedMapsNameAll
all_named m s h small =
    let states = state_names m.top in
    let inputs = map (λ i. i.input_name) m.inputs in
    let own = own_instruction_names m.top in
    let is_called = called (instructions_in m.top) in
    let of_states = their_names (in_byte_order states) in
    let of_inputs = their_names (in_byte_order inputs) in
    let once = once_left own (gathered own_instruction_names (inner_machines m.top))
    (subst (λ ns. has_twice ns ≡ false) (top_first own_instruction_names m.top) h.distinct_instruction_names) in
    let known = ap (λ ns. are_among ns own) is_called ∙ among_itself own in
    let alone = ap has_twice is_called ∙ once in (
      unbroken _ (ap (λ ns. are_among ns states) of_states ∙ ordered_among states),
      (
        unbroken _ (ap (are_among states) of_states ∙ among_ordered states),
        (
          unbroken _ (ap (λ ns. are_among ns inputs) of_inputs ∙ ordered_among inputs),
          (
            unbroken _ (ap (are_among inputs) of_inputs ∙ among_ordered inputs),
            (
              λ x. false≢true (sym (or_from _ _ (ap not known) alone) ∙ x),
              (
                unbroken _ (ap (are_among own) is_called ∙ among_itself own),
                (
                  unbroken _ (top_in_range m.top small),
                  tt,
                ),
              ),
            ),
          ),
        ),
      ),
    )
