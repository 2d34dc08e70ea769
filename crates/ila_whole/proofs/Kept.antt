-- A model that no rule refuses keeps what every model keeps.
use Rattle.std.proofs.Common.{◌≡◌, Bool, true, false, not, ◌&&◌, ◌||◌, List, [], ◌∷◌, ◌++◌, map, Option, Some, None, refl, sym, ap, ◌∙◌, subst, append_assoc}
use Rattle.std.specs.Prelude.{⊤, cond, is_some}
use Rattle.std.specs.List.{list_all, list_any}
use Rattle.std.proofs.lemmas.Bool.{false≢true, and_parts, and_from}
use Rattle.std.proofs.lemmas.Slice.Eq.{bytes_eq-Decides}
use Rattle.wb_values.specs.Names.{is_model_name}
use Rattle.wb_values.specs.Value.{Name, same_name, Entries, entry_of, Value, Sort, is_of_sort}
use Rattle.model_meaning.specs.Among.{is_name_in, has_twice}
use Rattle.model_meaning.specs.Term.{Term, is_memory_sort}
use Rattle.model_meaning.specs.Model as pure
use Rattle.model_meaning.specs.Model.{StateDeclaration, InputDeclaration, Model, Machine, states_of, state_named, instruction_name, instructions_in, instruction_list}
use Rattle.model_meaning.specs.Invariant.{all_machines, program_machines, instruction_machines, child_machines, inner_machines, gathered, state_names, own_instruction_names, valued_names, instruction_names_of, all_private_states, is_no_memory, is_value_of, has_initial_value, is_memory_with_stores, is_memory_state, keeps_memory, own_updates, keeps_memories, IsModel}
use Rattle.model_files.specs.Written.{WrittenTerm, WrittenInstruction, instruction, WrittenInstructions, no_instructions, and_then, WrittenMachine, machine, WrittenChild, no_child, child, WrittenModel, states_in, machines_in, machines_below, machines_of_instruction, machines_of_child}
use Rattle.model_files.specs.Names.{data_names, instruction_names, instruction_names_in, joined, all_data_names, all_instruction_names}
use Rattle.model_files.specs.Scope.{Visible, MachineScope, term_of, with_fetch, scope_within, outermost, placed, PlacedTerm, placed_definitions, placed_fetch, placed_updates, of_condition, of_update, with_states, terms_in, terms_below, terms_of_instruction, terms_of_child, all_terms}
use Rattle.model_files.specs.Rules.{copies_memory, fits_sort, has_fitting_initial_values, has_fitting_constants, has_memory_copy}
use Rattle.model_files.specs.Meaning as file
use Rattle.model_files.specs.Meaning.{broken_rule, updates_for_states, with_own_update}
use Rattle.ila_build.proofs.Sorting.{or_parts}
use Rattle.ila_whole.specs.Shaped.{is_private_state, has_private_states, machines_inside, is_plain_input, is_top_state, is_shaped}
use Rattle.ila_whole.proofs.Unbroken.{unbroken, not_false}

-- ---- lists from which some are left out

data Sub : List Name → List Name → Type 0 where
  over : Sub [] []
  keep : (n : Name) (xs ys : List Name) → Sub xs ys → Sub (n ∷ xs) (n ∷ ys)
  skip : (n : Name) (xs ys : List Name) → Sub xs ys → Sub xs (n ∷ ys)

nothing_of : (ys : List Name) → Sub [] ys
nothing_of [] = Sub.over
nothing_of (y ∷ ys) = Sub.skip y [] ys (nothing_of ys)

front_of : (xs ys : List Name) → Sub xs (xs ++ ys)
front_of [] ys = nothing_of ys
front_of (x ∷ xs) ys = Sub.keep x xs (xs ++ ys) (front_of xs ys)

sub_append : (xs ys us vs : List Name) → Sub xs ys → Sub us vs → Sub (xs ++ us) (ys ++ vs)
sub_append _ _ us vs Sub.over b = b
sub_append _ _ us vs (Sub.keep n xs ys a) b = Sub.keep n (xs ++ us) (ys ++ vs) (sub_append xs ys us vs a b)
sub_append _ _ us vs (Sub.skip n xs ys a) b = Sub.skip n (xs ++ us) (ys ++ vs) (sub_append xs ys us vs a b)

all_sub : (p : Name → Bool) (xs ys : List Name) → Sub xs ys → list_all p ys ≡ true → list_all p xs ≡ true
all_sub p _ _ Sub.over h = refl
all_sub p _ _ (Sub.keep n xs ys a) h = let parts = and_parts (p n) (list_all p ys) h in and_from (p n) (list_all p xs) parts.0 (all_sub p xs ys a parts.1)
all_sub p _ _ (Sub.skip n xs ys a) h = all_sub p xs ys a (and_parts (p n) (list_all p ys) h).1

neither : (a b : Bool) → a ≡ false → b ≡ false → (a || b) ≡ false
neither true b p q = absurd (false≢true (sym p))
neither false b p q = q

among_sub : (m : Name) (xs ys : List Name) → Sub xs ys → is_name_in m ys ≡ false → is_name_in m xs ≡ false
among_sub m _ _ Sub.over h = refl
among_sub m _ _ (Sub.keep n xs ys a) h = let parts = or_parts (same_name m n) (is_name_in m ys) h in neither (same_name m n) (is_name_in m xs) parts.0 (among_sub m xs ys a parts.1)
among_sub m _ _ (Sub.skip n xs ys a) h = among_sub m xs ys a (or_parts (same_name m n) (is_name_in m ys) h).1

twice_sub : (xs ys : List Name) → Sub xs ys → has_twice ys ≡ false → has_twice xs ≡ false
twice_sub _ _ Sub.over h = refl
twice_sub _ _ (Sub.keep n xs ys a) h =
    let parts = or_parts (is_name_in n ys) (has_twice ys) h in
    neither (is_name_in n xs) (has_twice xs) (among_sub n xs ys a parts.0) (twice_sub xs ys a parts.1)
twice_sub _ _ (Sub.skip n xs ys a) h = twice_sub xs ys a (or_parts (is_name_in n ys) (has_twice ys) h).1

-- ---- machines as they are written, and the machines that they stand for

-- The machines have the states and the instructions' names of the written ones.
abbrev AreMade : List Machine → List WrittenMachine → Type 0
AreMade [] [] = ⊤
AreMade [] (w ∷ ws) = ⊥
AreMade (m ∷ ms) [] = ⊥
AreMade (m ∷ ms) (w ∷ ws) = (states_of m ≡ states_in w) × (own_instruction_names m ≡ instruction_names w) × AreMade ms ws

made_append : (ms ns : List Machine) (ws vs : List WrittenMachine) → AreMade ms ws → AreMade ns vs → AreMade (ms ++ ns) (ws ++ vs)
made_append [] ns [] vs a b = b
made_append [] ns (w ∷ ws) vs a b = absurd a
made_append (m ∷ ms) ns [] vs a b = absurd a
made_append (m ∷ ms) ns (w ∷ ws) vs a b = (a.0, a.1, made_append ms ns ws vs a.2 b)

names_made : (inner : MachineScope) (names : Entries Visible) (is : WrittenInstructions) → map instruction_name (instruction_list (file.instructions_of inner names is)) ≡ instruction_names_in is
names_made inner names no_instructions = refl
names_made inner names (and_then (instruction n d u p) is) = ap (λ ns. n ∷ ns) (names_made inner names is)

mutual
  machine_made : (around : MachineScope) (w : WrittenMachine) → AreMade (all_machines (file.machine_of around w)) (machines_in w)
  machine_made around (machine ss ds f v is) =
      let inner : MachineScope = scope_within around ss ds in
      (refl, names_made inner (with_fetch inner.names f) is, programs_made inner (with_fetch inner.names f) is)

  programs_made : (inner : MachineScope) (names : Entries Visible) (is : WrittenInstructions) → AreMade (program_machines (file.instructions_of inner names is)) (machines_below is)
  programs_made inner names no_instructions = tt
  programs_made inner names (and_then (instruction n d u p) is) =
      made_append (child_machines (file.child_of inner p)) (program_machines (file.instructions_of inner names is)) (machines_of_child p) (machines_below is) (child_made inner p) (programs_made inner names is)

  child_made : (inner : MachineScope) (p : WrittenChild) → AreMade (child_machines (file.child_of inner p)) (machines_of_child p)
  child_made inner no_child = tt
  child_made inner (child steps w) = machine_made inner w

states_front : (w : WrittenMachine) → Sub (map (λ s. s.state_name) (states_in w)) (data_names w)
states_front (machine ss ds f v is) = front_of (map (λ s. s.state_name) ss) (map (λ d. d.0) ds)

state_names_made : (ms : List Machine) (ws : List WrittenMachine) → AreMade ms ws → Sub (gathered state_names ms) (joined (map data_names ws))
state_names_made [] [] a = Sub.over
state_names_made [] (w ∷ ws) a = absurd a
state_names_made (m ∷ ms) [] a = absurd a
state_names_made (m ∷ ms) (w ∷ ws) a =
    sub_append (state_names m) (data_names w) (gathered state_names ms) (joined (map data_names ws))
    (subst (λ ss. Sub (map (λ (s : StateDeclaration). s.state_name) ss) (data_names w)) (sym a.0) (states_front w)) (state_names_made ms ws a.2)

instruction_names_made : (ms : List Machine) (ws : List WrittenMachine) → AreMade ms ws → gathered own_instruction_names ms ≡ joined (map instruction_names ws)
instruction_names_made [] [] a = refl
instruction_names_made [] (w ∷ ws) a = absurd a
instruction_names_made (m ∷ ms) [] a = absurd a
instruction_names_made (m ∷ ms) (w ∷ ws) a =
    ap (λ ns. ns ++ gathered own_instruction_names ms) a.1 ∙ ap (λ ns. instruction_names w ++ ns) (instruction_names_made ms ws a.2)

all_of_states : (p : StateDeclaration → Bool) (ms : List Machine) (ws : List WrittenMachine) → AreMade ms ws → list_all (λ w. list_all p (states_in w)) ws ≡ true → list_all p (gathered states_of ms) ≡ true
all_of_states p [] [] a h = refl
all_of_states p [] (w ∷ ws) a h = absurd a
all_of_states p (m ∷ ms) [] a h = absurd a
all_of_states p (m ∷ ms) (w ∷ ws) a h =
    let parts = and_parts (list_all p (states_in w)) (list_all (λ v. list_all p (states_in v)) ws) h in
    front (states_of m) (gathered states_of ms) (ap (list_all p) a.0 ∙ parts.0) (all_of_states p ms ws a.2 parts.1) where
      front : (xs ys : List StateDeclaration) → list_all p xs ≡ true → list_all p ys ≡ true → list_all p (xs ++ ys) ≡ true
      front [] ys e r = r
      front (x ∷ xs) ys e r = let q = and_parts (p x) (list_all p xs) e in and_from (p x) (list_all p (xs ++ ys)) q.0 (front xs ys q.1 r)

-- ---- what is so of each state

plain_private : (ss : List StateDeclaration) → list_all is_private_state ss ≡ true → list_all is_no_memory ss ≡ true
plain_private [] h = refl
plain_private (s ∷ ss) h =
    let parts = and_parts (is_private_state s) (list_all is_private_state ss) h in
    and_from (is_no_memory s) (list_all is_no_memory ss) (and_parts (is_no_memory s) (is_some s.init) parts.0).0 (plain_private ss parts.1)

value_there : (s : Sort) (o : Option Value) → is_some o ≡ true → fits_sort s o ≡ true → is_value_of s o ≡ true
value_there s None h f = absurd (false≢true h)
value_there s (Some x) h f = f

begun_private : (ss : List StateDeclaration) → list_all is_private_state ss ≡ true → list_all (λ s. fits_sort s.sort s.init) ss ≡ true → list_all has_initial_value ss ≡ true
begun_private [] h f = refl
begun_private (s ∷ ss) h f =
    let parts = and_parts (is_private_state s) (list_all is_private_state ss) h in
    let fits = and_parts (fits_sort s.sort s.init) (list_all (λ x. fits_sort x.sort x.init) ss) f in
    and_from (has_initial_value s) (list_all has_initial_value ss) (value_there s.sort s.init (and_parts (is_no_memory s) (is_some s.init) parts.0).1 fits.0) (begun_private ss parts.1 fits.1)

plain_machines : (ws : List WrittenMachine) → list_all has_private_states ws ≡ true → list_all (λ w. list_all is_no_memory (states_in w)) ws ≡ true
plain_machines [] h = refl
plain_machines (w ∷ ws) h =
    let parts = and_parts (has_private_states w) (list_all has_private_states ws) h in
    and_from (list_all is_no_memory (states_in w)) (list_all (λ v. list_all is_no_memory (states_in v)) ws) (plain_private (states_in w) parts.0) (plain_machines ws parts.1)

begun_machines : (ws : List WrittenMachine) → list_all has_private_states ws ≡ true → list_all has_fitting_initial_values ws ≡ true → list_all (λ w. list_all has_initial_value (states_in w)) ws ≡ true
begun_machines [] h f = refl
begun_machines (w ∷ ws) h f =
    let parts = and_parts (has_private_states w) (list_all has_private_states ws) h in
    let fits = and_parts (has_fitting_initial_values w) (list_all has_fitting_initial_values ws) f in
    and_from (list_all has_initial_value (states_in w)) (list_all (λ v. list_all has_initial_value (states_in v)) ws) (begun_private (states_in w) parts.0 fits.0) (begun_machines ws parts.1 fits.1)

inner_made : (around : MachineScope) (w : WrittenMachine) → AreMade (inner_machines (file.machine_of around w)) (machines_inside w)
inner_made around (machine ss ds f v is) = let inner : MachineScope = scope_within around ss ds in programs_made inner (with_fetch inner.names f) is

fitting_inside : (w : WrittenMachine) → list_all has_fitting_initial_values (machines_in w) ≡ true → list_all has_fitting_initial_values (machines_inside w) ≡ true
fitting_inside (machine ss ds f v is) h = (and_parts (has_fitting_initial_values (machine ss ds f v is)) (list_all has_fitting_initial_values (machines_below is)) h).1

-- ---- memories

-- What the first states name, all of them name.
abbrev Covers : List StateDeclaration → List StateDeclaration → Type 0
Covers top all = (n : Name) (d : StateDeclaration) → state_named top n ≡ Some d → state_named all n ≡ Some d

named_front : (ss more : List StateDeclaration) (n : Name) (d : StateDeclaration) → state_named ss n ≡ Some d → state_named (ss ++ more) n ≡ Some d
named_front [] more n d h = cc
named_front (s ∷ ss) more n d h = by_test (same_name s.state_name n) (named_front ss more n d) h where
  by_test : (b : Bool) → (state_named ss n ≡ Some d → state_named (ss ++ more) n ≡ Some d) → cond b (Some s) (state_named ss n) ≡ Some d → cond b (Some s) (state_named (ss ++ more) n) ≡ Some d
  by_test true rest e = e
  by_test false rest e = rest e

covers_more : (top all more : List StateDeclaration) → Covers top all → Covers top (all ++ more)
covers_more top all more c n d h = named_front all more n d (c n d h)

-- a term of the file copies the memory that it updates
abbrev copies_at : PlacedTerm → Bool
copies_at p = copies_memory p.place (term_of p.names p.written)

none_of : (xs ys : List PlacedTerm) → list_any copies_at (xs ++ ys) ≡ false → (list_any copies_at xs ≡ false) × (list_any copies_at ys ≡ false)
none_of [] ys h = (refl, h)
none_of (x ∷ xs) ys h =
    let parts = or_parts (copies_at x) (list_any copies_at (xs ++ ys)) h in
    let rest = none_of xs ys parts.1 in
    (neither (copies_at x) (list_any copies_at xs) parts.0 rest.0, rest.1)

entry_kept : (names : Entries Visible) (all : List StateDeclaration) (us : Entries WrittenTerm) (n : Name) (e : WrittenTerm)
    → list_any copies_at (placed_updates names all us) ≡ false → entry_of us n ≡ Some e → copies_memory (of_update n (state_named all n)) (term_of names e) ≡ false
entry_kept names all [] n e r h = cc
entry_kept names all (u ∷ us) n e r h =
    let parts = or_parts (copies_memory (of_update u.0 (state_named all u.0)) (term_of names u.1)) (list_any copies_at (placed_updates names all us)) r in
    by_test (same_name u.0 n) refl parts.0 (λ k. entry_kept names all us n e parts.1 k) h where
      by_test : (b : Bool) → same_name u.0 n ≡ b → copies_memory (of_update u.0 (state_named all u.0)) (term_of names u.1) ≡ false
          → (entry_of us n ≡ Some e → copies_memory (of_update n (state_named all n)) (term_of names e) ≡ false)
          → cond b (Some u.1) (entry_of us n) ≡ Some e → copies_memory (of_update n (state_named all n)) (term_of names e) ≡ false
      by_test false k a rest h = rest h
      by_test true k a rest h =
          let same : u.1 ≡ e = cc in
          subst (λ x. copies_memory (of_update n (state_named all n)) (term_of names x) ≡ false) same
          (subst (λ m. copies_memory (of_update m (state_named all m)) (term_of names u.1) ≡ false) ((bytes_eq-Decides u.0 n).0 k) a)

not_or : (a b : Bool) → (a && not b) ≡ false → (not a || b) ≡ true
not_or true true h = refl
not_or true false h = sym h
not_or false b h = refl

kept_by : (top all : List StateDeclaration) (n : Name) (t : Term) → Covers top all → copies_memory (of_update n (state_named all n)) t ≡ false → keeps_memory top (n, t) ≡ true
kept_by top all n t c h = by_state (state_named top n) refl where
  by_state : (o : Option StateDeclaration) → state_named top n ≡ o → (not (is_memory_state o) || is_memory_with_stores n t) ≡ true
  by_state None e = refl
  by_state (Some d) e = not_or (is_memory_sort d.sort) (is_memory_with_stores n t) (subst (λ o. copies_memory (of_update n o) t ≡ false) (c n d e) h)

updates_kept : (top all ss : List StateDeclaration) (names : Entries Visible) (us : Entries WrittenTerm) → Covers top all → list_any copies_at (placed_updates names all us) ≡ false → list_all (keeps_memory top) (updates_for_states names ss us) ≡ true
updates_kept top all [] names us c h = refl
updates_kept top all (s ∷ ss) names us c h = by_entry (entry_of us s.state_name) refl (updates_kept top all ss names us c h) where
  by_entry : (o : Option WrittenTerm) → entry_of us s.state_name ≡ o → list_all (keeps_memory top) (updates_for_states names ss us) ≡ true → list_all (keeps_memory top) (with_own_update names s.state_name o (updates_for_states names ss us)) ≡ true
  by_entry None e rest = rest
  by_entry (Some t) e rest =
      and_from (keeps_memory top (s.state_name, term_of names t)) (list_all (keeps_memory top) (updates_for_states names ss us))
      (kept_by top all s.state_name (term_of names t) c (entry_kept names all us s.state_name t h e)) rest

all_both : (p : Machine → Bool) (xs ys : List Machine) → list_all p xs ≡ true → list_all p ys ≡ true → list_all p (xs ++ ys) ≡ true
all_both p [] ys a b = b
all_both p (x ∷ xs) ys a b = let parts = and_parts (p x) (list_all p xs) a in and_from (p x) (list_all p (xs ++ ys)) parts.0 (all_both p xs ys parts.1 b)

own_kept : (top : List StateDeclaration) (inner : MachineScope) (names : Entries Visible) (is : WrittenInstructions) → Covers top inner.states → list_any copies_at (terms_below inner names is) ≡ false
    → list_all (λ i. list_all (keeps_memory top) (own_updates i)) (instruction_list (file.instructions_of inner names is)) ≡ true
own_kept top inner names no_instructions c h = refl
own_kept top inner names (and_then (instruction n d u p) is) c h =
    let parts = none_of (terms_of_instruction inner names (instruction n d u p)) (terms_below inner names is) h in
    let own = or_parts (copies_at (placed names d of_condition)) _ parts.0 in
    let both = none_of (placed_updates names inner.states u) (terms_of_child inner p) own.1 in
    and_from (list_all (keeps_memory top) (updates_for_states names inner.states u)) _ (updates_kept top inner.states inner.states names u c both.0) (own_kept top inner names is c parts.1)

mutual
  machine_kept : (top : List StateDeclaration) (around : MachineScope) (w : WrittenMachine) → Covers top (around.states ++ states_in w) → list_any copies_at (terms_in around w) ≡ false
      → list_all (keeps_memories top) (all_machines (file.machine_of around w)) ≡ true
  machine_kept top around (machine ss ds f v is) c h =
      let inner : MachineScope = scope_within around ss ds in
      let names = with_fetch inner.names f in
      let first = none_of (placed_definitions (with_states around.names ss) ds) _ h in
      let second = none_of (placed_fetch inner.names f) (placed names v of_condition ∷ terms_below inner names is) first.1 in
      let third = or_parts (copies_at (placed names v of_condition)) (list_any copies_at (terms_below inner names is)) second.1 in
      and_from (keeps_memories top (file.machine_of around (machine ss ds f v is))) (list_all (keeps_memories top) (program_machines (file.instructions_of inner names is)))
      (own_kept top inner names is c third.1) (programs_kept top inner names is c third.1)

  programs_kept : (top : List StateDeclaration) (inner : MachineScope) (names : Entries Visible) (is : WrittenInstructions) → Covers top inner.states → list_any copies_at (terms_below inner names is) ≡ false
      → list_all (keeps_memories top) (program_machines (file.instructions_of inner names is)) ≡ true
  programs_kept top inner names no_instructions c h = refl
  programs_kept top inner names (and_then (instruction n d u p) is) c h =
      let parts = none_of (terms_of_instruction inner names (instruction n d u p)) (terms_below inner names is) h in
      let own = or_parts (copies_at (placed names d of_condition)) _ parts.0 in
      let both = none_of (placed_updates names inner.states u) (terms_of_child inner p) own.1 in
      all_both (keeps_memories top) (child_machines (file.child_of inner p)) (program_machines (file.instructions_of inner names is)) (child_kept top inner p c both.1) (programs_kept top inner names is c parts.1)

  child_kept : (top : List StateDeclaration) (inner : MachineScope) (p : WrittenChild) → Covers top inner.states → list_any copies_at (terms_of_child inner p) ≡ false
      → list_all (keeps_memories top) (child_machines (file.child_of inner p)) ≡ true
  child_kept top inner no_child c h = refl
  child_kept top inner (child steps w) c h = machine_kept top inner w (covers_more top inner.states (states_in w) c) h

top_states : (around : MachineScope) (w : WrittenMachine) → states_of (file.machine_of around w) ≡ states_in w
top_states around (machine ss ds f v is) = refl

-- ---- the model

self_of : (xs : List Name) → Sub xs xs
self_of [] = Sub.over
self_of (x ∷ xs) = Sub.keep x xs xs (self_of xs)

pub kept : (m : WrittenModel) → broken_rule m ≡ None → is_shaped m ≡ true → IsModel (file.model_of m)
kept m h shape =
    let u = unbroken m h in
    let w = m.top in
    let around : MachineScope = outermost m in
    let pure_top : Machine = file.machine_of around w in
    let legal = and_parts (is_model_name m.model_name) _ (not_false _ u.named) in
    let both = and_parts (list_all is_model_name (all_data_names m)) (list_all is_model_name (all_instruction_names m)) legal.1 in
    let apart = or_parts (has_twice (all_data_names m)) (has_twice (all_instruction_names m)) u.apart in
    let made = machine_made around w in
    let ins = map (λ (i : InputDeclaration). i.input_name) m.inputs in
    let part : Sub (valued_names (file.model_of m)) (all_data_names m) = sub_append ins ins (gathered state_names (all_machines pure_top)) (joined (map data_names (machines_in w))) (self_of ins) (state_names_made (all_machines pure_top) (machines_in w) made) in
    let same : instruction_names_of (file.model_of m) ≡ all_instruction_names m = instruction_names_made (all_machines pure_top) (machines_in w) made in
    let plain = and_parts (list_all is_plain_input m.inputs) _ shape in
    let states = and_parts (list_all is_top_state (states_in w)) (list_all has_private_states (machines_inside w)) plain.1 in
    let fitting = and_parts (list_all has_fitting_initial_values (machines_in w)) (list_all (λ (p : PlacedTerm). has_fitting_constants p.written) (all_terms m)) (not_false _ u.fitting) in
    let inside = inner_made around w in
    record {
      legal_name = legal.0;
      legal_names = all_sub is_model_name (valued_names (file.model_of m)) (all_data_names m) part both.0;
      distinct_names = twice_sub (valued_names (file.model_of m)) (all_data_names m) part apart.0;
      legal_instruction_names = ap (list_all is_model_name) same ∙ both.1;
      distinct_instruction_names = ap has_twice same ∙ apart.1;
      no_private_memory = all_of_states is_no_memory (inner_machines pure_top) (machines_inside w) inside (plain_machines (machines_inside w) states.1);
      private_states_begin = all_of_states has_initial_value (inner_machines pure_top) (machines_inside w) inside (begun_machines (machines_inside w) states.1 (fitting_inside w fitting.0));
      no_copied_memory = subst (λ ss. list_all (keeps_memories ss) (all_machines pure_top) ≡ true) (sym (top_states around w)) (machine_kept (states_in w) around w (λ n d e. e) u.uncopied);
    }
