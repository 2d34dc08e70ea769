-- What is gathered on the way through a model file is what the rules say of it.
use Rattle.std.proofs.Common.{◌≡◌, Bool, true, false, cond, not, ◌&&◌, ◌||◌, List, [], ◌∷◌, ◌++◌, Option, Some, None, option_map, sym, refl, ap, ◌∙◌}
use Rattle.std.specs.List.{list_all, list_any}
use Rattle.std.proofs.lemmas.List.Folds.{list_any-append, list_all-append}
use Rattle.wb_values.specs.Value.{Name, same_name, Sort, truth, word, memory, Entries}
use Rattle.wb_values.specs.Choice.{some_if}
use Rattle.model_meaning.specs.Term.{is_sort}
use Rattle.model_meaning.specs.Model.{StateDeclaration, InputDeclaration, state_named}
use Rattle.wb_values.specs.Choice.{first_of}
use Rattle.model_files.specs.Written.{WrittenTerm, WrittenMachine, machine, WrittenInstruction, instruction, WrittenInstructions, no_instructions, and_then, WrittenChild, no_child, child, WrittenModel, states_in, machines_in, machines_below, machines_of_instruction, machines_of_child}
use Rattle.model_files.specs.Scope.{Visible, MachineScope, TermPlace, of_definition, of_fetch, of_condition, of_update, PlacedTerm, placed, term_of, written_sort, defined, with_states, with_fetch, placed_definitions, placed_fetch, placed_updates, scope_within, terms_in, terms_below, terms_of_instruction, terms_of_child, outermost, all_terms}
use Rattle.model_meaning.specs.Term.{is_memory_sort}
use Rattle.model_files.specs.Rules.{is_unknown_at, uses_unknown_name, updates_no_state, has_widths, has_state_widths, accepts, accepts_sort, has_fitting_constants, fits_sort, has_fitting_initial_values, copies_memory, has_unknown_name, has_bad_width, has_bad_sort, has_bad_number, has_memory_copy}
use Rattle.ila_rules.specs.Seen.{LookUp, States, sort_at, memory_at, Role, definition, fetch, condition, update, updates_none, has_role_sort, fits_role, copies_at, is_memory_called}
use Rattle.ila_rules.specs.Flaws.{look_within, look_states, look_definitions, look_fetch, states_within}
use Rattle.ila_rules.proofs.Flags.{Flags, no_flags, term_flags, declared_flags, input_flags, state_flags, definition_flags, fetch_flags, update_flags, head_flags, own_flags, machine_flags, instructions_flags, instruction_flags, child_flags, model_flags}
use Rattle.ila_rules.proofs.Briefs.{briefs, unknown_same, sort_same, memory_same, called_same, definition_more, inputs_same, states_same, definitions_same, fetch_same, sorts_of}

abbrev sort_fits : PlacedTerm → Bool
sort_fits p = accepts_sort p.place (written_sort p.names p.written)

abbrev copies : PlacedTerm → Bool
copies p = copies_memory p.place (term_of p.names p.written)

-- the flags so far, and those of machines' states and of terms
abbrev flags_after : List WrittenMachine → List PlacedTerm → Flags → Flags
flags_after ms ps f = record {
  unknown_name = f.unknown_name || list_any is_unknown_at ps;
  bad_width = f.bad_width || not (list_all has_state_widths ms && list_all (λ p. has_widths p.written) ps);
  bad_sort = f.bad_sort || not (list_all sort_fits ps);
  bad_number = f.bad_number || not (list_all has_fitting_initial_values ms && list_all (λ p. has_fitting_constants p.written) ps);
  memory_copy = f.memory_copy || list_any copies ps;
}

or_false : (b : Bool) → b ≡ (b || false)
or_false true = refl
or_false false = refl

and_true : (b : Bool) → b ≡ (b && true)
and_true true = refl
and_true false = refl

or_or : (a b c : Bool) → ((a || b) || c) ≡ (a || (b || c))
or_or true b c = refl
or_or false b c = refl

or_not : (a b c : Bool) → ((a || not b) || not c) ≡ (a || not (b && c))
or_not true b c = refl
or_not false true c = refl
or_not false false c = refl

four : (a b c d e : Bool) → ((a || not (b && c)) || not (d && e)) ≡ (a || not ((b && d) && (c && e)))
four true b c d e = refl
four false true true d e = refl
four false true false true e = refl
four false true false false e = refl
four false false c d e = refl

after_after : (ms ns : List WrittenMachine) (ps qs : List PlacedTerm) (f : Flags)
    → flags_after ns qs (flags_after ms ps f) ≡ flags_after (ms ++ ns) (ps ++ qs) f
after_after ms ns ps qs f = λ i. record {
  unknown_name = (or_or f.unknown_name (list_any is_unknown_at ps) (list_any is_unknown_at qs)
      ∙ ap (λ b. f.unknown_name || b) (sym (list_any-append is_unknown_at ps qs))) i;
  bad_width = (four f.bad_width (list_all has_state_widths ms) (list_all (λ p. has_widths p.written) ps) (list_all has_state_widths ns) (list_all (λ p. has_widths p.written) qs)
      ∙ (ap (λ b. f.bad_width || not (b && (list_all (λ p. has_widths p.written) ps && list_all (λ p. has_widths p.written) qs))) (sym (list_all-append has_state_widths ms ns))
      ∙ ap (λ b. f.bad_width || not (list_all has_state_widths (ms ++ ns) && b)) (sym (list_all-append (λ p. has_widths p.written) ps qs)))) i;
  bad_sort = (or_not f.bad_sort (list_all sort_fits ps) (list_all sort_fits qs)
      ∙ ap (λ b. f.bad_sort || not b) (sym (list_all-append sort_fits ps qs))) i;
  bad_number = (four f.bad_number (list_all has_fitting_initial_values ms) (list_all (λ p. has_fitting_constants p.written) ps) (list_all has_fitting_initial_values ns) (list_all (λ p. has_fitting_constants p.written) qs)
      ∙ (ap (λ b. f.bad_number || not (b && (list_all (λ p. has_fitting_constants p.written) ps && list_all (λ p. has_fitting_constants p.written) qs))) (sym (list_all-append has_fitting_initial_values ms ns))
      ∙ ap (λ b. f.bad_number || not (list_all has_fitting_initial_values (ms ++ ns) && b)) (sym (list_all-append (λ p. has_fitting_constants p.written) ps qs)))) i;
  memory_copy = (or_or f.memory_copy (list_any copies ps) (list_any copies qs)
      ∙ ap (λ b. f.memory_copy || b) (sym (list_any-append copies ps qs))) i;
}

nothing_after : (f : Flags) → f ≡ flags_after [] [] f
nothing_after f = λ i. record {
  unknown_name = or_false f.unknown_name i;
  bad_width = or_false f.bad_width i;
  bad_sort = or_false f.bad_sort i;
  bad_number = or_false f.bad_number i;
  memory_copy = or_false f.memory_copy i;
}

-- ---- one term

abbrev pub role_of : TermPlace → Role
role_of of_definition = definition
role_of of_fetch = fetch
role_of of_condition = condition
role_of (of_update n s) = update n (option_map (λ d. d.sort) s)

pub none_updated : (p : TermPlace) → updates_none (role_of p) ≡ updates_no_state p
none_updated of_definition = refl
none_updated of_fetch = refl
none_updated of_condition = refl
none_updated (of_update n None) = refl
none_updated (of_update n (Some d)) = refl

pub role_fits : (p : TermPlace) (s : Sort) → fits_role (role_of p) s ≡ accepts p s
role_fits of_definition s = refl
role_fits of_fetch s = fetch_fits s where
  fetch_fits : (s : Sort) → fits_role fetch s ≡ accepts of_fetch s
  fetch_fits truth = refl
  fetch_fits (word w) = refl
  fetch_fits (memory a d) = refl
role_fits of_condition s = refl
role_fits (of_update n None) s = refl
role_fits (of_update n (Some d)) s = refl

pub role_sort : (p : TermPlace) (o : Option Sort) → has_role_sort (role_of p) o ≡ accepts_sort p o
role_sort p None = refl
role_sort p (Some s) = role_fits p s

pub role_copies : (names : Entries Visible) (e : WrittenTerm) (p : TermPlace) → copies_at (role_of p) (memory_at (briefs names) e) ≡ copies_memory p (term_of names e)
role_copies names e of_definition = refl
role_copies names e of_fetch = refl
role_copies names e of_condition = refl
role_copies names e (of_update n None) = refl
role_copies names e (of_update n (Some d)) =
    ap (λ b. is_memory_sort d.sort && not b) (ap (is_memory_called n) (memory_same names e) ∙ called_same n (term_of names e))

term_judged : (names : Entries Visible) (e : WrittenTerm) (p : TermPlace) (f : Flags)
    → term_flags (briefs names) (role_of p) e f ≡ flags_after [] (placed names e p ∷ []) f
unfolding term_flags
term_judged names e p f = λ i. record {
  unknown_name = (ap (λ b. f.unknown_name || (b || updates_none (role_of p))) (unknown_same names e)
      ∙ (ap (λ b. f.unknown_name || (uses_unknown_name names e || b)) (none_updated p)
      ∙ ap (λ b. f.unknown_name || b) (or_false (uses_unknown_name names e || updates_no_state p)))) i;
  bad_width = (ap (λ b. f.bad_width || not b) (and_true (has_widths e))) i;
  bad_sort = (ap (λ b. f.bad_sort || not b) (role_sort p (sort_at (briefs names) e) ∙ (ap (accepts_sort p) (sort_same names e) ∙ and_true (accepts_sort p (written_sort names e))))) i;
  bad_number = (ap (λ b. f.bad_number || not b) (and_true (has_fitting_constants e))) i;
  memory_copy = (ap (λ b. f.memory_copy || b) (role_copies names e p ∙ or_false (copies_memory p (term_of names e)))) i;
}

-- ---- lists of terms

definitions_judged : (names : Entries Visible) (ds : Entries WrittenTerm) (f : Flags)
    → definition_flags (briefs names) ds f ≡ flags_after [] (placed_definitions names ds) f
definitions_judged names [] f = nothing_after f
definitions_judged names (d ∷ ds) f =
    ap (λ (l : LookUp). definition_flags l ds (term_flags (briefs names) definition d.1 f)) (definition_more names d.0 d.1)
    ∙ (definitions_judged ((d.0, defined names d.1) ∷ names) ds (term_flags (briefs names) definition d.1 f)
    ∙ (ap (flags_after [] (placed_definitions ((d.0, defined names d.1) ∷ names) ds)) (term_judged names d.1 of_definition f)
    ∙ after_after [] [] (placed names d.1 of_definition ∷ []) (placed_definitions ((d.0, defined names d.1) ∷ names) ds) f))

fetch_judged : (names : Entries Visible) (e : Option WrittenTerm) (f : Flags) → fetch_flags (briefs names) e f ≡ flags_after [] (placed_fetch names e) f
fetch_judged names None f = nothing_after f
fetch_judged names (Some e) f = term_judged names e of_fetch f

updates_judged : (names : Entries Visible) (states : List StateDeclaration) (us : Entries WrittenTerm) (f : Flags)
    → update_flags (briefs names) (sorts_of states) us f ≡ flags_after [] (placed_updates names states us) f
updates_judged names states [] f = nothing_after f
updates_judged names states (u ∷ us) f =
    updates_judged names states us (term_flags (briefs names) (update u.0 (sorts_of states u.0)) u.1 f)
    ∙ (ap (flags_after [] (placed_updates names states us)) (term_judged names u.1 (of_update u.0 (state_named states u.0)) f)
    ∙ after_after [] [] (placed names u.1 (of_update u.0 (state_named states u.0)) ∷ []) (placed_updates names states us) f)

-- ---- states

declared_after : List StateDeclaration → Flags → Flags
declared_after ss f = record {
  unknown_name = f.unknown_name;
  bad_width = f.bad_width || not (list_all (λ s. is_sort s.sort) ss);
  bad_sort = f.bad_sort;
  bad_number = f.bad_number || not (list_all (λ s. fits_sort s.sort s.init) ss);
  memory_copy = f.memory_copy;
}

states_judged : (ss : List StateDeclaration) (f : Flags) → state_flags ss f ≡ declared_after ss f
unfolding declared_after declared_flags
states_judged [] f = λ i. record {
  unknown_name = f.unknown_name;
  bad_width = or_false f.bad_width i;
  bad_sort = f.bad_sort;
  bad_number = or_false f.bad_number i;
  memory_copy = f.memory_copy;
}
states_judged (s ∷ ss) f = states_judged ss (declared_flags s.sort s.init f) ∙ (λ i. record {
  unknown_name = f.unknown_name;
  bad_width = or_not f.bad_width (is_sort s.sort) (list_all (λ d. is_sort d.sort) ss) i;
  bad_sort = f.bad_sort;
  bad_number = or_not f.bad_number (fits_sort s.sort s.init) (list_all (λ d. fits_sort d.sort d.init) ss) i;
  memory_copy = f.memory_copy;
})

machine_states : (m : WrittenMachine) (f : Flags) → state_flags (states_in m) f ≡ flags_after (m ∷ []) [] f
unfolding declared_after
machine_states m f = states_judged (states_in m) f ∙ (λ i. record {
  unknown_name = or_false f.unknown_name i;
  bad_width = ap (λ b. f.bad_width || not b) (and_true (has_state_widths m) ∙ and_true (has_state_widths m && true)) i;
  bad_sort = or_false f.bad_sort i;
  bad_number = ap (λ b. f.bad_number || not b) (and_true (has_fitting_initial_values m) ∙ and_true (has_fitting_initial_values m && true)) i;
  memory_copy = or_false f.memory_copy i;
})

sorts_append : (xs : List StateDeclaration) (s : StateDeclaration) (n : Name)
    → first_of (option_map (λ d. d.sort) (state_named xs n)) (some_if (same_name s.state_name n) s.sort) ≡ option_map (λ d. d.sort) (state_named (xs ++ s ∷ []) n)
sorts_append [] s n = only (same_name s.state_name n) where
  only : (b : Bool) → some_if b s.sort ≡ option_map (λ d. d.sort) (cond b (Some s) None)
  only true = refl
  only false = refl
sorts_append (x ∷ xs) s n = more (same_name x.state_name n) (sorts_append xs s n) where
  more : (b : Bool) → first_of (option_map (λ d. d.sort) (state_named xs n)) (some_if (same_name s.state_name n) s.sort) ≡ option_map (λ d. d.sort) (state_named (xs ++ s ∷ []) n)
      → first_of (option_map (λ d. d.sort) (cond b (Some x) (state_named xs n))) (some_if (same_name s.state_name n) s.sort)
      ≡ option_map (λ d. d.sort) (cond b (Some x) (state_named (xs ++ s ∷ []) n))
  more true e = refl
  more false e = e

append_cons : {A : Type 0} (xs : List A) (y : A) (ys : List A) → (xs ++ y ∷ []) ++ ys ≡ xs ++ y ∷ ys
append_cons [] y ys = refl
append_cons (x ∷ xs) y ys = ap (λ zs. x ∷ zs) (append_cons xs y ys)

append_none : {A : Type 0} (xs : List A) → xs ≡ xs ++ []
append_none [] = refl
append_none (x ∷ xs) = ap (λ zs. x ∷ zs) (append_none xs)

pub sorts_within : (xs ss : List StateDeclaration) → states_within (sorts_of xs) ss ≡ sorts_of (xs ++ ss)
sorts_within xs [] = ap sorts_of (append_none xs)
sorts_within xs (s ∷ ss) =
    ap (λ (l : States). states_within l ss) (λ i n. sorts_append xs s n i)
    ∙ (sorts_within (xs ++ s ∷ []) ss ∙ ap sorts_of (append_cons xs s ss))

-- ---- machines

pub within_same : (around : MachineScope) (ss : List StateDeclaration) (ds : Entries WrittenTerm)
    → look_within (briefs around.names) ss ds ≡ briefs (scope_within around ss ds).names
within_same around ss ds = ap (λ (l : LookUp). look_definitions l ds) (states_same around.names ss) ∙ definitions_same (with_states around.names ss) ds

head_judged : (around : MachineScope) (ss : List StateDeclaration) (ds : Entries WrittenTerm) (g : Option WrittenTerm) (v : WrittenTerm) (f : Flags)
    → head_flags (briefs around.names) ss ds g v f
    ≡ flags_after [] (placed (with_fetch (scope_within around ss ds).names g) v of_condition ∷ [])
    (flags_after [] (placed_fetch (scope_within around ss ds).names g) (flags_after [] (placed_definitions (with_states around.names ss) ds) (state_flags ss f)))
head_judged around ss ds g v f =
    let inner = (scope_within around ss ds).names in
    let seen = with_fetch inner g in
    let states = state_flags ss f in
    let within = look_within (briefs around.names) ss ds in
    let same : within ≡ briefs inner = within_same around ss ds in
    let fetched : look_fetch within g ≡ briefs seen = ap (λ (l : LookUp). look_fetch l g) same ∙ fetch_same inner g in
    ap (λ (l : LookUp). term_flags l condition v (fetch_flags within g (definition_flags (look_states (briefs around.names) ss) ds states))) fetched
    ∙ (ap (λ (l : LookUp). term_flags (briefs seen) condition v (fetch_flags l g (definition_flags (look_states (briefs around.names) ss) ds states))) same
    ∙ (ap (λ (l : LookUp). term_flags (briefs seen) condition v (fetch_flags (briefs inner) g (definition_flags l ds states))) (states_same around.names ss)
    ∙ (ap (λ (x : Flags). term_flags (briefs seen) condition v (fetch_flags (briefs inner) g x)) (definitions_judged (with_states around.names ss) ds states)
    ∙ (ap (λ (x : Flags). term_flags (briefs seen) condition v x) (fetch_judged inner g (flags_after [] (placed_definitions (with_states around.names ss) ds) states))
    ∙ term_judged seen v of_condition (flags_after [] (placed_fetch inner g) (flags_after [] (placed_definitions (with_states around.names ss) ds) states))))))

mutual
  machine_judged : (around : MachineScope) (m : WrittenMachine) (f : Flags)
      → machine_flags (briefs around.names) (sorts_of around.states) m f ≡ flags_after (machines_in m) (terms_in around m) f
  machine_judged around (machine ss ds g v is) f =
      let m = machine ss ds g v is in
      let inner = scope_within around ss ds in
      let seen = with_fetch inner.names g in
      let outer = with_states around.names ss in
      let states = state_flags ss f in
      let defs = flags_after [] (placed_definitions outer ds) states in
      let fetched = flags_after [] (placed_fetch inner.names g) defs in
      let within = look_within (briefs around.names) ss ds in
      let head = head_flags (briefs around.names) ss ds g v f in
      let same : within ≡ briefs inner.names = within_same around ss ds in
      let found : look_fetch within g ≡ briefs seen = ap (λ (l : LookUp). look_fetch l g) same ∙ fetch_same inner.names g in
      ap (λ (l : LookUp). instructions_flags l (look_fetch within g) (states_within (sorts_of around.states) ss) is head) same
      ∙ (ap (λ (l : LookUp). instructions_flags (briefs inner.names) l (states_within (sorts_of around.states) ss) is head) found
      ∙ (ap (λ (l : States). instructions_flags (briefs inner.names) (briefs seen) l is head) (sorts_within around.states ss)
      ∙ (ap (λ (x : Flags). instructions_flags (briefs inner.names) (briefs seen) (sorts_of inner.states) is x) (head_judged around ss ds g v f)
      ∙ (instructions_judged inner seen is (flags_after [] (placed seen v of_condition ∷ []) fetched)
      ∙ (after_after [] (machines_below is) (placed seen v of_condition ∷ []) (terms_below inner seen is) fetched
      ∙ (after_after [] (machines_below is) (placed_fetch inner.names g) (placed seen v of_condition ∷ terms_below inner seen is) defs
      ∙ (after_after [] (machines_below is) (placed_definitions outer ds) (placed_fetch inner.names g ++ (placed seen v of_condition ∷ terms_below inner seen is)) states
      ∙ (ap (flags_after (machines_below is) (placed_definitions outer ds ++ (placed_fetch inner.names g ++ (placed seen v of_condition ∷ terms_below inner seen is)))) (machine_states m f)
      ∙ after_after (m ∷ []) (machines_below is) [] (placed_definitions outer ds ++ (placed_fetch inner.names g ++ (placed seen v of_condition ∷ terms_below inner seen is))) f))))))))

  instructions_judged : (inner : MachineScope) (names : Entries Visible) (is : WrittenInstructions) (f : Flags)
      → instructions_flags (briefs inner.names) (briefs names) (sorts_of inner.states) is f ≡ flags_after (machines_below is) (terms_below inner names is) f
  instructions_judged inner names no_instructions f = nothing_after f
  instructions_judged inner names (and_then i is) f =
      instructions_judged inner names is (instruction_flags (briefs inner.names) (briefs names) (sorts_of inner.states) i f)
      ∙ (ap (flags_after (machines_below is) (terms_below inner names is)) (instruction_judged inner names i f)
      ∙ after_after (machines_of_instruction i) (machines_below is) (terms_of_instruction inner names i) (terms_below inner names is) f)

  instruction_judged : (inner : MachineScope) (names : Entries Visible) (i : WrittenInstruction) (f : Flags)
      → instruction_flags (briefs inner.names) (briefs names) (sorts_of inner.states) i f ≡ flags_after (machines_of_instruction i) (terms_of_instruction inner names i) f
  instruction_judged inner names (instruction called decode us program) f =
      let decoded = flags_after [] (placed names decode of_condition ∷ []) f in
      child_judged inner program (own_flags (briefs names) (sorts_of inner.states) decode us f)
      ∙ (ap (flags_after (machines_of_child program) (terms_of_child inner program))
      (updates_judged names inner.states us (term_flags (briefs names) condition decode f) ∙ ap (flags_after [] (placed_updates names inner.states us)) (term_judged names decode of_condition f))
      ∙ (after_after [] (machines_of_child program) (placed_updates names inner.states us) (terms_of_child inner program) decoded
      ∙ after_after [] (machines_of_child program) (placed names decode of_condition ∷ []) (placed_updates names inner.states us ++ terms_of_child inner program) f))

  child_judged : (inner : MachineScope) (c : WrittenChild) (f : Flags)
      → child_flags (briefs inner.names) (sorts_of inner.states) c f ≡ flags_after (machines_of_child c) (terms_of_child inner c) f
  child_judged inner no_child f = nothing_after f
  child_judged inner (child steps program) f = machine_judged inner program f

-- ---- inputs, and the whole file

inputs_judged : (is : List InputDeclaration) (f : Flags) → input_flags is f ≡ record {
  unknown_name = f.unknown_name;
  bad_width = f.bad_width || not (list_all (λ i. is_sort i.sort) is);
  bad_sort = f.bad_sort;
  bad_number = f.bad_number;
  memory_copy = f.memory_copy;
}
unfolding declared_flags
inputs_judged [] f = λ i. record {
  unknown_name = f.unknown_name;
  bad_width = or_false f.bad_width i;
  bad_sort = f.bad_sort;
  bad_number = f.bad_number;
  memory_copy = f.memory_copy;
}
inputs_judged (x ∷ is) f = inputs_judged is (declared_flags x.sort None f) ∙ (λ i. record {
  unknown_name = f.unknown_name;
  bad_width = or_not f.bad_width (is_sort x.sort) (list_all (λ y. is_sort y.sort) is) i;
  bad_sort = f.bad_sort;
  bad_number = sym (or_false f.bad_number) i;
  memory_copy = f.memory_copy;
})

not_and : (a b : Bool) → (not a || not b) ≡ not (a && b)
not_and true b = refl
not_and false b = refl

pub model_judged : (m : WrittenModel) → model_flags m ≡ record {
  unknown_name = has_unknown_name m;
  bad_width = has_bad_width m;
  bad_sort = has_bad_sort m;
  bad_number = has_bad_number m;
  memory_copy = has_memory_copy m;
}
model_judged m =
    ap (λ (l : LookUp). machine_flags l (λ n. None) m.top (input_flags m.inputs no_flags)) (inputs_same [] m.inputs)
    ∙ (machine_judged (outermost m) m.top (input_flags m.inputs no_flags)
    ∙ (ap (flags_after (machines_in m.top) (all_terms m)) (inputs_judged m.inputs no_flags)
    ∙ (λ i. record {
      unknown_name = has_unknown_name m;
      bad_width = not_and (list_all (λ x. is_sort x.sort) m.inputs) (list_all has_state_widths (machines_in m.top) && list_all (λ p. has_widths p.written) (all_terms m)) i;
      bad_sort = has_bad_sort m;
      bad_number = has_bad_number m;
      memory_copy = has_memory_copy m;
    })))
