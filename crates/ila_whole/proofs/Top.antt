-- The parts of a model that no rule refuses are well sorted.
use Rattle.std.proofs.Common.{◌≡◌, ℕ, zero, suc, ◌+◌, ◌≤◌, Bool, true, false, not, ◌||◌, List, [], ◌∷◌, ◌++◌, length, map, drop, replicate, Option, Some, None, option_map, refl, sym, ap, ◌∙◌, subst, arith, append_assoc, length-append}
use Rattle.std.specs.Prelude.{nat_le, nat_lt, is_none}
use Rattle.std.specs.List.{list_all}
use Rattle.std.proofs.lemmas.Bool.{false≢true, and_parts, and_from}
use Rattle.std.proofs.lemmas.List.{append-nil}
use Rattle.wb_values.specs.Value as meaning
use Rattle.wb_values.specs.Value.{Sort, truth, word, memory, Entries}
use Rattle.model_meaning.specs.Model.{StateDeclaration, InputDeclaration}
use Rattle.model_files.specs.Written.{WrittenMachine, machine, states_in, machines_in}
use Rattle.model_files.specs.Scope.{MachineScope, with_inputs, with_states, with_definitions, with_fetch, scope_within, terms_in}
use Rattle.model_meaning.specs.Term.{is_memory_sort}
use Rattle.model_files.specs.Rules.{has_state_widths, has_fitting_initial_values, fits_sort, depth_of, depth_below, has_step_limits}
use Rattle.wb_terms.specs.declared.values.Value.{Value}
use Rattle.wb_terms.specs.Environment.{as_value}
use Rattle.wb_terms.specs.Graph.{HasDistinctNames}
use Rattle.ila_model.specs.declared.parts.Parts.{Parts}
use Rattle.ila_model.specs.declared.scopes.Scope as places
use Rattle.ila_model.specs.declared.scopes.Scope.TheVariants.{Anywhere}
use Rattle.ila_model.specs.Scope.{private_scopes, name_scopes, may_read, home, tops}
use Rattle.ila_model.specs.Sorted.{is_top_initial, are_states, is_input_sort, are_inputs, are_placed, is_machine, are_children, are_declarations, is_well_sorted}
use Rattle.ila_model.proofs.Declarations.{are_distinct-from}
use Rattle.ila_build.specs.Knowing.{are_right}
use Rattle.ila_build.specs.Declaring.{state_entry, input_entry}
use Rattle.ila_build.specs.Updating.{StandAt}
use Rattle.ila_build.specs.Building.{IsMachine, own_instructions}
use Rattle.ila_build.specs.Inside.{links_from}
use Rattle.ila_build.specs.Layout.{AreLaid}
use Rattle.ila_build.proofs.ChildLemmas.{drop_front}
use Rattle.ila_build.proofs.InsideLemmas.{machine_right}
use Rattle.ila_whole.specs.Shaped.{is_top_state, is_plain_input, has_private_states, machines_inside}
use Rattle.ila_whole.proofs.Homes.{IsTabled, AreHomed, are_homed, top_homed, homed_front, homed_rest}
use Rattle.ila_whole.proofs.WellSorted.{none_known, known_states, known_inputs, known_definitions, AreStatesAt, machine_at, within}
use Rattle.ila_whole.proofs.Children.{AreGood, are_good, as_many, linked_at, children_at}

-- ---- declarations

top_value : (s : Sort) (i : Option Value) (o : Option meaning.Value) → option_map as_value i ≡ o → (not (is_memory_sort s) || is_none o) ≡ true → fits_sort s o ≡ true → is_top_initial s i ≡ true
top_value truth None o e h f = refl
top_value truth (Some x) o e h f = ap (fits_sort truth) e ∙ f
top_value (word w) None o e h f = refl
top_value (word w) (Some x) o e h f = ap (fits_sort (word w)) e ∙ f
top_value (memory a d) None o e h f = refl
top_value (memory a d) (Some x) o e h f = absurd (false≢true (ap is_none e ∙ h))

top_states : (ss : List StateDeclaration) (more : Entries Sort) (is : List (Option Value)) → map (option_map as_value) is ≡ map (λ s. s.init) ss → list_all is_top_state ss ≡ true → list_all (λ s. fits_sort s.sort s.init) ss ≡ true → are_states false (map state_entry ss ++ more) is ≡ true
top_states [] more [] e h f = refl
top_states [] more (i ∷ is) e h f = cc
top_states (s ∷ ss) more [] e h f = refl
top_states (s ∷ ss) more (i ∷ is) e h f =
    let first : option_map as_value i ≡ s.init = cc in
    let behind : map (option_map as_value) is ≡ map (λ x. x.init) ss = cc in
    let a = and_parts (is_top_state s) (list_all is_top_state ss) h in
    let b = and_parts (fits_sort s.sort s.init) (list_all (λ x. fits_sort x.sort x.init) ss) f in
    and_from (is_top_initial s.sort i) _ (top_value s.sort i s.init first a.0 b.0) (top_states ss more is behind a.1 b.1)

plain_sort : (s : Sort) → not (is_memory_sort s) ≡ true → is_input_sort s ≡ true
plain_sort truth h = refl
plain_sort (word w) h = refl
plain_sort (memory a d) h = absurd (false≢true h)

top_inputs : (is : List InputDeclaration) (more : Entries Sort) → list_all is_plain_input is ≡ true → are_inputs (length is) (map input_entry is ++ more) ≡ true
top_inputs [] more h = refl
top_inputs (i ∷ is) more h =
    let parts = and_parts (is_plain_input i) (list_all is_plain_input is) h in
    and_from (is_input_sort i.sort) _ (plain_sort i.sort parts.0) (top_inputs is more parts.1)

or_first : (a b : Bool) → a ≡ true → (a || b) ≡ true
or_first true b h = refl
or_first false b h = absurd (false≢true h)

-- the states of the top, at their places
states_top : (p : Parts) (high : ℕ) (ss : List StateDeclaration) → high ≤ length p.initial_values.items → AreHomed p Anywhere 0 high (map state_entry ss) → AreStatesAt p None ss
states_top p high [] b h = tt
states_top p high (x ∷ ss) b h = (
  (λ k w n.
      and_from (nat_lt k (length p.terms.names)) _ (within k (length p.terms.names) w)
      (and_from (nat_lt k (length p.initial_values.items) || nat_le (tops p) k) _ (or_first (nat_lt k (length p.initial_values.items)) (nat_le (tops p) k) (within k (length p.initial_values.items) (omega (arith, b, (h.1 k w n).1))))
      (ap (λ m. may_read p.children.items None (home p m)) n ∙ ap (may_read p.children.items None) h.0))),
  states_top p high ss b h.2,
)

replicate_append : (a b : ℕ) (s : places.Scope) → replicate (a + b) s ≡ replicate a s ++ replicate b s
replicate_append zero b s = ap (λ n. replicate n s) none where
  none : 0 + b ≡ b
  none = omega arith
replicate_append (suc a) b s = ap (λ n. replicate n s) next ∙ ap (λ r. s ∷ r) (replicate_append a b s) where
  next : suc a + b ≡ suc (a + b)
  next = omega arith

top_cut : (p : Parts) (a b : ℕ) → tops p ≡ a + b → name_scopes (tops p) p.children.items ≡ replicate a Anywhere ++ (replicate b Anywhere ++ private_scopes 0 p.children.items)
top_cut p a b e =
    let any : places.Scope = Anywhere in
    ap (λ n. replicate n any ++ private_scopes 0 p.children.items) e ∙ (ap (λ r. r ++ private_scopes 0 p.children.items) (replicate_append a b any) ∙ append_assoc (replicate a any) (replicate b any) (private_scopes 0 p.children.items))

-- ---- what the parts are

pub record IsWhole (p : Parts) (ins : List InputDeclaration) (m : WrittenMachine) : Type 0 where
  pub behind : Entries Sort
  pub names : p.terms.names ≡ map state_entry (states_in m) ++ (map input_entry ins ++ behind)
  pub inputs : p.inputs ≡ length ins
  pub values : map (option_map as_value) p.initial_values.items ≡ map (λ s. s.init) (states_in m)
  pub places : List ℕ
  pub stand : StandAt p.terms 0 places (states_in m)
  pub own : IsMachine p.terms (with_states (with_inputs [] ins) (states_in m)) (states_in m) (links_from 0 (own_instructions m)) m p.valid p.instructions.items
  pub distinct : HasDistinctNames p.terms.names
  pub placed : are_placed (length (map state_entry (states_in m) ++ map input_entry ins)) (length p.terms.names) p.children.items ≡ true

abbrev pub inner_of : List InputDeclaration → WrittenMachine → MachineScope
inner_of ins (machine ss ds f v is) = scope_within (record { names = with_inputs [] ins; states = [] }) ss ds

-- what the rules and the shape say of it
pub record IsSound (ins : List InputDeclaration) (m : WrittenMachine) : Type 0 where
  pub right : are_right (terms_in (record { names = with_inputs [] ins; states = [] }) m) ≡ true
  pub deep : depth_of m ≤ 3
  pub widths : list_all has_state_widths (machines_in m) ≡ true
  pub fitting : list_all has_fitting_initial_values (machines_in m) ≡ true
  pub limits : has_step_limits m ≡ true
  pub inputs : list_all is_plain_input ins ≡ true
  pub states : list_all is_top_state (states_in m) ≡ true
  pub privates : list_all has_private_states (machines_inside m) ≡ true

map_length : {A B : Type 0} (f : A → B) (xs : List A) → length (map f xs) ≡ length xs
map_length f [] = refl
map_length f (x ∷ xs) = omega (arith, map_length f xs)

pub well_sorted : (p : Parts) (ins : List InputDeclaration) (m : WrittenMachine) → IsWhole p ins m → IsSound ins m → AreLaid p.terms (inner_of ins m) None 0 (own_instructions m) p.children.items → is_well_sorted p ≡ true
well_sorted p ins (machine ss ds f v is) w s laid =
    let m = machine ss ds f v is in
    let ns = p.terms.names in
    let front = map state_entry ss ++ map input_entry ins in
    let many : length p.initial_values.items ≡ length (map state_entry ss) = as_many ss p.initial_values.items w.values in
    let inputs_many : length (map input_entry ins) ≡ length ins = map_length input_entry ins in
    let size : length front ≡ tops p = omega (arith, length-append (map state_entry ss) (map input_entry ins), many, inputs_many, w.inputs) in
    let placed : are_placed (tops p) (length ns) p.children.items ≡ true = subst (λ n. are_placed n (length ns) p.children.items ≡ true) size w.placed in
    let t : IsTabled p = record { distinct = w.distinct; placed = placed } in
    let homed = top_homed p front w.behind t (w.names ∙ sym (append_assoc (map state_entry ss) (map input_entry ins) w.behind)) size in
    let own_homed = homed_front p Anywhere 0 (tops p) (map state_entry ss) (map input_entry ins) homed in
    let any : places.Scope = Anywhere in
    let cut = top_cut p (length (map state_entry ss)) (length (map input_entry ins)) (omega (arith, many, inputs_many, w.inputs)) in
    let outer : MachineScope = record { names = with_inputs [] ins; states = [] } in
    let parts = machine_right outer ss ds f v is s.right in
    let known = known_states p None Anywhere 0 (tops p) outer.names ss refl own_homed (known_inputs p None Anywhere 0 (tops p) [] ins refl (homed_rest p Anywhere 0 (tops p) (map state_entry ss) (map input_entry ins) homed) (none_known p None)) in
    let inside = known_definitions p None (with_states outer.names ss) ds known parts.0.definitions in
    let states = states_top p (length (map state_entry ss)) ss (omega (arith, many)) (are_homed p Anywhere 0 (length (map state_entry ss)) [] (map state_entry ss) (map input_entry ins ++ w.behind) [] (replicate (length (map input_entry ins)) any ++ private_scopes 0 p.children.items) t w.names cut refl (omega arith) (omega arith)) in
    let list : p.children.items ≡ [] ++ (p.children.items ++ []) = sym (append-nil p.children.items) in
    let links = linked_at p.terms (scope_within outer ss ds) None 0 is [] p.children.items [] p.children.items list refl laid in
    let depth : depth_below is ≤ 3 = s.deep in
    let deep : 0 + depth_below is ≤ 3 = omega (arith, depth) in
    let widths = and_parts (has_state_widths m) _ s.widths in
    let fitting = and_parts (has_fitting_initial_values m) _ s.fitting in
    let good : AreGood is = are_good is widths.1 s.privates fitting.1 s.limits in
    let declared_states : are_states false ns p.initial_values.items ≡ true = ap (λ xs. are_states false xs p.initial_values.items) w.names ∙ top_states ss (map input_entry ins ++ w.behind) p.initial_values.items w.values s.states fitting.0 in
    let declared_inputs : are_inputs p.inputs (drop (length p.initial_values.items) ns) ≡ true =
    ap (λ n. are_inputs n (drop (length p.initial_values.items) ns)) w.inputs
    ∙ (ap (λ xs. are_inputs (length ins) (drop (length p.initial_values.items) xs)) w.names
    ∙ (ap (λ n. are_inputs (length ins) (drop n (map state_entry ss ++ (map input_entry ins ++ w.behind)))) many
    ∙ (ap (are_inputs (length ins)) (drop_front (map state_entry ss) (map input_entry ins ++ w.behind)) ∙ top_inputs ins w.behind s.inputs))) in
    and_from _ _ (are_distinct-from ns w.distinct)
    (and_from (are_declarations p) _ (and_from (are_states false ns p.initial_values.items) _ declared_states (and_from (are_inputs p.inputs (drop (length p.initial_values.items) ns)) _ declared_inputs placed))
    (and_from (is_machine p None p.valid.0 p.instructions.items) (are_children p 0 p.children.items)
    (machine_at p None (with_states outer.names ss) ss w.places 0 m p.valid p.instructions.items w.distinct known w.stand states parts.0 links w.own)
    (children_at p (scope_within outer ss ds) None 0 0 is (with_fetch (with_definitions (with_states outer.names ss) ds) f) [] p.children.items [] t list refl laid good inside states refl deep parts.1)))
