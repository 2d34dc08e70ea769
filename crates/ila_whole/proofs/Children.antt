-- The child programs of a model that no rule refuses are well sorted.
use Rattle.std.proofs.Common.{◌≡◌, ℕ, zero, suc, ◌+◌, ◌≤◌, max, Bool, true, false, not, ◌&&◌, ◌||◌, List, [], ◌∷◌, ◌++◌, length, map, drop, Option, Some, None, option_map, refl, sym, ap, ◌∙◌, subst, arith, append_assoc, length-append}
use Rattle.std.specs.Prelude.{nat_le, nat_lt, ⊤, is_some}
use Rattle.std.specs.List.{list_all}
use Rattle.std.proofs.lemmas.Bool.{false≢true, and_parts, and_from, eq-eqb, leb-true, leb-false}
use Rattle.wb_values.specs.Value as meaning
use Rattle.wb_values.specs.Value.{Name, Sort, truth, word, memory, Entries, is_of_sort}
use Rattle.model_meaning.specs.Model.{StateDeclaration}
use Rattle.model_files.specs.Written.{WrittenInstruction, instruction, WrittenInstructions, no_instructions, and_then, WrittenMachine, machine, WrittenChild, no_child, child, machines_below, machines_of_child}
use Rattle.model_files.specs.Scope.{Visible, MachineScope, with_states, with_definitions, with_fetch, scope_within, terms_below, terms_of_child}
use Rattle.model_meaning.specs.Term.{is_memory_sort}
use Rattle.model_files.specs.Rules.{has_state_widths, has_fitting_initial_values, fits_sort, depth_below, depth_of_child, have_step_limits, child_has_step_limits}
use Rattle.wb_terms.specs.declared.values.Value.{Value}
use Rattle.wb_terms.specs.Environment.{as_value}
use Rattle.wb_terms.specs.Graph.{Graph}
use Rattle.ila_model.specs.declared.parts.ChildId.{ChildId}
use Rattle.ila_model.specs.declared.parts.Child.{Child}
use Rattle.ila_model.specs.declared.parts.Parts.{Parts}
use Rattle.ila_model.specs.declared.scopes.Scope as places
use Rattle.ila_model.specs.declared.scopes.Scope.TheVariants.{Within}
use Rattle.ila_model.specs.Scope.{nesting, around, is_nested, is_child_nested, may_read, home, tops}
use Rattle.ila_model.specs.Sorted.{is_private_initial, are_states, name_at, same_place, is_link, is_limit, is_child, is_machine, are_children}
use Rattle.ila_build.specs.Knowing.{are_right}
use Rattle.ila_build.specs.Declaring.{state_entry}
use Rattle.ila_build.specs.Inside.{link_from}
use Rattle.ila_build.specs.Layout.{AreLaid, IsLaidChild}
use Rattle.ila_build.proofs.ChildLemmas.{drop_front}
use Rattle.ila_build.proofs.InsideLemmas.{machine_right, next_right}
use Rattle.ila_whole.specs.Shaped.{is_private_state, has_private_states}
use Rattle.ila_whole.proofs.Places.{read_inside, read_own}
use Rattle.ila_whole.proofs.Homes.{IsTabled, AreHomed, child_homed}
use Rattle.ila_whole.proofs.WellSorted.{AreKnownAt, known_states, known_definitions, AreStatesAt, AreLinkedAt, machine_at, within, at_most}

-- ---- what the rules say of the child programs, by the program

pub record IsGood (steps : ℕ) (m : WrittenMachine) : Type 0 where
  pub widths : has_state_widths m ≡ true
  pub plain : has_private_states m ≡ true
  pub fitting : has_fitting_initial_values m ≡ true
  pub some : nat_le 1 steps ≡ true
  pub limit : nat_le steps 4096 ≡ true

abbrev mutual
  pub AreGood : WrittenInstructions → Type 0
  AreGood no_instructions = ⊤
  AreGood (and_then i is) = IsGoodOf i × AreGood is

  pub IsGoodOf : WrittenInstruction → Type 0
  IsGoodOf (instruction n d u p) = IsGoodChild p

  pub IsGoodChild : WrittenChild → Type 0
  IsGoodChild no_child = ⊤
  IsGoodChild (child steps m) = IsGood steps m × AreGoodIn m

  pub AreGoodIn : WrittenMachine → Type 0
  AreGoodIn (machine ss ds f v is) = AreGood is

all_append : (P : WrittenMachine → Bool) (xs ys : List WrittenMachine) → list_all P (xs ++ ys) ≡ true → (list_all P xs ≡ true) × (list_all P ys ≡ true)
all_append P [] ys h = (refl, h)
all_append P (x ∷ xs) ys h =
    let parts = and_parts (P x) _ h in
    let rest = all_append P xs ys parts.1 in
    (and_from (P x) (list_all P xs) parts.0 rest.0, rest.1)

mutual
  pub are_good : (is : WrittenInstructions) → list_all has_state_widths (machines_below is) ≡ true → list_all has_private_states (machines_below is) ≡ true → list_all has_fitting_initial_values (machines_below is) ≡ true → have_step_limits is ≡ true → AreGood is
  are_good no_instructions a b c d = tt
  are_good (and_then (instruction n e u p) is) a b c d =
      let x = all_append has_state_widths (machines_of_child p) (machines_below is) a in
      let y = all_append has_private_states (machines_of_child p) (machines_below is) b in
      let z = all_append has_fitting_initial_values (machines_of_child p) (machines_below is) c in
      let w = and_parts _ (have_step_limits is) d in
      (is_good p x.0 y.0 z.0 w.0, are_good is x.1 y.1 z.1 w.1)

  is_good : (p : WrittenChild) → list_all has_state_widths (machines_of_child p) ≡ true → list_all has_private_states (machines_of_child p) ≡ true → list_all has_fitting_initial_values (machines_of_child p) ≡ true → child_has_step_limits p ≡ true → IsGoodChild p
  is_good no_child a b c d = tt
  is_good (child steps (machine ss ds f v is)) a b c d =
      let m = machine ss ds f v is in
      let x = and_parts (has_state_widths m) _ a in
      let y = and_parts (has_private_states m) _ b in
      let z = and_parts (has_fitting_initial_values m) _ c in
      let u = and_parts (nat_le 1 steps) _ d in
      let w = and_parts (nat_le steps 4096) _ u.1 in
      (record { widths = x.0; plain = y.0; fitting = z.0; some = u.0; limit = w.0 }, are_good is x.1 y.1 z.1 w.1)

-- ---- initial values

private_value : (s : Sort) (i : Option Value) (o : Option meaning.Value) → option_map as_value i ≡ o → (not (is_memory_sort s) && is_some o) ≡ true → fits_sort s o ≡ true → is_private_initial s i ≡ true
private_value truth None o e h f = absurd (false≢true (ap is_some e ∙ h))
private_value truth (Some x) o e h f = ap (fits_sort truth) e ∙ f
private_value (word w) None o e h f = absurd (false≢true (ap is_some e ∙ h))
private_value (word w) (Some x) o e h f = ap (fits_sort (word w)) e ∙ f
private_value (memory a d) i o e h f = absurd (false≢true h)

pub privates_sorted : (ss : List StateDeclaration) (more : Entries Sort) (is : List (Option Value)) → map (option_map as_value) is ≡ map (λ s. s.init) ss → list_all is_private_state ss ≡ true → list_all (λ s. fits_sort s.sort s.init) ss ≡ true → are_states true (map state_entry ss ++ more) is ≡ true
privates_sorted [] more [] e h f = refl
privates_sorted [] more (i ∷ is) e h f = cc
privates_sorted (s ∷ ss) more [] e h f = refl
privates_sorted (s ∷ ss) more (i ∷ is) e h f =
    let first : option_map as_value i ≡ s.init = cc in
    let behind : map (option_map as_value) is ≡ map (λ x. x.init) ss = cc in
    let a = and_parts (is_private_state s) (list_all is_private_state ss) h in
    let b = and_parts (fits_sort s.sort s.init) (list_all (λ x. fits_sort x.sort x.init) ss) f in
    and_from (is_private_initial s.sort i) _ (private_value s.sort i s.init first a.0 b.0) (privates_sorted ss more is behind a.1 b.1)

pub as_many : (ss : List StateDeclaration) (values : List (Option Value)) → map (option_map as_value) values ≡ map (λ s. s.init) ss → length values ≡ length (map state_entry ss)
as_many [] [] e = refl
as_many [] (x ∷ xs) e = cc
as_many (s ∷ ss) [] e = cc
as_many (s ∷ ss) (x ∷ xs) e =
    let behind : map (option_map as_value) xs ≡ map (λ y. y.init) ss = cc in
    omega (arith, as_many ss xs behind)

-- ---- states that may be updated

or_second : (a b : Bool) → b ≡ true → (a || b) ≡ true
or_second true b h = refl
or_second false b h = h

-- private states, at their place
pub states_inside : (p : Parts) (at : Option ℕ) (s : places.Scope) (ss : List StateDeclaration) → may_read p.children.items at s ≡ true → AreHomed p s (tops p) (length p.terms.names) (map state_entry ss) → AreStatesAt p at ss
states_inside p at s [] r h = tt
states_inside p at s (x ∷ ss) r h = (
  (λ k w n.
      and_from (nat_lt k (length p.terms.names)) _ (within k (length p.terms.names) w)
      (and_from (nat_lt k (length p.initial_values.items) || nat_le (tops p) k) _ (or_second (nat_lt k (length p.initial_values.items)) (nat_le (tops p) k) (at_most (tops p) k (h.1 k w n).0))
      (ap (λ m. may_read p.children.items at (home p m)) n ∙ (ap (may_read p.children.items at) h.0 ∙ r)))),
  states_inside p at s ss r h.2,
)

-- what may be updated around a child may be updated in it
pub states_around : (p : Parts) (k : ℕ) (at : Option ℕ) (ss : List StateDeclaration) → around p.children.items k ≡ at → is_child_nested p.children.items k ≡ true → AreStatesAt p at ss → AreStatesAt p (Some k) ss
states_around p k at [] e n a = tt
states_around p k at (x ∷ ss) e n a = (
  (λ j w q.
      let x = and_parts (nat_lt j (length p.terms.names)) _ (a.0 j w q) in
      let y = and_parts (nat_lt j (length p.initial_values.items) || nat_le (tops p) j) _ x.1 in
      and_from (nat_lt j (length p.terms.names)) _ x.0 (and_from (nat_lt j (length p.initial_values.items) || nat_le (tops p) j) _ y.0
      (read_inside p.children.items k at (home p (name_at p.terms.names j)) e n y.1))),
  states_around p k at ss e n a.1,
)

pub states_append : (p : Parts) (at : Option ℕ) (xs ys : List StateDeclaration) → AreStatesAt p at xs → AreStatesAt p at ys → AreStatesAt p at (xs ++ ys)
states_append p at [] ys a b = b
states_append p at (x ∷ xs) ys a b = (a.0, states_append p at xs ys a.1 b)

known_around : (p : Parts) (k : ℕ) (at : Option ℕ) (names : Entries Visible) → around p.children.items k ≡ at → is_child_nested p.children.items k ≡ true → AreKnownAt p at names → AreKnownAt p (Some k) names
known_around p k at names e n known = record { read = λ m v q. read_inside p.children.items k at _ e n (known.read m v q); sorted = known.sorted }

-- ---- places of children

around_there : (xs : List Child) (c : Child) (ys : List Child) → around (xs ++ c ∷ ys) (length xs) ≡ option_map (λ (i : ChildId). i.0) c.around
around_there [] c ys = refl
around_there (x ∷ xs) c ys = around_there xs c ys

mutual
  laid_length : (g : Graph) (scope : MachineScope) (at : Option ChildId) (k : ℕ) (is : WrittenInstructions) (xs : List Child) → AreLaid g scope at k is xs → length xs ≡ length (machines_below is)
  laid_length g scope at k no_instructions xs l = ap length l
  laid_length g scope at k (and_then (instruction n d u p) is) xs l =
      let a = child_length g scope at k p l.0 l.3 in
      let b = laid_length g scope at (k + length (machines_of_child p)) is l.1 l.4 in
      omega (arith, a, b, ap length l.2, length-append l.0 l.1, length-append (machines_of_child p) (machines_below is))

  child_length : (g : Graph) (scope : MachineScope) (at : Option ChildId) (k : ℕ) (p : WrittenChild) (xs : List Child) → IsLaidChild g scope at k p xs → length xs ≡ length (machines_of_child p)
  child_length g scope at k no_child xs l = ap length l
  child_length g scope at k (child steps (machine ss ds f v is)) xs l =
      let a = laid_length g (scope_within scope ss ds) (Some (record { 0 = k })) (suc k) is l.1 l.4 in
      omega (arith, a, ap length l.2)

same_self : (o : Option ℕ) → same_place o o ≡ true
same_self None = refl
same_self (Some a) = eq-eqb a a refl

abbrev pub place_of : Option ChildId → Option ℕ
place_of o = option_map (λ (i : ChildId). i.0) o

-- the links of the instructions
pub linked_at : (g : Graph) (scope : MachineScope) (at : Option ChildId) (k : ℕ) (is : WrittenInstructions) (before xs behind cs : List Child) → cs ≡ before ++ (xs ++ behind) → length before ≡ k → AreLaid g scope at k is xs → AreLinkedAt cs (place_of at) k is
linked_at g scope at k no_instructions before xs behind cs e l a = tt
linked_at g scope at k (and_then (instruction n d u p) is) before xs behind cs e l a =
    let ys = a.0 in
    let zs = a.1 in
    let cut : cs ≡ before ++ (ys ++ (zs ++ behind)) = e ∙ (ap (λ r. before ++ (r ++ behind)) a.2 ∙ ap (λ r. before ++ r) (append_assoc ys zs behind)) in
    let next : length (before ++ ys) ≡ k + length (machines_of_child p) = omega (arith, l, length-append before ys, child_length g scope at k p ys a.3) in
    (own p ys a.3 cut, linked_at g scope at (k + length (machines_of_child p)) is (before ++ ys) zs behind cs (cut ∙ sym (append_assoc before ys (zs ++ behind))) next a.4) where
      own : (p : WrittenChild) (ys : List Child) → IsLaidChild g scope at k p ys → cs ≡ before ++ (ys ++ (a.1 ++ behind)) → is_link cs (place_of at) k (link_from k p) ≡ true
      own no_child ys b cut = refl
      own (child steps m) ys b cut =
          let c = b.0 in
          let rest = b.1 ++ (a.1 ++ behind) in
          let list : cs ≡ before ++ c ∷ rest = cut ∙ ap (λ r. before ++ (r ++ (a.1 ++ behind))) b.2 in
          let there : around cs k ≡ place_of at = ap (λ r. around r k) list ∙ (ap (around (before ++ c ∷ rest)) (sym l) ∙ (around_there before c rest ∙ ap place_of b.3.around)) in
          let many : length cs ≡ length before + suc (length rest) = ap length list ∙ length-append before (c ∷ rest) in
          and_from (nat_le k k) _ (at_most k k (omega arith)) (and_from (nat_lt k (length cs)) _ (within k (length cs) (omega (arith, many, l))) (ap (λ o. same_place o (place_of at)) there ∙ same_self (place_of at)))

children_append : (p : Parts) (k : ℕ) (xs ys : List Child) → are_children p k xs ≡ true → are_children p (k + length xs) ys ≡ true → are_children p k (xs ++ ys) ≡ true
children_append p k [] ys a b = subst (λ j. are_children p j ys ≡ true) zero_more b where
  zero_more : k + 0 ≡ k
  zero_more = omega arith
children_append p k (x ∷ xs) ys a b =
    let parts = and_parts (is_child p k x) (are_children p (suc k) xs) a in
    let next : k + suc (length xs) ≡ suc k + length xs = omega arith in
    and_from (is_child p k x) (are_children p (suc k) (xs ++ ys)) parts.0 (children_append p (suc k) xs ys parts.1 (subst (λ j. are_children p j ys ≡ true) next b))

nested_more : (cs : List Child) (l : ℕ) (at : Option ℕ) → is_nested cs l at ≡ true → is_nested cs (suc l) at ≡ true
nested_more cs zero None h = refl
nested_more cs zero (Some c) h = absurd (false≢true h)
nested_more cs (suc l) None h = refl
nested_more cs (suc l) (Some c) h = nested_more cs l (around cs c) h

nested_to : (cs : List Child) (l m : ℕ) (at : Option ℕ) → l ≤ m → is_nested cs l at ≡ true → is_nested cs m at ≡ true
nested_to cs l zero at b h = subst (λ x. is_nested cs x at ≡ true) none h where
  none : l ≡ 0
  none = omega (arith, b)
nested_to cs l (suc m) at b h = by_test (nat_le l m) refl (λ c. nested_to cs l m at c h) where
  by_test : (x : Bool) → nat_le l m ≡ x → (l ≤ m → is_nested cs m at ≡ true) → is_nested cs (suc m) at ≡ true
  by_test true e rest = nested_more cs m at (rest (leb-true l m e))
  by_test false e rest =
      let top : l ≡ suc m = omega (arith, b, leb-false l m e) in
      subst (λ x. is_nested cs x at ≡ true) top h

-- ---- all of them

first_deep : (a b l : ℕ) → l + max a b ≤ 3 → l + a ≤ 3
first_deep a b l h = omega (arith, h)

rest_deep : (a b l : ℕ) → l + max a b ≤ 3 → l + b ≤ 3
rest_deep a b l h = omega (arith, h)

nested_child : (cs : List Child) (l k : ℕ) → l ≤ 3 → is_nested cs l (Some k) ≡ true → is_child_nested cs k ≡ true
unfolding is_child_nested nesting
nested_child cs l k b h = nested_to cs l 3 (Some k) b h

mutual
  -- the children of a machine that stands at a place, within so many levels
  pub children_at : (p : Parts) (scope : MachineScope) (at : Option ChildId) (level k : ℕ) (is : WrittenInstructions) (names : Entries Visible) (before xs behind : List Child)
      → IsTabled p → p.children.items ≡ before ++ (xs ++ behind) → length before ≡ k → AreLaid p.terms scope at k is xs → AreGood is
      → AreKnownAt p (place_of at) scope.names → AreStatesAt p (place_of at) scope.states → is_nested p.children.items level (place_of at) ≡ true → level + depth_below is ≤ 3
      → are_right (terms_below scope names is) ≡ true → are_children p k xs ≡ true
  children_at p scope at level k no_instructions names before xs behind t e l a g known states nest deep right = ap (are_children p k) a
  children_at p scope at level k (and_then (instruction n d u c) is) names before xs behind t e l a g known states nest deep right =
      let ys = a.0 in
      let zs = a.1 in
      let cut : p.children.items ≡ before ++ (ys ++ (zs ++ behind)) = e ∙ (ap (λ r. before ++ (r ++ behind)) a.2 ∙ ap (λ r. before ++ r) (append_assoc ys zs behind)) in
      let many = child_length p.terms scope at k c ys a.3 in
      let next : length (before ++ ys) ≡ k + length (machines_of_child c) = omega (arith, l, length-append before ys, many) in
      let parts = next_right scope names (instruction n d u c) is right in
      let own = child_at p scope at level k c before ys (zs ++ behind) t cut l a.3 g.0 known states nest (first_deep (depth_of_child c) (depth_below is) level deep) parts.0 in
      let rest = children_at p scope at level (k + length (machines_of_child c)) is names (before ++ ys) zs behind t (cut ∙ sym (append_assoc before ys (zs ++ behind))) next a.4 g.1 known states nest (rest_deep (depth_of_child c) (depth_below is) level deep) parts.1 in
      ap (are_children p k) a.2 ∙ children_append p k ys zs own (subst (λ j. are_children p (k + j) zs ≡ true) (sym many) rest)

  child_at : (p : Parts) (scope : MachineScope) (at : Option ChildId) (level k : ℕ) (w : WrittenChild) (before xs behind : List Child)
      → IsTabled p → p.children.items ≡ before ++ (xs ++ behind) → length before ≡ k → IsLaidChild p.terms scope at k w xs → IsGoodChild w
      → AreKnownAt p (place_of at) scope.names → AreStatesAt p (place_of at) scope.states → is_nested p.children.items level (place_of at) ≡ true → level + depth_of_child w ≤ 3
      → are_right (terms_of_child scope w) ≡ true → are_children p k xs ≡ true
  child_at p scope at level k no_child before xs behind t e l a g known states nest deep right = ap (are_children p k) a
  child_at p scope at level k (child steps (machine ss ds f v is)) before xs behind t e l a g known states nest deep right =
      let c = a.0 in
      let ys = a.1 in
      let own = a.3 in
      let good = g.0 in
      let w = machine ss ds f v is in
      let cs = p.children.items in
      let list : cs ≡ before ++ c ∷ (ys ++ behind) = e ∙ ap (λ r. before ++ (r ++ behind)) a.2 in
      let there : around cs k ≡ place_of at = ap (λ r. around r k) list ∙ (ap (around (before ++ c ∷ (ys ++ behind))) (sym l) ∙ (around_there before c (ys ++ behind) ∙ ap place_of own.around)) in
      let nest' : is_nested cs (suc level) (Some k) ≡ true = subst (λ o. is_nested cs level o ≡ true) (sym there) nest in
      let nested : is_child_nested cs k ≡ true = nested_child cs (suc level) k (omega (arith, deep)) nest' in
      let homed = subst (λ j. AreHomed p (Within j) (tops p) (length p.terms.names) (map state_entry ss)) l
      (child_homed p (map state_entry ss) own.declared.before own.declared.behind before c (ys ++ behind) t list own.declared.table own.declared.length_before (as_many ss c.initial_values.items own.values)) in
      let parts = machine_right scope ss ds f v is right in
      let here = known_states p (Some k) (Within k) (tops p) (length p.terms.names) scope.names ss (read_own cs k) homed (known_around p k (place_of at) scope.names there nested known) in
      let inside = known_definitions p (Some k) (with_states scope.names ss) ds here parts.0.definitions in
      let set = states_append p (Some k) scope.states ss (states_around p k (place_of at) scope.states there nested states) (states_inside p (Some k) (Within k) ss (read_own cs k) homed) in
      let around_it : length (before ++ c ∷ []) ≡ suc k = omega (arith, l, length-append before (c ∷ [])) in
      let list' : cs ≡ (before ++ c ∷ []) ++ (ys ++ behind) = list ∙ sym (append_assoc before (c ∷ []) (ys ++ behind)) in
      let links = linked_at p.terms (scope_within scope ss ds) (Some (record { 0 = k })) (suc k) is (before ++ c ∷ []) ys behind cs list' around_it a.4 in
      let rest = children_at p (scope_within scope ss ds) (Some (record { 0 = k })) (suc level) (suc k) is (with_fetch (with_definitions (with_states scope.names ss) ds) f) (before ++ c ∷ []) ys behind t list' around_it a.4 g.1 inside set nest' (omega (arith, deep)) parts.1 in
      let limit : is_limit c.steps ≡ true = ap is_limit own.limit ∙ and_from (nat_le 1 steps) (nat_le steps 4096) good.some good.limit in
      let privates : are_states true (drop c.first.0 p.terms.names) c.initial_values.items ≡ true =
      ap (λ j. are_states true (drop j p.terms.names) c.initial_values.items) (sym own.declared.length_before)
      ∙ (ap (λ ns. are_states true (drop (length own.declared.before) ns) c.initial_values.items) own.declared.table
      ∙ (ap (λ ns. are_states true ns c.initial_values.items) (drop_front own.declared.before (map state_entry ss ++ own.declared.behind))
      ∙ privates_sorted ss own.declared.behind c.initial_values.items own.values good.plain good.fitting)) in
      ap (are_children p k) a.2
      ∙ and_from (is_child p k c) (are_children p (suc k) ys)
      (and_from (is_limit c.steps) _ limit (and_from (is_child_nested cs k) _ nested (and_from (are_states true (drop c.first.0 p.terms.names) c.initial_values.items) (is_machine p (Some k) c.valid.0 c.instructions.items) privates
      (machine_at p (Some k) (with_states scope.names ss) (scope.states ++ ss) own.places (suc k) w c.valid c.instructions.items t.distinct here own.stand set parts.0 links own.own)))) rest
