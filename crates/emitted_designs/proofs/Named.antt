-- States and inputs by their names: what an emitted map has for them, and that no input has the name of a state.
use Rattle.std.proofs.Common.{◌≡◌, Bool, true, false, cond, ◌||◌, List, [], ◌∷◌, ◌++◌, map, Option, Some, None, refl, sym, ◌∙◌, ap, subst}
use Rattle.std.proofs.lemmas.Bool.{false≢true, or_parts}
use Rattle.std.proofs.lemmas.Slice.Eq.{bytes_eq-Decides}
use Rattle.wb_values.specs.Value.{Name, same_name, Entries, entry_of}
use Rattle.model_meaning.specs.Among.{is_name_in, has_twice}
use Rattle.model_meaning.specs.Model.{Model, Machine, machine, StateDeclaration, InputDeclaration, states_of, state_named, is_input_name}
use Rattle.model_meaning.specs.Invariant.{all_machines, program_machines, gathered, state_names, IsModel}
use Rattle.verilog_trees.specs.Syntax.{Expression}
use Rattle.verilog_meaning.specs.Settled.{whole_name}
use Rattle.reports.specs.Report.{is_before}
use Rattle.emitted_designs.specs.Map.{with_key, in_byte_order, by_their_names}
use Rattle.emitted_designs.specs.Module.{all_states}

pub same_if : (k n : Name) → same_name k n ≡ true → k ≡ n
same_if k n e = (bytes_eq-Decides k n).0 e

pub same_of : (k n : Name) → k ≡ n → same_name k n ≡ true
same_of k n e = (bytes_eq-Decides k n).1 e

-- ---- entries

abbrev IsEntry : Entries Expression → Name → Type 0
IsEntry es n = entry_of es n ≡ Some (whole_name n)

head_or_rest : (j n : Name) (rest : Option Expression) → rest ≡ Some (whole_name n)
    → cond (same_name j n) (Some (whole_name j)) rest ≡ Some (whole_name n)
head_or_rest j n rest e = by_test (same_name j n) refl
  where
    by_test : (b : Bool) → same_name j n ≡ b → cond b (Some (whole_name j)) rest ≡ Some (whole_name n)
    by_test true same = ap (λ k. Some (whole_name k)) (same_if j n same)
    by_test false other = e

at_head : (j n : Name) (rest : Option Expression) → same_name j n ≡ true → cond (same_name j n) (Some (whole_name j)) rest ≡ Some (whole_name n)
at_head j n rest same =
    ap (λ b. cond b (Some (whole_name j)) rest) same ∙ ap (λ k. Some (whole_name k)) (same_if j n same)

-- the entry under a head that may have the name itself
after_head : (j n : Name) (ks ls : List Name) → (IsEntry (by_their_names ks) n → IsEntry (by_their_names ls) n)
    → IsEntry (by_their_names (j ∷ ks)) n → IsEntry (by_their_names (j ∷ ls)) n
after_head j n ks ls more e = by_test (same_name j n) refl e
  where
    by_test : (b : Bool) → same_name j n ≡ b → cond b (Some (whole_name j)) (entry_of (by_their_names ks) n) ≡ Some (whole_name n)
        → cond b (Some (whole_name j)) (entry_of (by_their_names ls) n) ≡ Some (whole_name n)
    by_test true same f = ap (λ k. Some (whole_name k)) (same_if j n same)
    by_test false other f = more f

kept_entry : (k n : Name) (ks : List Name) → IsEntry (by_their_names ks) n → IsEntry (by_their_names (with_key k ks)) n
kept_entry k n [] e = head_or_rest k n None e
kept_entry k n (j ∷ ks) e = by_test (after_head j n ks (with_key k ks) (λ f. kept_entry k n ks f) e) (is_before k j)
  where
    by_test : IsEntry (by_their_names (j ∷ with_key k ks)) n → (b : Bool) → IsEntry (by_their_names (cond b (k ∷ j ∷ ks) (j ∷ with_key k ks))) n
    by_test rest true = head_or_rest k n (entry_of (by_their_names (j ∷ ks)) n) e
    by_test rest false = rest

new_entry : (k n : Name) (ks : List Name) → same_name k n ≡ true → IsEntry (by_their_names (with_key k ks)) n
new_entry k n [] same = at_head k n None same
new_entry k n (j ∷ ks) same = by_test (head_or_rest j n (entry_of (by_their_names (with_key k ks)) n) (new_entry k n ks same)) (is_before k j)
  where
    by_test : IsEntry (by_their_names (j ∷ with_key k ks)) n → (b : Bool) → IsEntry (by_their_names (cond b (k ∷ j ∷ ks) (j ∷ with_key k ks))) n
    by_test rest true = at_head k n (entry_of (by_their_names (j ∷ ks)) n) same
    by_test rest false = rest

-- A state stands in the map under its name.
pub state_entry : (ss : List StateDeclaration) (n : Name) (d : StateDeclaration) → state_named ss n ≡ Some d
    → entry_of (by_their_names (in_byte_order (map (λ s. s.state_name) ss))) n ≡ Some (whole_name n)
state_entry [] n d e = cc
state_entry (s ∷ ss) n d e = by_test (λ f. state_entry ss n d f) (same_name s.state_name n) refl e
  where
    by_test : (state_named ss n ≡ Some d → IsEntry (by_their_names (in_byte_order (map (λ t. t.state_name) ss))) n) → (b : Bool)
        → same_name s.state_name n ≡ b
        → cond b (Some s) (state_named ss n) ≡ Some d → IsEntry (by_their_names (with_key s.state_name (in_byte_order (map (λ t. t.state_name) ss)))) n
    by_test more true same f = new_entry s.state_name n (in_byte_order (map (λ t. t.state_name) ss)) same
    by_test more false other f = kept_entry s.state_name n (in_byte_order (map (λ t. t.state_name) ss)) (more f)

-- ---- all states

first_found : (xs ys : List StateDeclaration) (n : Name) (d : StateDeclaration) → state_named xs n ≡ Some d → state_named (xs ++ ys) n ≡ Some d
first_found [] ys n d e = cc
first_found (x ∷ xs) ys n d e = by_test (λ f. first_found xs ys n d f) (same_name x.state_name n) e
  where
    by_test : (state_named xs n ≡ Some d → state_named (xs ++ ys) n ≡ Some d) → (b : Bool) → cond b (Some x) (state_named xs n) ≡ Some d
        → cond b (Some x) (state_named (xs ++ ys) n) ≡ Some d
    by_test more true f = f
    by_test more false f = more f

found_in_machine : (top : Machine) (n : Name) (d : StateDeclaration) → state_named (states_of top) n ≡ Some d
    → state_named (gathered states_of (all_machines top)) n ≡ Some d
found_in_machine (machine states valid is) n d e = first_found states (gathered states_of (program_machines is)) n d e

-- A state of the model is among all states.
pub found_among_all : (m : Model) (n : Name) (d : StateDeclaration) → state_named (states_of m.top) n ≡ Some d → state_named (all_states m) n ≡ Some d
found_among_all m n d e = found_in_machine m.top n d e

-- ---- inputs

or_second : (a b : Bool) → b ≡ true → (a || b) ≡ true
or_second true b e = refl
or_second false b e = e

or_more : (a b c : Bool) → (b ≡ true → c ≡ true) → (a || b) ≡ true → (a || c) ≡ true
or_more true b c more e = refl
or_more false b c more e = more e

pub in_either : (n : Name) (xs ys : List Name) → is_name_in n ys ≡ true → is_name_in n (xs ++ ys) ≡ true
in_either n [] ys e = e
in_either n (x ∷ xs) ys e = or_second (same_name n x) (is_name_in n (xs ++ ys)) (in_either n xs ys e)

pub in_front : (n : Name) (xs ys : List Name) → is_name_in n xs ≡ true → is_name_in n (xs ++ ys) ≡ true
in_front n [] ys e = absurd (false≢true e)
in_front n (x ∷ xs) ys e = or_more (same_name n x) (is_name_in n xs) (is_name_in n (xs ++ ys)) (λ f. in_front n xs ys f) e

named_in : (ss : List StateDeclaration) (n : Name) (d : StateDeclaration) → state_named ss n ≡ Some d → is_name_in n (map (λ s. s.state_name) ss) ≡ true
named_in [] n d e = cc
named_in (s ∷ ss) n d e = by_test (λ f. named_in ss n d f) (same_name s.state_name n) refl e
  where
    by_test : (state_named ss n ≡ Some d → is_name_in n (map (λ t. t.state_name) ss) ≡ true) → (b : Bool) → same_name s.state_name n ≡ b
        → cond b (Some s) (state_named ss n) ≡ Some d → (same_name n s.state_name || is_name_in n (map (λ t. t.state_name) ss)) ≡ true
    by_test more true same f =
        ap (λ b. b || is_name_in n (map (λ t. t.state_name) ss)) (same_of n s.state_name (sym (same_if s.state_name n same)))
    by_test more false other f = or_second (same_name n s.state_name) (is_name_in n (map (λ t. t.state_name) ss)) (more f)

in_machine : (top : Machine) (n : Name) (d : StateDeclaration) → state_named (states_of top) n ≡ Some d
    → is_name_in n (gathered state_names (all_machines top)) ≡ true
in_machine (machine states valid is) n d e =
    in_front n (map (λ s. s.state_name) states) (gathered state_names (program_machines is)) (named_in states n d e)

distinct : (is : List InputDeclaration) (rest : List Name) (n : Name) → has_twice (map (λ i. i.input_name) is ++ rest) ≡ false
    → is_name_in n rest ≡ true
    → is_input_name is n ≡ false
distinct [] rest n h e = refl
distinct (i ∷ is) rest n h e = by_test (distinct is rest n parts.1 e) (same_name i.input_name n) refl
  where
    parts : (is_name_in i.input_name (map (λ j. j.input_name) is ++ rest) ≡ false) × (has_twice (map (λ j. j.input_name) is ++ rest) ≡ false)
    parts = or_parts (is_name_in i.input_name (map (λ j. j.input_name) is ++ rest)) (has_twice (map (λ j. j.input_name) is ++ rest)) h

    by_test : is_input_name is n ≡ false → (b : Bool) → same_name i.input_name n ≡ b → cond b true (is_input_name is n) ≡ false
    by_test more true same =
        absurd
        (false≢true
        (sym parts.0
        ∙ in_either i.input_name (map (λ j. j.input_name) is) rest
        (subst (λ k. is_name_in k rest ≡ true) (sym (same_if i.input_name n same)) e)))
    by_test more false other = more

-- No input has the name of a state.
pub no_input : (m : Model) (n : Name) (d : StateDeclaration) → IsModel m → state_named (states_of m.top) n ≡ Some d → is_input_name m.inputs n ≡ false
no_input m n d is_model e =
    distinct m.inputs (gathered state_names (all_machines m.top)) n is_model.distinct_names (in_machine m.top n d e)
