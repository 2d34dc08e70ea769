-- What the rules and the shape say of a model, part by part.
use Rattle.std.proofs.Common.{◌≡◌, true, false, not, List, [], ◌∷◌, ◌++◌, map, None, refl, ap, ◌∙◌}
use Rattle.std.specs.Prelude.{is_some}
use Rattle.std.specs.List.{list_all}
use Rattle.std.proofs.lemmas.Bool.{and_parts, and_from, leb-true}
use Rattle.model_meaning.specs.Term.{is_sort}
use Rattle.model_meaning.specs.Model.{StateDeclaration, InputDeclaration}
use Rattle.model_files.specs.Written.{instruction, WrittenInstructions, no_instructions, and_then, WrittenMachine, machine, WrittenChild, no_child, child, WrittenModel, states_in, machines_in}
use Rattle.model_meaning.specs.Among.{has_twice}
use Rattle.model_files.specs.Names.{data_names, joined, all_data_names, all_instruction_names}
use Rattle.model_files.specs.Scope.{PlacedTerm, all_terms}
use Rattle.model_meaning.specs.Term.{is_memory_sort}
use Rattle.model_files.specs.Rules.{has_state_widths, has_fitting_initial_values, has_fitting_constants}
use Rattle.model_files.specs.Meaning.{broken_rule}
use Rattle.ila_build.specs.Knowing.{defined_names}
use Rattle.ila_build.specs.Declaring.{state_entry, input_entry}
use Rattle.ila_build.specs.Building.{definitions_in, own_instructions}
use Rattle.ila_build.specs.Refusing.{AreFitBelow, IsFitChild, are_sorts, entry_names, names_below}
use Rattle.ila_build.proofs.Sorting.{or_parts}
use Rattle.ila_build.proofs.ChildDue.{data_names_are}
use Rattle.ila_whole.specs.Shaped.{is_top_state, is_private_state, is_plain_input, has_private_states, machines_inside, is_shaped}
use Rattle.ila_whole.proofs.Unbroken.{unbroken, not_false, all_right, not_too_deep}
use Rattle.ila_whole.proofs.Children.{AreGood, IsGoodChild, are_good}
use Rattle.ila_whole.proofs.Top.{IsSound}

pub sound : (m : WrittenModel) → broken_rule m ≡ None → is_shaped m ≡ true → IsSound m.inputs m.top
sound m h shape =
    let u = unbroken m h in
    let widths = and_parts (list_all (λ (i : InputDeclaration). is_sort i.sort) m.inputs) _ (not_false _ u.widths) in
    let machines = and_parts (list_all has_state_widths (machines_in m.top)) _ widths.1 in
    let fitting = and_parts (list_all has_fitting_initial_values (machines_in m.top)) (list_all (λ (p : PlacedTerm). has_fitting_constants p.written) (all_terms m)) (not_false _ u.fitting) in
    let a = and_parts (list_all is_plain_input m.inputs) _ shape in
    let b = and_parts (list_all is_top_state (states_in m.top)) (list_all has_private_states (machines_inside m.top)) a.1 in
    record {
      right = all_right m h;
      deep = not_too_deep m h;
      widths = machines.0;
      fitting = fitting.0;
      limits = not_false _ u.steps;
      inputs = a.0;
      states = b.0;
      privates = b.1;
    }

state_sorts : (ss : List StateDeclaration) → list_all (λ s. is_sort s.sort) ss ≡ true → are_sorts (map state_entry ss) ≡ true
state_sorts [] h = refl
state_sorts (s ∷ ss) h =
    let parts = and_parts (is_sort s.sort) (list_all (λ x. is_sort x.sort) ss) h in
    and_from (is_sort s.sort) (are_sorts (map state_entry ss)) parts.0 (state_sorts ss parts.1)

input_sorts : (is : List InputDeclaration) → list_all (λ i. is_sort i.sort) is ≡ true → are_sorts (map input_entry is) ≡ true
input_sorts [] h = refl
input_sorts (i ∷ is) h =
    let parts = and_parts (is_sort i.sort) (list_all (λ x. is_sort x.sort) is) h in
    and_from (is_sort i.sort) (are_sorts (map input_entry is)) parts.0 (input_sorts is parts.1)

private_values : (ss : List StateDeclaration) → list_all is_private_state ss ≡ true → list_all (λ s. is_some s.init) ss ≡ true
private_values [] h = refl
private_values (s ∷ ss) h =
    let parts = and_parts (is_private_state s) (list_all is_private_state ss) h in
    and_from (is_some s.init) (list_all (λ x. is_some x.init) ss) (and_parts (not (is_memory_sort s.sort)) (is_some s.init) parts.0).1 (private_values ss parts.1)

first_of_all : (ms : List WrittenMachine) (m : WrittenMachine) → list_all has_state_widths (m ∷ ms) ≡ true → has_state_widths m ≡ true
first_of_all ms m h = (and_parts (has_state_widths m) (list_all has_state_widths ms) h).0

top_widths : (m : WrittenMachine) → list_all has_state_widths (machines_in m) ≡ true → has_state_widths m ≡ true
top_widths (machine ss ds f v is) h = (and_parts (has_state_widths (machine ss ds f v is)) _ h).0

-- the declarations of the top
pub top_sorts : (m : WrittenModel) → broken_rule m ≡ None → (are_sorts (map state_entry (states_in m.top)) ≡ true) × (are_sorts (map input_entry m.inputs) ≡ true)
top_sorts m h =
    let u = unbroken m h in
    let widths = and_parts (list_all (λ (i : InputDeclaration). is_sort i.sort) m.inputs) _ (not_false _ u.widths) in
    let machines = and_parts (list_all has_state_widths (machines_in m.top)) _ widths.1 in
    (state_sorts (states_in m.top) (top_widths m.top machines.0), input_sorts m.inputs widths.0)

-- ---- child programs

mutual
  fit_below : (is : WrittenInstructions) → AreGood is → AreFitBelow is
  fit_below no_instructions g = tt
  fit_below (and_then (instruction n d u p) is) g = (fit_child p g.0, fit_below is g.1)

  fit_child : (p : WrittenChild) → IsGoodChild p → IsFitChild p
  fit_child no_child g = tt
  fit_child (child steps (machine ss ds f v is)) g =
      (record { sorts = state_sorts ss g.0.widths; values = private_values ss g.0.plain; limit = leb-true steps 4096 g.0.limit }, fit_below is g.1)

pub top_fit : (ins : List InputDeclaration) (m : WrittenMachine) → IsSound ins m → AreFitBelow (own_instructions m)
top_fit ins (machine ss ds f v is) s =
    let m = machine ss ds f v is in
    let widths = and_parts (has_state_widths m) _ s.widths in
    let fitting = and_parts (has_fitting_initial_values m) _ s.fitting in
    fit_below is (are_good is widths.1 s.privates fitting.1 s.limits)

-- ---- names

input_names : (is : List InputDeclaration) → map (λ i. i.input_name) is ≡ entry_names (map input_entry is)
input_names [] = refl
input_names (i ∷ is) = ap (λ ns. i.input_name ∷ ns) (input_names is)

machine_names : (m : WrittenMachine) → joined (map data_names (machines_in m)) ≡ (entry_names (map state_entry (states_in m)) ++ defined_names (definitions_in m)) ++ names_below (own_instructions m)
machine_names (machine ss ds f v is) = ap (λ ns. ns ++ names_below is) (data_names_are (machine ss ds f v is))

-- the names of a file, by where they are declared
pub file_names : (m : WrittenModel) → all_data_names m ≡ entry_names (map input_entry m.inputs) ++ ((entry_names (map state_entry (states_in m.top)) ++ defined_names (definitions_in m.top)) ++ names_below (own_instructions m.top))
file_names m = ap (λ ns. ns ++ joined (map data_names (machines_in m.top))) (input_names m.inputs) ∙ ap (λ ns. entry_names (map input_entry m.inputs) ++ ns) (machine_names m.top)

pub names_apart : (m : WrittenModel) → broken_rule m ≡ None → has_twice (all_data_names m) ≡ false
names_apart m h = (or_parts (has_twice (all_data_names m)) (has_twice (all_instruction_names m)) (unbroken m h).apart).0
