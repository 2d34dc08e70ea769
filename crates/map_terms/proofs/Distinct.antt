-- States and inputs of a model have one name each.
use Rattle.std.proofs.Common.{◌≡◌, ◌∙◌, Bool, true, false, cond, refl, ap, sym, inl, inr, List, [], ◌∷◌, ◌++◌, map, Option, Some, None}
use Rattle.std.specs.Prelude.{◌||◌}
use Rattle.std.proofs.lemmas.Bool.{true≢false}
use Rattle.wb_values.specs.Value.{Name, same_name, Sort}
use Rattle.model_meaning.specs.Among.{is_name_in, has_twice}
use Rattle.model_meaning.specs.Model.{Model, Machine, machine, StateDeclaration, InputDeclaration, states_of, state_named}
use Rattle.model_meaning.specs.Invariant.{IsModel, state_names, all_machines, gathered}
use Rattle.refinement.specs.Map.{sort_of_state, sort_of_input}
use Rattle.verilog_unique.proofs.Descent.{IsAmong}
use Rattle.verilog_unique.proofs.Options.{same_is, is_same, first_false, second_false}

-- ---- parts of lists without a name twice

or_right : (a b : Bool) → b ≡ true → (a || b) ≡ true
or_right true b h = refl
or_right false b h = h

among_left : (xs ys : List Name) (n : Name) → is_name_in n (xs ++ ys) ≡ false → is_name_in n xs ≡ false
among_left [] ys n h = refl
among_left (x ∷ xs) ys n h = by (same_name n x) (among_left xs ys n) h
  where
    by : (t : Bool) → (is_name_in n (xs ++ ys) ≡ false → is_name_in n xs ≡ false) → (t || is_name_in n (xs ++ ys)) ≡ false → (t || is_name_in n xs) ≡ false
    by true f k = k
    by false f k = f k

once_left : (xs ys : List Name) → has_twice (xs ++ ys) ≡ false → has_twice xs ≡ false
once_left [] ys h = refl
once_left (x ∷ xs) ys h =
    both (is_name_in x xs) (has_twice xs) (among_left xs ys x (first_false (is_name_in x (xs ++ ys)) (has_twice (xs ++ ys)) h))
    (once_left xs ys (second_false (is_name_in x (xs ++ ys)) (has_twice (xs ++ ys)) h))
  where
    both : (a b : Bool) → a ≡ false → b ≡ false → (a || b) ≡ false
    both a b e f = ap (λ c. c || b) e ∙ f

once_right : (xs ys : List Name) → has_twice (xs ++ ys) ≡ false → has_twice ys ≡ false
once_right [] ys h = h
once_right (x ∷ xs) ys h = once_right xs ys (second_false (is_name_in x (xs ++ ys)) (has_twice (xs ++ ys)) h)

-- ---- the first of a name is the one

module _ {A : Type 0} (f : A → Name) where
  is_in : (xs : List A) (x : A) → IsAmong xs x → is_name_in (f x) (map f xs) ≡ true
  is_in [] x h = absurd h
  is_in (y ∷ xs) x (inl e) = ap (λ z. same_name (f x) (f z) || is_name_in (f x) (map f xs)) e ∙ ap (λ t. t || is_name_in (f x) (map f xs)) (is_same (f x))
  is_in (y ∷ xs) x (inr h) = or_right (same_name (f x) (f y)) (is_name_in (f x) (map f xs)) (is_in xs x h)

  abbrev pub first_of_name : List A → Name → Option A
  first_of_name [] n = None
  first_of_name (x ∷ xs) n = cond (same_name (f x) n) (Some x) (first_of_name xs n)

  is_first : (xs : List A) → has_twice (map f xs) ≡ false → (x : A) → IsAmong xs x → first_of_name xs (f x) ≡ Some x
  is_first [] h x k = absurd k
  is_first (y ∷ xs) h x (inl e) = ap (λ z. cond (same_name (f z) (f x)) (Some z) (first_of_name xs (f x))) e ∙ ap (λ t. cond t (Some x) (first_of_name xs (f x))) (is_same (f x))
  is_first (y ∷ xs) h x (inr k) =
      by (same_name (f y) (f x)) refl (is_first xs (second_false (is_name_in (f y) (map f xs)) (has_twice (map f xs)) h) x k)
    where
      by : (t : Bool) → same_name (f y) (f x) ≡ t → first_of_name xs (f x) ≡ Some x → cond t (Some y) (first_of_name xs (f x)) ≡ Some x
      by false e g = g
      by true e g =
          absurd (true≢false (sym (is_in xs x k) ∙ ap (λ n. is_name_in n (map f xs)) (sym (same_is (f y) (f x) e))
          ∙ first_false (is_name_in (f y) (map f xs)) (has_twice (map f xs)) h))

state_first : (ss : List StateDeclaration) (n : Name) → state_named ss n ≡ first_of_name (λ (s : StateDeclaration). s.state_name) ss n
state_first [] n = refl
state_first (s ∷ ss) n = ap (cond (same_name s.state_name n) (Some s)) (state_first ss n)

abbrev input_sort_of : Option InputDeclaration → Option Sort
input_sort_of None = None
input_sort_of (Some i) = Some i.sort

input_first : (is : List InputDeclaration) (n : Name) → sort_of_input is n ≡ input_sort_of (first_of_name (λ (i : InputDeclaration). i.input_name) is n)
input_first [] n = refl
input_first (i ∷ is) n = by (same_name i.input_name n) (input_first is n)
  where
    by : (t : Bool) → sort_of_input is n ≡ input_sort_of (first_of_name (λ (i : InputDeclaration). i.input_name) is n)
        → cond t (Some i.sort) (sort_of_input is n) ≡ input_sort_of (cond t (Some i) (first_of_name (λ (i : InputDeclaration). i.input_name) is n))
    by true h = refl
    by false h = h

-- ---- in a model

states_once : (xs : List Name) (t : Machine) → has_twice (xs ++ gathered state_names (all_machines t)) ≡ false → has_twice (state_names t) ≡ false
states_once xs (machine ss valid is) h = once_left (map (λ (s : StateDeclaration). s.state_name) ss) _ (once_right xs _ h)

pub state_sort : (m : Model) → IsModel m → (d : StateDeclaration) → IsAmong (states_of m.top) d → sort_of_state (state_named (states_of m.top) d.state_name) ≡ Some d.sort
state_sort m kept d h =
    ap sort_of_state (state_first (states_of m.top) d.state_name
    ∙ is_first (λ (s : StateDeclaration). s.state_name) (states_of m.top) (states_once (map (λ i. i.input_name) m.inputs) m.top kept.distinct_names) d h)

pub input_sort : (m : Model) → IsModel m → (i : InputDeclaration) → IsAmong m.inputs i → sort_of_input m.inputs i.input_name ≡ Some i.sort
input_sort m kept i h =
    input_first m.inputs i.input_name
    ∙ ap input_sort_of (is_first (λ (j : InputDeclaration). j.input_name) m.inputs (once_left (map (λ j. j.input_name) m.inputs) _ kept.distinct_names) i h)
