-- Names that stand once in lists, and what entries say of them.
use Rattle.std.proofs.Common.{◌≡◌, ◌∙◌, ℕ, suc, Bool, true, false, cond, List, [], ◌∷◌, ◌++◌, map, slice_get, inl, inr, Some, refl, sym, ap, subst}
use Rattle.std.specs.Prelude.{◌||◌}
use Rattle.std.specs.List.{list_all}
use Rattle.std.proofs.lemmas.Bool.{false≢true, and_parts}
use Rattle.wb_values.specs.Value.{Name, same_name, Sort}
use Rattle.model_meaning.specs.Among.{is_name_in, has_twice}
use Rattle.model_meaning.specs.Model.{StateDeclaration, InputDeclaration, state_named}
use Rattle.verilog_unique.proofs.Options.{same_is, is_same, first_false, second_false}
use Rattle.verilog_unique.proofs.Descent.{IsAmong}
use Rattle.refinement.specs.Map.{sort_of_input}

or_false : (a b : Bool) → a ≡ false → b ≡ false → (a || b) ≡ false
or_false true b h k = absurd (false≢true (sym h))
or_false false b h k = k

-- ---- names that stand once

in_left : (n : Name) (xs ys : List Name) → is_name_in n (xs ++ ys) ≡ false → is_name_in n xs ≡ false
in_left n [] ys h = refl
in_left n (x ∷ xs) ys h =
    or_false (same_name n x) (is_name_in n xs) (first_false (same_name n x) (is_name_in n (xs ++ ys)) h)
    (in_left n xs ys (second_false (same_name n x) (is_name_in n (xs ++ ys)) h))

pub once_left : (xs ys : List Name) → has_twice (xs ++ ys) ≡ false → has_twice xs ≡ false
once_left [] ys h = refl
once_left (x ∷ xs) ys h =
    or_false (is_name_in x xs) (has_twice xs) (in_left x xs ys (first_false (is_name_in x (xs ++ ys)) (has_twice (xs ++ ys)) h))
    (once_left xs ys (second_false (is_name_in x (xs ++ ys)) (has_twice (xs ++ ys)) h))

pub once_right : (xs ys : List Name) → has_twice (xs ++ ys) ≡ false → has_twice ys ≡ false
once_right [] ys h = h
once_right (x ∷ xs) ys h = once_right xs ys (second_false (is_name_in x (xs ++ ys)) (has_twice (xs ++ ys)) h)

-- a name that is among others is found there
pub found : (n : Name) (xs : List Name) → IsAmong xs n → is_name_in n xs ≡ true
found n [] h = absurd h
found n (x ∷ xs) (inl e) = ap (λ m. same_name n m || is_name_in n xs) e ∙ ap (λ b. b || is_name_in n xs) (is_same n)
found n (x ∷ xs) (inr h) = by (same_name n x) (found n xs h)
  where
    by : (b : Bool) → is_name_in n xs ≡ true → (b || is_name_in n xs) ≡ true
    by true k = refl
    by false k = k

-- one that is found is among them
pub is_there : (n : Name) (xs : List Name) → is_name_in n xs ≡ true → IsAmong xs n
is_there n [] h = absurd (false≢true h)
is_there n (x ∷ xs) h = by (same_name n x) refl h (is_there n xs)
  where
    by : (b : Bool) → same_name n x ≡ b → (b || is_name_in n xs) ≡ true → (is_name_in n xs ≡ true → IsAmong xs n) → IsAmong (x ∷ xs) n
    by true e k later = inl (sym (same_is n x e))
    by false e k later = inr (later k)

-- each of these names is found among those
pub all_found : (these those : List Name) → list_all (λ n. is_name_in n those) these ≡ true → (n : Name) → IsAmong these n → is_name_in n those ≡ true
all_found [] those h n a = absurd a
all_found (x ∷ these) those h n (inl e) = ap (λ m. is_name_in m those) (sym e) ∙ (and_parts (is_name_in x those) (list_all (λ n. is_name_in n those) these) h).0
all_found (x ∷ these) those h n (inr a) = all_found these those (and_parts (is_name_in x those) (list_all (λ n. is_name_in n those) these) h).1 n a

-- an element under a function
pub among_map : {A B : Type 0} (f : A → B) (xs : List A) (x : A) → IsAmong xs x → IsAmong (map f xs) (f x)
among_map f [] x h = absurd h
among_map f (y ∷ ys) x (inl e) = inl (ap f e)
among_map f (y ∷ ys) x (inr h) = inr (among_map f ys x h)

pub among_at : {A : Type 0} (xs : List A) (x : A) → IsAmong xs x → (k : ℕ) × (slice_get xs k ≡ Some x)
among_at [] x h = absurd h
among_at (y ∷ ys) x (inl e) = (0, ap Some e)
among_at (y ∷ ys) x (inr h) = let r = among_at ys x h in (suc r.0, r.1)

not_same : (n m : Name) (b : Bool) → same_name n m ≡ b → (n ≡ m → ⊥) → b ≡ false
not_same n m true e h = absurd (h (same_is n m e))
not_same n m false e h = refl

apart : (x n : Name) (xs : List Name) → is_name_in x xs ≡ false → IsAmong xs n → same_name x n ≡ false
apart x n xs h a = not_same x n (same_name x n) refl (λ e. false≢true (sym h ∙ found x xs (subst (IsAmong xs) (sym e) a)))

-- ---- sorts of declarations

-- a state that is declared once is found with its sort
pub state_found : (ss : List StateDeclaration) → has_twice (map (λ s. s.state_name) ss) ≡ false → (n : Name) (t : Sort)
    → IsAmong {A = Name × Sort} (map (λ (s : StateDeclaration). (s.state_name, s.sort)) ss) (n, t)
    → (q : StateDeclaration) × (state_named ss n ≡ Some q) × (q.sort ≡ t) × IsAmong ss q × (q.state_name ≡ n)
state_found [] once n t h = absurd h
state_found (s ∷ ss) once n t (inl e) =
    let named : s.state_name ≡ n = ap (λ (x : Name × Sort). x.0) e in (
      s,
      ap (λ m. cond (same_name s.state_name m) (Some s) (state_named ss m)) (sym named) ∙ ap (λ b. cond b (Some s) (state_named ss s.state_name)) (is_same s.state_name),
      ap (λ (x : Name × Sort). x.1) e,
      inl refl,
      named,
    )
state_found (s ∷ ss) once n t (inr h) =
    let names = map (λ (q : StateDeclaration). q.state_name) ss in
    let r = state_found ss (second_false (is_name_in s.state_name names) (has_twice names) once) n t h in
    let there : IsAmong names n = subst (IsAmong names) r.4 (among_map (λ (q : StateDeclaration). q.state_name) ss r.0 r.3) in
    let other = apart s.state_name n names (first_false (is_name_in s.state_name names) (has_twice names) once) there in
    (r.0, ap (λ b. cond b (Some s) (state_named ss n)) other ∙ r.1, r.2, inr r.3, r.4)

-- so is an input
pub input_found : (is : List InputDeclaration) → has_twice (map (λ i. i.input_name) is) ≡ false → (n : Name) (t : Sort)
    → IsAmong {A = Name × Sort} (map (λ (i : InputDeclaration). (i.input_name, i.sort)) is) (n, t)
    → (sort_of_input is n ≡ Some t) × IsAmong (map (λ (i : InputDeclaration). i.input_name) is) n
input_found [] once n t h = absurd h
input_found (i ∷ is) once n t (inl e) =
    let named : i.input_name ≡ n = ap (λ (x : Name × Sort). x.0) e in (
      ap (λ m. cond (same_name i.input_name m) (Some i.sort) (sort_of_input is m)) (sym named)
          ∙ (ap (λ b. cond b (Some i.sort) (sort_of_input is i.input_name)) (is_same i.input_name) ∙ ap (λ (x : Name × Sort). Some x.1) e),
      inl named,
    )
input_found (i ∷ is) once n t (inr h) =
    let names = map (λ (q : InputDeclaration). q.input_name) is in
    let r = input_found is (second_false (is_name_in i.input_name names) (has_twice names) once) n t h in
    let other = apart i.input_name n names (first_false (is_name_in i.input_name names) (has_twice names) once) r.1 in
    (ap (λ b. cond b (Some i.sort) (sort_of_input is n)) other ∙ r.0, inr r.1)
