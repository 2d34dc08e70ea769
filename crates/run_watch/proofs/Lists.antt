-- Elements of lists, and the conditions of a map among all of them.
use Rattle.std.proofs.Common.{◌≡◌, ◌∙◌, ℕ, zero, suc, ◌+◌, ◌<◌, List, [], ◌∷◌, ◌++◌, length, get_or, map, All, slice_get, Some, None, refl, sym, ap, subst, arith}
use Rattle.std.specs.Prelude.{IsTrue}
use Rattle.std.proofs.lemmas.List.{length-append, get_or_append_left, get_or-append-add}
use Rattle.wb_values.specs.Value.{truth}
use Rattle.v_design.specs.Parts.{is_term_of}
use Rattle.mapped_designs.specs.Mapped.{Mapped, MappedInstruction, conditions_of}

pub some_same : {A : Type 0} {x y : A} → Some x ≡ Some y → x ≡ y
some_same e = cc

pub none_there : {A : Type 0} {x : A} → None ≡ Some x → ⊥
none_there e = cc

pub get_is : {A : Type 0} (xs : List A) (k : ℕ) (d : A) → k < length xs → slice_get xs k ≡ Some (get_or xs k d)
get_is [] k d l = absurd (omega (arith, l))
get_is (x ∷ xs) zero d l = refl
get_is (x ∷ xs) (suc k) d l = get_is xs k d (omega (arith, l))

pub get_within : {A : Type 0} (xs : List A) (k : ℕ) (x : A) → slice_get xs k ≡ Some x → k < length xs
get_within [] k x e = absurd (none_there e)
get_within (y ∷ ys) zero x e = omega arith
get_within (y ∷ ys) (suc k) x e = let l = get_within ys k x e in omega (arith, l)

pub get_same : {A : Type 0} (xs : List A) (k : ℕ) (x d : A) → slice_get xs k ≡ Some x → get_or xs k d ≡ x
get_same [] k x d e = absurd (none_there e)
get_same (y ∷ ys) zero x d e = some_same e
get_same (y ∷ ys) (suc k) x d e = get_same ys k x d e

pub mapped_at : {A B : Type 0} (f : A → B) (xs : List A) (k : ℕ) (x : A) → slice_get xs k ≡ Some x → slice_get (map f xs) k ≡ Some (f x)
mapped_at f [] k x e = absurd (none_there e)
mapped_at f (y ∷ ys) zero x e = ap (λ (z : _). Some (f z)) (some_same e)
mapped_at f (y ∷ ys) (suc k) x e = mapped_at f ys k x e

-- an element that the code has read at a place
pub read_at : {A : Type 0} (xs : List A) (k : ℕ) (x : A) → k < length xs → x ≡ get_or xs k x → slice_get xs k ≡ Some x
read_at xs k x l e = get_is xs k x l ∙ ap Some (sym e)

-- ---- conditions

all_at : {A : Type 0} (P : A → Type 0) (xs : List A) (k : ℕ) (x : A) → All P xs → slice_get xs k ≡ Some x → P x
all_at P xs k x h e = subst P (get_same xs k x x e) (h k x (get_within xs k x e))

all_left : {A : Type 0} (P : A → Type 0) (xs ys : List A) → All P (xs ++ ys) → All P xs
all_left P xs ys h k d b = subst P (get_or_append_left xs ys d k b) (h k d (omega (arith, b, length-append xs ys)))

all_right : {A : Type 0} (P : A → Type 0) (xs ys : List A) → All P (xs ++ ys) → All P ys
all_right P xs ys h k d b = subst P (get_or-append-add xs ys k d) (h (length xs + k) d (omega (arith, b, length-append xs ys)))

without_two : {A : Type 0} (P : A → Type 0) (x y : A) (xs : List A) → All P (x ∷ y ∷ xs) → All P xs
without_two P x y xs h k d b = h (suc (suc k)) d (omega (arith, b))

-- The term is a truth value of the store.
abbrev pub IsCondition : Mapped → ℕ → Type 0
IsCondition e id = IsTrue (is_term_of e.parts.graph truth id)

abbrev commits_of : Mapped → List ℕ
commits_of e = map (λ i. i.commit) e.instructions

module _ (e : Mapped) (h : All (IsCondition e) (conditions_of e)) where
  pub reset_condition : IsCondition e e.reset
  reset_condition = h 0 0 (omega arith)

  pub start_condition : IsCondition e e.start
  start_condition = h 1 0 (omega arith)

  rest : All (IsCondition e) (e.assume ++ (e.invariants ++ commits_of e))
  rest = without_two (IsCondition e) e.reset e.start (e.assume ++ (e.invariants ++ commits_of e)) h

  pub assumed_condition : (k id : ℕ) → slice_get e.assume k ≡ Some id → IsCondition e id
  assumed_condition k id at = all_at (IsCondition e) e.assume k id (all_left (IsCondition e) e.assume (e.invariants ++ commits_of e) rest) at

  pub commit_condition : (j : ℕ) (i : MappedInstruction) → slice_get e.instructions j ≡ Some i → IsCondition e i.commit
  commit_condition j i at =
      all_at (IsCondition e) (commits_of e) j i.commit
      (all_right (IsCondition e) e.invariants (commits_of e) (all_right (IsCondition e) e.assume (e.invariants ++ commits_of e) rest))
      (mapped_at (λ (x : MappedInstruction). x.commit) e.instructions j i at)
