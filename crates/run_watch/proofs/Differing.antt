-- Lists of values that are compared place by place.
use Rattle.std.proofs.Common.{◌≡◌, ◌∙◌, ℕ, suc, ◌+◌, ◌<◌, ◌≤◌, List, [], ◌∷◌, length, get_or, slice_get, Option, Some, None, option_map, ◌⊎◌, inl, inr, refl, sym, ap, subst, arith}
use Rattle.wb_values.specs.Value.{Value}
use Rattle.model_meaning.specs.Model.{StateDeclaration}
use Rattle.wb_terms.specs.declared.values.Value as code
use Rattle.wb_terms.specs.Environment.{as_value}
use Rattle.run_watch.specs.Comparing.{IsFirstDifference, IsOtherStated, IsFirstOtherStated}
use Rattle.run_watch.proofs.Lists.{some_same, get_is, get_within}

compared : (a b : ℕ) → (a < b) ⊎ ((b < a) ⊎ (a ≡ b))
compared a b = grind arith

-- ---- two lists

-- the two have the same at each of the first so many places
abbrev pub AreSameTo : ℕ → (xs ys : List Value) → Type 0
AreSameTo n xs ys = (l : ℕ) → l < n → slice_get xs l ≡ slice_get ys l

pub same_none : (xs ys : List Value) → AreSameTo 0 xs ys
same_none xs ys l less = absurd (omega (arith, less))

-- the values at a place
pub same_more : (xs ys : List Value) (k : ℕ) (d : Value) → AreSameTo k xs ys → k < length xs → k < length ys → get_or xs k d ≡ get_or ys k d → AreSameTo (k + 1) xs ys
same_more xs ys k d before b b_other same l less = elim (compared l k) [
  | inl low ↦ before l low
  | inr (inl high) ↦ absurd (omega (arith, less, high))
  | inr (inr e) ↦
      subst (λ j. slice_get xs j ≡ slice_get ys j) (sym e) (get_is xs k d b ∙ (ap Some same ∙ sym (get_is ys k d b_other)))
]

pub differ_here : (xs ys : List Value) (k : ℕ) (d : Value) → AreSameTo k xs ys → k < length xs → k < length ys → ¬ (get_or xs k d ≡ get_or ys k d) → IsFirstDifference xs ys (Some k)
differ_here xs ys k d before b b_other differs = (
  record {
    one = get_or xs k d;
    two = get_or ys k d;
    is_one = get_is xs k d b;
    is_two = get_is ys k d b_other;
    differs = differs;
  },
  before,
)

all_same : (xs ys : List Value) → length xs ≡ length ys → AreSameTo (length xs) xs ys → xs ≡ ys
all_same [] [] l h = refl
all_same [] (y ∷ ys) l h = absurd (omega (arith, l))
all_same (x ∷ xs) [] l h = absurd (omega (arith, l))
all_same (x ∷ xs) (y ∷ ys) l h =
    let first : x ≡ y = some_same (h 0 (omega arith)) in
    let rest : xs ≡ ys = all_same xs ys (omega (arith, l)) (λ j less. h (suc j) (omega (arith, less))) in
    λ i. first i ∷ rest i

pub same_lists : (xs ys : List Value) (n : ℕ) → length xs ≡ length ys → length xs ≤ n → AreSameTo n xs ys → IsFirstDifference xs ys None
same_lists xs ys n l le h = all_same xs ys l (λ j less. h j (omega (arith, less, le)))

-- ---- stated values

abbrev pub NoneOtherTo : ℕ → List StateDeclaration → List Value → Type 0
NoneOtherTo n ds xs = (l : ℕ) → l < n → ¬ IsOtherStated ds xs l

pub none_other : (ds : List StateDeclaration) (xs : List Value) → NoneOtherTo 0 ds xs
none_other ds xs l less = absurd (omega (arith, less))

none_more : (ds : List StateDeclaration) (xs : List Value) (k : ℕ) → NoneOtherTo k ds xs → ¬ IsOtherStated ds xs k → NoneOtherTo (k + 1) ds xs
none_more ds xs k before now l less = elim (compared l k) [
  | inl low ↦ before l low
  | inr (inl high) ↦ absurd (omega (arith, less, high))
  | inr (inr e) ↦ subst (λ j. ¬ IsOtherStated ds xs j) (sym e) now
]

-- what is stated for the state at a place
stated_at : (ds : List StateDeclaration) (k : ℕ) (o : Option code.Value) (d : StateDeclaration)
    → option_map (λ s. s.init) (slice_get ds k) ≡ Some (option_map as_value o) → slice_get ds k ≡ Some d → d.init ≡ option_map as_value o
stated_at ds k o d e is = some_same (sym (ap (option_map (λ (s : StateDeclaration). s.init)) is) ∙ e)

pub unstated_more : (ds : List StateDeclaration) (xs : List Value) (k : ℕ) → NoneOtherTo k ds xs
    → option_map (λ s. s.init) (slice_get ds k) ≡ Some (option_map as_value None) → NoneOtherTo (k + 1) ds xs
unstated_more ds xs k before e =
    none_more ds xs k before (λ x. let none : None ≡ Some x.stated = sym (stated_at ds k None x.state e x.is_state) ∙ x.is_stated in cc)

pub stated_more : (ds : List StateDeclaration) (xs : List Value) (k : ℕ) (y : code.Value) (d : Value) → NoneOtherTo k ds xs
    → option_map (λ s. s.init) (slice_get ds k) ≡ Some (option_map as_value (Some y)) → k < length xs → get_or xs k d ≡ as_value y
    → NoneOtherTo (k + 1) ds xs
stated_more ds xs k y d before e b same =
    none_more ds xs k before (λ x.
    let stated : as_value y ≡ x.stated = some_same (sym (stated_at ds k (Some y) x.state e x.is_state) ∙ x.is_stated) in
    let value : get_or xs k d ≡ x.value = some_same (sym (get_is xs k d b) ∙ x.is_value) in
    x.differs (sym value ∙ (same ∙ stated)))

pub other_here : (ds : List StateDeclaration) (xs : List Value) (k : ℕ) (y : code.Value) (d : Value) → NoneOtherTo k ds xs
    → option_map (λ s. s.init) (slice_get ds k) ≡ Some (option_map as_value (Some y)) → k < length xs → ¬ (get_or xs k d ≡ as_value y)
    → IsFirstOtherStated ds xs (Some k)
other_here ds xs k y d before e b differs = (there (slice_get ds k) refl, before)
  where
    there : (o : Option StateDeclaration) → slice_get ds k ≡ o → IsOtherStated ds xs k
    there None is = let none : None ≡ Some (option_map as_value (Some y)) = sym (ap (option_map (λ (s : StateDeclaration). s.init)) is) ∙ e in cc
    there (Some s) is = record {
      state = s;
      stated = as_value y;
      value = get_or xs k d;
      is_state = is;
      is_stated = stated_at ds k (Some y) s e is;
      is_value = get_is xs k d b;
      differs = differs;
    }

pub none_stated : (ds : List StateDeclaration) (xs : List Value) (n : ℕ) → length xs ≤ n → NoneOtherTo n ds xs → IsFirstOtherStated ds xs None
none_stated ds xs n le h k x =
    let l = get_within xs k x.value x.is_value in
    h k (omega (arith, l, le)) x
