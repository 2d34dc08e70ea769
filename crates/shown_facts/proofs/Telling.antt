-- What bits at a place of a row tell.
use Rattle.std.proofs.Common.{◌≡◌, ◌∙◌, ◌<◌, ℕ, zero, suc, Bool, true, false, cond, List, [], ◌∷◌, length, get_or, map, Option, Some, None, option_map, refl, sym, ap, subst, arith, inl, inr, ◌⊎◌}
use Rattle.std.specs.Prelude.{IsTrue, not, slice_get, ◌↔◌, ◌==◌}
use Rattle.std.proofs.lemmas.Bool.{false≢true}
use Rattle.std.proofs.lemmas.Bool.Decides.{nat_tests}
use Rattle.std.proofs.lemmas.List.{length-map}
use Rattle.std.proofs.lemmas.Option.{same_Some, slice_get-map, slice_get_read, slice_get_within}
use Rattle.wb_values.specs.Value.{as_truth}
use Rattle.mapped_designs.specs.Mapped.{MappedInstruction}
use Rattle.mapped_designs.specs.Runs.{worth_at}
use Rattle.shown_facts.specs.declared.rows.Row.{Row}
use Rattle.shown_facts.specs.declared.shown.Shown.{Shown}
use Rattle.shown_facts.specs.declared.given.Given.{Given}
use Rattle.shown_facts.specs.Values.{model_in, map_in, values_in, cycles_in}
use Rattle.shown_facts.specs.Noted.{IsRowOf, IsSeenAt, IsShown, IsNoted, seen_of}

pub there : {A : Type 0} (xs : List A) (k : ℕ) → k < length xs → (x : A) × (slice_get xs k ≡ Some x)
there [] k lt = absurd (omega (arith, lt))
there (x ∷ xs) zero lt = (x, refl)
there (x ∷ xs) (suc k) lt = there xs k (omega (arith, lt))

-- one truth told twice
pub as_told : (a b : Bool) → a ≡ b → IsTrue a ↔ IsTrue b
as_told a b e = (λ h. sym e ∙ h, λ h. e ∙ h)

pub denied : (b : Bool) (A : Type 0) → IsTrue b ↔ A → IsTrue (not b) ↔ (¬ A)
denied true A h = (λ f. absurd (false≢true f), λ no. absurd (no (h.0 refl)))
denied false A h = (λ t a. false≢true (h.1 a), λ no. refl)

-- the row of a cycle
pub row_at : (g : Given) (s : Shown) (t : ℕ) (row : Row) → IsShown g s → t < length s.rows.items → row ≡ get_or s.rows.items t row
    → IsRowOf (map_in g) (worth_at (map_in g).parts (values_in g) t) row
row_at g s t row h lt e = h.rows_are t row (slice_get_read s.rows.items (length s.rows.items) t row refl lt e)

-- the bit at a place, and what it is of
bit_is : {A : Type 0} (f : A → Bool) (xs : List A) (bits : List Bool) (k : ℕ) (b : Bool) (x : A) → bits ≡ map f xs → slice_get bits k ≡ Some b → slice_get xs k ≡ Some x → b ≡ f x
bit_is f xs bits k b x are at e =
    same_Some b (f x) (sym at ∙ (ap (λ (l : List Bool). slice_get l k) are ∙ (slice_get-map f xs k ∙ ap (option_map f) e)))

-- of each that stands at the place
pub each_told : {A : Type 0} (f : A → Bool) (xs : List A) (bits : List Bool) (k : ℕ) (b : Bool) → bits ≡ map f xs → k < length xs → slice_get bits k ≡ Some b
    → IsTrue b ↔ ((x : A) → slice_get xs k ≡ Some x → IsTrue (f x))
each_told f xs bits k b are lt at =
    let x = there xs k lt in
    (λ h y e. sym (bit_is f xs bits k b y are at e) ∙ h, λ h. bit_is f xs bits k b x.0 are at x.1 ∙ h x.0 x.1)

-- of one that stands there
pub some_told : {A : Type 0} (f : A → Bool) (xs : List A) (bits : List Bool) (k : ℕ) (b : Bool) → bits ≡ map f xs → k < length xs → slice_get bits k ≡ Some b
    → IsTrue b ↔ ((x : A) × (slice_get xs k ≡ Some x) × IsTrue (f x))
some_told f xs bits k b are lt at =
    let x = there xs k lt in
    (λ h. (x.0, x.1, sym (bit_is f xs bits k b x.0 are at x.1) ∙ h), λ c. bit_is f xs bits k b c.0 are at c.1 ∙ c.2)

pub count_of : {A : Type 0} (f : A → Bool) (xs : List A) (bits : List Bool) → bits ≡ map f xs → length bits ≡ length xs
count_of f xs bits are = ap length are ∙ length-map xs f

-- ---- registers that are noted

zero_from : (t : ℕ) → (t == 0) ≡ true → t ≡ 0
zero_from t h = grind (arith, nat_tests)

-- whatever the cycle, what is taken for it is noted of some cycle
pub either : (g : Given) (s : Shown) (t : ℕ) → IsShown g s → (u : ℕ) × IsSeenAt (model_in g) (map_in g) (values_in g) u (seen_of s t)
either g s t h = elim (t == 0) as (λ b. (u : ℕ) × IsSeenAt (model_in g) (map_in g) (values_in g) u (cond b s.first s.later)) [
  | true ↦ (0, h.first_is)
  | false ↦ (s.later_cycle, h.later_is)
]

pub noted : (g : Given) (s : Shown) (t : ℕ) → IsShown g s → IsNoted s.later_cycle t → IsSeenAt (model_in g) (map_in g) (values_in g) t (seen_of s t)
noted g s t h (inl z) = subst (λ u. IsSeenAt (model_in g) (map_in g) (values_in g) u (seen_of s u)) (sym z) h.first_is
noted g s t h (inr l) =
    (elim (t == 0) as (λ b. (t == 0) ≡ b → IsSeenAt (model_in g) (map_in g) (values_in g) t (seen_of s t)) [
      | true ↦ λ e. subst (λ u. IsSeenAt (model_in g) (map_in g) (values_in g) u (seen_of s u)) (sym (zero_from t e)) h.first_is
      | false ↦ λ e.
          subst (λ b. IsSeenAt (model_in g) (map_in g) (values_in g) t (cond b s.first s.later)) (sym e)
          (subst (λ u. IsSeenAt (model_in g) (map_in g) (values_in g) u s.later) (sym l) h.later_is)
    ]) refl
