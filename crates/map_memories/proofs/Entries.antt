-- Entries of states that are memories, one after the other.
use Rattle.std.proofs.Common.{◌≡◌, ◌∙◌, ℕ, ◌+◌, ◌<◌, ◌≤◌, zero, suc, refl, sym, ap, subst, Bool, true, false, not, true≢false, inl, inr, ◌⊎◌, List, [], ◌∷◌, length, drop, get_or, map, Option, Some, None, arith}
use Rattle.std.specs.Prelude.{◌↔◌, is_some, codes, Contains, IsTrue}
use Rattle.std.proofs.lemmas.List.{drop_more, drop_all}
use Rattle.std.proofs.lemmas.List.Elements.{Contains-append_cases}
use Rattle.wb_values.specs.Value.{Name, Sort, truth, word, memory, Entries}
use Rattle.model_meaning.specs.Model.{Model}
use Rattle.model_places.specs.Sites.{Spot}
use Rattle.verilog_meaning.specs.Settled.{Design}
use Rattle.map_files.specs.Written.{Text}
use Rattle.map_rules.specs.Case.{MapCase, case_design, state_sort}
use Rattle.map_rules.specs.Mapped.{IsMemoryPath, HasMemoryMismatch}
use Rattle.map_names.specs.Places.{first_under}
use Rattle.map_memories.specs.Mismatch.{memory_shape, IsUnfit, IsFirstUnfit, IsMismatch}

-- ---- one entry

same_some : {A : Type 0} (x y : A) → Some x ≡ Some y → x ≡ y
same_some x y e = cc

shape_is : (o : Option Sort) (a w : ℕ) → memory_shape o ≡ Some (a, w) → o ≡ Some (memory a w)
shape_is None a w e = cc
shape_is (Some truth) a w e = cc
shape_is (Some (word k)) a w e = cc
shape_is (Some (memory b v)) a w e = let same : (b, v) ≡ (a, w) = same_some (b, v) (a, w) e in λ i. Some (memory (same i).0 (same i).1)

same_shape : (o : Option Sort) (a w b v : ℕ) → o ≡ Some (memory a w) → o ≡ Some (memory b v) → (a ≡ b) × (w ≡ v)
same_shape o a w b v e f = let one : Some (memory a w) ≡ Some (memory b v) = sym e ∙ f in (cc, cc)

module _ (d : Design) (m : Model) (e : Name × Text) where
  pub no_memory_fits : (o : Option Sort) → o ≡ state_sort m e.0 → None ≡ memory_shape o → IsTrue false ↔ IsUnfit d m e
  no_memory_fits o known none =
      ((λ t. absurd (true≢false (sym t))), (λ u. let one : None ≡ Some (u.address_width, u.width) = none ∙ (ap memory_shape known ∙ ap memory_shape u.is_memory) in cc))

  pub unfit_told : (o : Option Sort) (a w : ℕ) (b : Bool) → o ≡ state_sort m e.0 → Some (a, w) ≡ memory_shape o → (IsTrue b ↔ IsMemoryPath d e.1 a w)
      → IsTrue (not b) ↔ IsUnfit d m e
  unfit_told o a w b known shape told = (to b told, from b told)
    where
      is : state_sort m e.0 ≡ Some (memory a w)
      is = sym known ∙ shape_is o a w (sym shape)

      to : (b : Bool) → (IsTrue b ↔ IsMemoryPath d e.1 a w) → IsTrue (not b) → IsUnfit d m e
      to true k t = absurd (true≢false (sym t))
      to false k t = record { address_width = a; width = w; is_memory = is; no_path = λ p. true≢false (sym (k.1 p)) }

      from : (b : Bool) → (IsTrue b ↔ IsMemoryPath d e.1 a w) → IsUnfit d m e → IsTrue (not b)
      from false k u = refl
      from true k u =
          let same = same_shape (state_sort m e.0) a w u.address_width u.width is u.is_memory in
          absurd (u.no_path (subst (λ (q : ℕ × ℕ). IsMemoryPath d e.1 q.0 q.1) (λ i. (same.0 i, same.1 i)) (k.0 refl)))

-- ---- the first of them

module _ {X : Type 0} (view : X → Name × Text) (d : Design) (m : Model) (xs : List X) (i : ℕ) where
  -- what is the first of those that are left is the first of all
  abbrev pub IsLeft : ℕ → Type 0
  IsLeft k = (o : Option Name) → IsFirstUnfit d m (map view (drop k xs)) o → IsFirstUnfit d m (map view xs) o

  module _ (r y : X) (b : Bool) (lt : i < length xs) (is : r ≡ get_or xs i y) (told : IsTrue b ↔ IsUnfit d m (view r)) (left : IsLeft i) where
    first_of_left : (o : Option Name) → IsFirstUnfit d m (view r ∷ map view (drop (i + 1) xs)) o → IsFirstUnfit d m (map view xs) o
    first_of_left o h =
        left o (subst (λ ys. IsFirstUnfit d m (map view ys) o) (sym (drop_more xs i y lt ∙ ap (λ z. z ∷ drop (i + 1) xs) (sym is))) h)

    pub one_unfit : b ≡ true → IsFirstUnfit d m (map view xs) (Some (view r).0)
    one_unfit t = first_of_left (Some (view r).0) (inl (told.0 t, refl))

    pub one_fits : b ≡ false → IsLeft (i + 1)
    one_fits f o h = first_of_left o (inr ((λ u. true≢false (sym (told.1 u) ∙ f)), h))

  pub none_unfit : length xs ≤ i → IsLeft i → IsFirstUnfit d m (map view xs) None
  none_unfit le left = left None (subst (λ ys. IsFirstUnfit d m (map view ys) None) (sym (drop_all i xs le)) refl)

-- ---- the rule

one_is : {A : Type 0} (x y : A) (i : ℕ) → i < length (x ∷ []) → get_or (x ∷ []) i y ≡ y → x ≡ y
one_is x y zero lt e = e
one_is x y (suc i) lt e = absurd (omega (arith, lt))

some_unfit : (d : Design) (m : Model) (es : Entries Text) (n : Name) → IsFirstUnfit d m es (Some n) → (e : Name × Text) × Contains es e × IsUnfit d m e
some_unfit d m [] n h = cc
some_unfit d m (e ∷ es) n (inl u) = (e, (0, omega arith, refl), u.0)
some_unfit d m (e ∷ es) n (inr later) = let r = some_unfit d m es n later.1 in (r.0, (suc r.1.0, omega (arith, r.1.1), r.1.2), r.2)

all_fit : (d : Design) (m : Model) (es : Entries Text) → IsFirstUnfit d m es None → (e : Name × Text) → Contains es e → ¬ IsUnfit d m e
all_fit d m [] h e c u = absurd (omega (arith, c.1))
all_fit d m (x ∷ es) (inl first) e c u = let no : None ≡ Some x.0 = first.1 in cc
all_fit d m (x ∷ es) (inr later) e c u = by (Contains-append_cases (x ∷ []) es e c) (λ k. all_fit d m es later.1 e k u) where
  by : Contains (x ∷ []) e ⊎ Contains es e → (Contains es e → ⊥) → ⊥
  by (inl k) next = later.0 (subst (IsUnfit d m) (sym (one_is x e k.0 k.1 k.2)) u)
  by (inr k) next = next k

pub mismatch_told : (c : MapCase) (n : Option Name) (o : Option Spot) → IsFirstUnfit (case_design c) c.model c.written.states n → o ≡ first_under (codes "states") n
    → IsMismatch c o
mismatch_told c n o first place = record { state = n; is_first = first; place = place; rule = by n first place }
  where
    d : Design
    d = case_design c

    by : (n : Option Name) → IsFirstUnfit d c.model c.written.states n → o ≡ first_under (codes "states") n → IsTrue (is_some o) ↔ HasMemoryMismatch c
    by None h k = (
      (λ t. absurd (true≢false (sym t ∙ ap is_some k))),
      (λ b. absurd (all_fit d c.model c.written.states h (b.state, b.text) b.stands
          (record { address_width = b.address_width; width = b.width; is_memory = b.is_memory; no_path = b.no_path }))),
    )
    by (Some n) h k =
        let u = some_unfit d c.model c.written.states n h in (
          (λ t. record {
            state = u.0.0;
            text = u.0.1;
            address_width = u.2.address_width;
            width = u.2.width;
            stands = u.1;
            is_memory = u.2.is_memory;
            no_path = u.2.no_path;
          }),
          (λ b. ap is_some k),
        )
