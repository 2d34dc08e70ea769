-- What is found of terms says what is found of obligations and covers, and of lists of them.
use Rattle.std.proofs.Common.{◌≡◌, ◌∙◌, ℕ, zero, suc, ◌+◌, ◌<◌, List, [], ◌∷◌, ◌++◌, length, map, get_or, slice_get, Some, Contains, ◌⊎◌, inl, inr, arith, refl, sym, ap, subst}
use Rattle.model_meaning.specs.Model.{Model, Instruction, instruction_name, instructions_in}
use Rattle.refinement.specs.Map.{Setting, Map}
use Rattle.refinement.specs.Obligation as pure
use Rattle.refinement.specs.Obligation.{bound_named, obligations}
use Rattle.reports.specs.Report.{IsCover, AreCovers}
use Rattle.wb_terms.specs.Graph.{Graph, HasDistinctNames}
use Rattle.mapped_designs.specs.Mapped.{Mapped, MappedInstruction}
use Rattle.mapped_designs.specs.Broken.{BreaksObligation, HasCountsOf, IsCommandBy}
use Rattle.mapped_runs.proofs.Lists.{beside, some_same}
use Rattle.mapped_runs.proofs.Within.{obligations_within}
use Rattle.run_terms.specs.Names.{names_of_run}
use Rattle.obligation_lists.specs.Claims.{obligation_of}
use Rattle.obligation_lists.specs.declared.claims.Obligation.{Obligation}
use Rattle.obligation_terms.specs.Asked.{IsFalseWhere, HasEnd}
use Rattle.obligation_check.specs.Found.{IsFinding, IsFoundOf, AreFound, cover_by}
use Rattle.obligation_check.specs.Decided.{IsSettingBy, IsFoundBy, AreFoundBy, IsCoveredBy, AreCoveredBy}
use Rattle.obligation_check.specs.declared.findings.Finding.{Finding}
use Rattle.obligation_check.proofs.Concluded.{found_of, cover_of}

pub found_by : (m : Model) (e : Mapped) (g : Graph) (id budget cycles : ℕ) (o : Obligation) (x : Finding) → g.names ≡ names_of_run e.parts cycles → HasDistinctNames g.names
    → o.cycles ≡ cycles
    → ((p : Map) → HasCountsOf p e → p.reset_cycles ≡ e.reset_cycles → IsFalseWhere g id e.parts cycles (λ y. BreaksObligation m e y (obligation_of p o)))
    → IsFinding e.parts cycles g id budget x → IsFoundBy m e budget o x
found_by m e g id budget cycles o x named distinct same term found s h within =
    let t : IsFalseWhere g id e.parts cycles (λ y. BreaksObligation s.model e y (obligation_of s.map o)) =
    subst (λ q. IsFalseWhere g id e.parts cycles (λ y. BreaksObligation q e y (obligation_of s.map o))) (sym h.model) (term s.map h.counts (sym h.mapped.reset_cycles)) in
    let own : IsFalseWhere g id e.parts o.cycles (λ y. BreaksObligation s.model e y (obligation_of s.map o)) =
    subst (λ n. IsFalseWhere g id e.parts n (λ y. BreaksObligation s.model e y (obligation_of s.map o))) (sym same) t in
    found_of s e h.mapped h.sound (obligation_of s.map o) h.accepted h.of_text within g id budget (named ∙ ap (names_of_run e.parts) (sym same)) distinct own x
    (subst (λ n. IsFinding e.parts n g id budget x) (sym same) found)

pub covered_by : (m : Model) (e : Mapped) (g : Graph) (id budget cycles j : ℕ) (x : Finding) → g.names ≡ names_of_run e.parts cycles → HasDistinctNames g.names
    → HasEnd e j cycles → ((p : Map) → HasCountsOf p e → IsFalseWhere g id e.parts cycles (λ y. IsCommandBy m e p y j))
    → IsFinding e.parts cycles g id budget x → IsCoveredBy m e budget j x
covered_by m e g id budget cycles j x named distinct end term found s h i is_i =
    let b = beside (λ (q : Instruction). bound_named s.map (instruction_name q)) (λ (k : MappedInstruction). k.bound) (instructions_in s.model.top) e.instructions j i (sym h.mapped.bounds) is_i in
    let other : b.other ≡ end.0 = some_same (sym b.is_there ∙ end.1) in
    let same : bound_named s.map (instruction_name i) ≡ cycles = b.is_same ∙ (ap (λ (k : MappedInstruction). k.bound) other ∙ end.2) in
    let t : IsFalseWhere g id e.parts cycles (λ y. IsCommandBy s.model e s.map y j) =
    subst (λ q. IsFalseWhere g id e.parts cycles (λ y. IsCommandBy q e s.map y j)) (sym h.model) (term s.map h.counts) in
    let own : IsFalseWhere g id e.parts (bound_named s.map (instruction_name i)) (λ y. IsCommandBy s.model e s.map y j) =
    subst (λ n. IsFalseWhere g id e.parts n (λ y. IsCommandBy s.model e s.map y j)) (sym same) t in
    cover_of s e h.mapped h.sound j i is_i h.accepted h.of_text g id budget (named ∙ ap (names_of_run e.parts) (sym same)) distinct own x
    (subst (λ n. IsFinding e.parts n g id budget x) (sym same) found)

-- ---- lists

-- what stands in a list with one more at its end stood there before, or is the last
in_front : {A : Type 0} (xs : List A) (x : A) (k : ℕ) (y : A) → slice_get (xs ++ x ∷ []) k ≡ Some y
    → (slice_get xs k ≡ Some y) ⊎ ((k ≡ length xs) × (x ≡ y))
in_front [] x zero y e = inr (refl, let same : x ≡ y = cc in same)
in_front [] x (suc k) y e = cc
in_front (z ∷ xs) x zero y e = inl e
in_front (z ∷ xs) x (suc k) y e = elim (in_front xs x k y e) [
  | inl before ↦ inl before
  | inr last ↦ inr (ap suc last.0, last.1)
]

-- the element at a place
pub element_at : {A : Type 0} (xs : List A) (k : ℕ) (x : A) → k < length xs → x ≡ get_or xs k x → slice_get xs k ≡ Some x
element_at [] k x b e = absurd (omega (arith, b))
element_at (y ∷ ys) zero x b e = ap Some (sym e)
element_at (y ∷ ys) (suc k) x b e = element_at ys k x (omega (arith, b)) e

-- one more is found
pub found_more : (m : Model) (e : Mapped) (budget : ℕ) (os : List Obligation) (xs new : List Finding) (o : Obligation) (x : Finding) → new ≡ xs ++ x ∷ []
    → slice_get os (length xs) ≡ Some o → IsFoundBy m e budget o x → AreFoundBy m e budget os xs → AreFoundBy m e budget os new
found_more m e budget os xs new o x is_new is_o v h k p y a b =
    elim (in_front xs x k y (ap (λ zs. slice_get zs k) (sym is_new) ∙ b)) [
      | inl before ↦ h k p y a before
      | inr last ↦
          let here : Some o ≡ Some p = sym is_o ∙ (ap (slice_get os) (sym last.0) ∙ a) in
          let same : o ≡ p = some_same here in
          subst (λ q. IsFoundBy m e budget q y) same (subst (IsFoundBy m e budget o) last.1 v)
    ]

pub covered_more : (m : Model) (e : Mapped) (budget : ℕ) (xs new : List Finding) (x : Finding) → new ≡ xs ++ x ∷ [] → IsCoveredBy m e budget (length xs) x
    → AreCoveredBy m e budget xs → AreCoveredBy m e budget new
covered_more m e budget xs new x is_new c h j y b =
    elim (in_front xs x j y (ap (λ zs. slice_get zs j) (sym is_new) ∙ b)) [
      | inl before ↦ h j y before
      | inr last ↦ subst (λ k. IsCoveredBy m e budget k y) (sym last.0) (subst (IsCoveredBy m e budget (length xs)) last.1 c)
    ]

-- each of the obligations of a setting
all_found : (s : Setting) (e : Mapped) (budget : ℕ) (os : List Obligation) (xs : List Finding) → length xs ≡ length os
    → ((k : ℕ) (o : Obligation) (x : Finding) → slice_get os k ≡ Some o → slice_get xs k ≡ Some x → IsFoundOf s e.parts budget (obligation_of s.map o) x)
    → AreFound s e.parts budget (map (obligation_of s.map) os) xs
all_found s e budget [] [] l h = tt
all_found s e budget [] (x ∷ xs) l h = absurd (omega (arith, l))
all_found s e budget (o ∷ os) [] l h = absurd (omega (arith, l))
all_found s e budget (o ∷ os) (x ∷ xs) l h = (h zero o x refl refl, all_found s e budget os xs (omega (arith, l)) (λ k p y a b. h (suc k) p y a b))

pub viewed : (f : Obligation → pure.Obligation) (os : List Obligation) (k : ℕ) (o : Obligation) → slice_get os k ≡ Some o → Contains (map f os) (f o)
viewed f [] k o e = cc
viewed f (q ∷ os) zero o e = let same : q ≡ o = some_same e in (zero, (omega arith), ap f same)
viewed f (q ∷ os) (suc k) o e = let c = viewed f os k o e in let low : c.0 < length (map f os) = c.1 in (suc c.0, (omega (arith, low)), c.2)

pub obligations_found : (m : Model) (e : Mapped) (budget : ℕ) (os : List Obligation) (xs : List Finding) → length xs ≡ length os → AreFoundBy m e budget os xs
    → (s : Setting) → IsSettingBy m e s → map (obligation_of s.map) os ≡ obligations s.model s.map → AreFound s e.parts budget (obligations s.model s.map) xs
obligations_found m e budget os xs l h s own all =
    subst (λ ps. AreFound s e.parts budget ps xs) all
    (all_found s e budget os xs l
    (λ k o x a b. h k o x a b s own
    (obligations_within s (obligation_of s.map o) own.complete (subst (λ ps. Contains ps (obligation_of s.map o)) all (viewed (obligation_of s.map) os k o a)))))

covers_from : (s : Setting) (e : Mapped) (budget j : ℕ) (is : List Instruction) (xs : List Finding) → length xs ≡ length is
    → ((k : ℕ) (i : Instruction) (x : Finding) → slice_get is k ≡ Some i → slice_get xs k ≡ Some x
    → IsCover s budget (k + j) i (cover_by e.parts x))
    → AreCovers s budget j is (map (cover_by e.parts) xs)
covers_from s e budget j [] [] l h = tt
covers_from s e budget j [] (x ∷ xs) l h = absurd (omega (arith, l))
covers_from s e budget j (i ∷ is) [] l h = absurd (omega (arith, l))
covers_from s e budget j (i ∷ is) (x ∷ xs) l h =
    let first : 0 + j ≡ j = omega arith in (
      subst (λ k. IsCover s budget k i (cover_by e.parts x)) first (h zero i x refl refl),
      covers_from s e budget (suc j) is xs (omega (arith, l))
          (λ k p y a b. let same : suc k + j ≡ k + suc j = omega arith in
          subst (λ n. IsCover s budget n p (cover_by e.parts y)) same (h (suc k) p y a b)),
    )

pub covers_found : (m : Model) (e : Mapped) (budget : ℕ) (xs : List Finding) → length xs ≡ length (instructions_in m.top) → AreCoveredBy m e budget xs
    → (s : Setting) → IsSettingBy m e s → AreCovers s budget 0 (instructions_in s.model.top) (map (cover_by e.parts) xs)
covers_found m e budget xs l h s own =
    covers_from s e budget 0 (instructions_in s.model.top) xs (l ∙ ap (λ (q : Model). length (instructions_in q.top)) (sym own.model))
    (λ k i x a b. let same : k ≡ k + 0 = omega arith in
    subst (λ n. IsCover s budget n i (cover_by e.parts x)) same (h k x b s own i a))
