-- Lists that grow: nothing added, one obligation or fact, and one part after another.
use Rattle.std.proofs.Common.{◌≡◌, ℕ, zero, suc, ◌+◌, ◌<◌, Bool, true, false, cond, List, [], ◌∷◌, ◌++◌, length, take, map, Option, Some, None, option_map, refl, subst, sym, ap, ◌∙◌, append_assoc, slice_get, arith}
use Rattle.std.specs.Prelude.{is_some}
use Rattle.std.proofs.lemmas.List.{append-nil, map-append}
use Rattle.wb_values.specs.Value.{Name, Value}
use Rattle.model_meaning.specs.Model.{Model, StateDeclaration}
use Rattle.refinement.specs.Map.{Map}
use Rattle.refinement.specs.Obligation as pure
use Rattle.refinement.specs.Obligation.{for_each, numbered, state_obligations, with_initial_values}
use Rattle.obligation_lists.specs.declared.claims.Fact.{Fact}
use Rattle.obligation_lists.specs.declared.claims.Hypotheses.{Hypotheses}
use Rattle.obligation_lists.specs.declared.claims.Obligation.{Obligation}
use Rattle.obligation_lists.specs.declared.claims.MapCounts.{MapCounts}
use Rattle.obligation_lists.specs.Claims.{fact_of, hypotheses_of, obligation_of}
use Rattle.obligation_lists.specs.Counts.{AreCountsOf}
use Rattle.obligation_lists.specs.Within.{Each, IsFactOf, IsObligationOf}
use Rattle.obligation_lists.specs.Growth.{Adds, AddsFacts}

pub each_append : {A : Type 0} (P : A → Type 0) (xs ys : List A) → Each P xs → Each P ys → Each P (xs ++ ys)
each_append P [] ys h k = k
each_append P (x ∷ xs) ys h k = (h.0, each_append P xs ys h.1 k)

each_pushed : {A : Type 0} (P : A → Type 0) (xs ys : List A) (x : A) → ys ≡ xs ++ x ∷ [] → P x → Each P xs → Each P ys
each_pushed P xs ys x e p h = subst (Each P) (sym e) (each_append P xs (x ∷ []) h (p, tt))

-- ---- obligations

pub none : (m : Model) (counts : MapCounts) (a : List Obligation) → Adds m counts a a (λ p. [])
none m counts a = record { listed = λ p h. sym (append-nil (map (obligation_of p) a)); within = λ h. h }

pub one : (m : Model) (counts : MapCounts) (a b : List Obligation) (o : Obligation) (q : Map → pure.Obligation) → b ≡ a ++ o ∷ [] → IsObligationOf m counts o
    → ((p : Map) → AreCountsOf m p counts → obligation_of p o ≡ q p) → Adds m counts a b (λ p. q p ∷ [])
one m counts a b o q e here same = record {
  listed = λ p h.
      ap (map (obligation_of p)) e ∙ (map-append (obligation_of p) a (o ∷ []) ∙ ap (λ x. map (obligation_of p) a ++ x ∷ []) (same p h));
  within = λ h. each_pushed (IsObligationOf m counts) a b o e here h;
}

pub next : (m : Model) (counts : MapCounts) (a b d : List Obligation) (f g : Map → List pure.Obligation) → Adds m counts a b f → Adds m counts b d g
    → Adds m counts a d (λ p. f p ++ g p)
next m counts a b d f g x y = record {
  listed = λ p h. y.listed p h ∙ (ap (λ os. os ++ g p) (x.listed p h) ∙ append_assoc (map (obligation_of p) a) (f p) (g p));
  within = λ h. y.within (x.within h);
}

pub read_as : (m : Model) (counts : MapCounts) (a b : List Obligation) (f g : Map → List pure.Obligation) → Adds m counts a b f
    → ((p : Map) → AreCountsOf m p counts → f p ≡ g p) → Adds m counts a b g
read_as m counts a b f g x same = record { listed = λ p h. x.listed p h ∙ ap (λ os. map (obligation_of p) a ++ os) (same p h); within = x.within }

-- an obligation by its name, with the hypotheses and the claim
abbrev pub line : Name → ℕ → List pure.Fact → pure.Fact → pure.Obligation
line n cycles hypotheses claim = record { called = n; cycles = cycles; hypotheses = hypotheses; claim = claim }

pub line_same : (a b : Name) (cycles : ℕ) (hs : List pure.Fact) (x y : pure.Fact) → a ≡ b → x ≡ y → line a cycles hs x ≡ line b cycles hs y
line_same a b cycles hs x y e f = ap (λ n. line n cycles hs x) e ∙ ap (λ z. line b cycles hs z) f

-- ---- facts

pub no_facts : (counts : MapCounts) (a : List Fact) (Fits : Model → ℕ → Type 0) → AddsFacts counts a a (λ p. []) Fits
no_facts counts a Fits = record { listed = λ m p h. sym (append-nil (map fact_of a)); within = λ m last fits h. h }

pub one_fact : (counts : MapCounts) (a b : List Fact) (f : Fact) (Fits : Model → ℕ → Type 0) → b ≡ a ++ f ∷ []
    → ((m : Model) (last : ℕ) → Fits m last → IsFactOf m counts last f) → AddsFacts counts a b (λ p. fact_of f ∷ []) Fits
one_fact counts a b f Fits e here = record {
  listed = λ m p h. ap (map fact_of) e ∙ map-append fact_of a (f ∷ []);
  within = λ m last fits h. each_pushed (IsFactOf m counts last) a b f e (here m last fits) h;
}

pub next_facts : (counts : MapCounts) (a b d : List Fact) (f g : Map → List pure.Fact) (Fits : Model → ℕ → Type 0) → AddsFacts counts a b f Fits
    → AddsFacts counts b d g Fits → AddsFacts counts a d (λ p. f p ++ g p) Fits
next_facts counts a b d f g Fits x y = record {
  listed = λ m p h. y.listed m p h ∙ (ap (λ fs. fs ++ g p) (x.listed m p h) ∙ append_assoc (map fact_of a) (f p) (g p));
  within = λ m last fits h. y.within m last fits (x.within m last fits h);
}

pub facts_as : (counts : MapCounts) (a b : List Fact) (f g : Map → List pure.Fact) (Fits : Model → ℕ → Type 0) → AddsFacts counts a b f Fits
    → ((m : Model) (p : Map) → AreCountsOf m p counts → f p ≡ g p) → AddsFacts counts a b g Fits
facts_as counts a b f g Fits x same = record {
  listed = λ m p h. x.listed m p h ∙ ap (λ fs. map fact_of a ++ fs) (same m p h);
  within = x.within;
}

pub fits_as : (counts : MapCounts) (a b : List Fact) (f : Map → List pure.Fact) (Fits Also : Model → ℕ → Type 0) → AddsFacts counts a b f Fits
    → ((m : Model) (last : ℕ) → Also m last → Fits m last) → AddsFacts counts a b f Also
fits_as counts a b f Fits Also x more = record { listed = x.listed; within = λ m last fits h. x.within m last (more m last fits) h }

-- ---- the lists of the definitions, one more element at a time

pub for_each_more : {A : Type 0} (f : ℕ → List A) (k n : ℕ) → for_each f k (suc n) ≡ for_each f k n ++ f (k + n)
for_each_more f k zero =
    let e : k ≡ k + 0 = omega arith in
    append-nil (f k) ∙ ap f e
for_each_more f k (suc n) =
    let e : suc k + n ≡ k + suc n = omega arith in
    ap (λ xs. f k ++ xs) (for_each_more f (suc k) n ∙ ap (λ j. for_each f (suc k) n ++ f j) e)
    ∙ sym (append_assoc (f k) (for_each f (suc k) n) (f (k + suc n)))

pub for_each_next : {A : Type 0} (f : ℕ → List A) (n : ℕ) → for_each f 0 n ++ f n ≡ for_each f 0 (n + 1)
for_each_next f n =
    let e : suc n ≡ n + 1 = omega arith in
    let z : n ≡ 0 + n = omega arith in
    ap (λ k. for_each f 0 n ++ f k) z ∙ (sym (for_each_more f 0 n) ∙ ap (for_each f 0) e)

pub at_place : {A : Type 0} (xs : List A) (i : ℕ) → i < length xs → (x : A) × (slice_get xs i ≡ Some x) × (take (suc i) xs ≡ take i xs ++ x ∷ [])
at_place [] i h = absurd (omega (arith, h))
at_place (x ∷ xs) zero h = (x, refl, refl)
at_place (x ∷ xs) (suc i) h =
    let r = at_place xs i (omega (arith, h)) in
    (r.0, r.1, ap (λ ys. x ∷ ys) r.2)

pub at_next : {A : Type 0} (xs : List A) (i : ℕ) → i < length xs → (x : A) × (slice_get xs i ≡ Some x) × (take i xs ++ x ∷ [] ≡ take (i + 1) xs)
at_next xs i h =
    let r = at_place xs i h in
    let e : suc i ≡ i + 1 = omega arith in
    (r.0, r.1, sym r.2 ∙ ap (λ k. take k xs) e)

pub states_append : (text : Name) (cycles : ℕ) (hs : List pure.Fact) (claim : Name → pure.Fact) (xs ys : List StateDeclaration)
    → state_obligations text cycles hs claim xs ++ state_obligations text cycles hs claim ys ≡ state_obligations text cycles hs claim (xs ++ ys)
states_append text cycles hs claim [] ys = refl
states_append text cycles hs claim (x ∷ xs) ys =
    ap (λ os. line (text ++ x.state_name) cycles hs (claim x.state_name) ∷ os) (states_append text cycles hs claim xs ys)

pub initial_append : (xs ys : List StateDeclaration) → with_initial_values xs ++ with_initial_values ys ≡ with_initial_values (xs ++ ys)
initial_append [] ys = refl
initial_append (x ∷ xs) ys = by_test (is_some x.init) (initial_append xs ys)
  where
    by_test : (b : Bool) → with_initial_values xs ++ with_initial_values ys ≡ with_initial_values (xs ++ ys)
        → cond b (x ∷ with_initial_values xs) (with_initial_values xs) ++ with_initial_values ys
        ≡ cond b (x ∷ with_initial_values (xs ++ ys)) (with_initial_values (xs ++ ys))
    by_test true e = ap (λ zs. x ∷ zs) e
    by_test false e = e

-- ---- a state at a place

pub name_there : (ss : List StateDeclaration) (k : ℕ) (d : StateDeclaration) (n : Name) → slice_get ss k ≡ Some d
    → option_map (λ (s : StateDeclaration). s.state_name) (slice_get ss k) ≡ Some n → n ≡ d.state_name
name_there ss k d n here named =
    let e : Some n ≡ Some d.state_name = sym named ∙ ap (λ o. option_map (λ (s : StateDeclaration). s.state_name) o) here in
    cc

is_some_map : {A B : Type 0} (f : A → B) (o : Option A) → is_some (option_map f o) ≡ is_some o
is_some_map f None = refl
is_some_map f (Some x) = refl

initial_there : {A : Type 0} (f : A → Value) (ss : List StateDeclaration) (k : ℕ) (d : StateDeclaration) (i : Option A) → slice_get ss k ≡ Some d
    → option_map (λ (s : StateDeclaration). s.init) (slice_get ss k) ≡ Some (option_map f i) → is_some d.init ≡ is_some i
initial_there f ss k d i here stated =
    let e : Some (option_map f i) ≡ Some d.init = sym stated ∙ ap (λ o. option_map (λ (s : StateDeclaration). s.init) o) here in
    let same : option_map f i ≡ d.init = cc in
    ap is_some (sym same) ∙ is_some_map f i

pub without_initial : {A : Type 0} (f : A → Value) (ss : List StateDeclaration) (k : ℕ) (d : StateDeclaration) (i : Option A) → slice_get ss k ≡ Some d
    → option_map (λ (s : StateDeclaration). s.init) (slice_get ss k) ≡ Some (option_map f i) → is_some i ≡ false → with_initial_values (d ∷ []) ≡ []
without_initial f ss k d i here stated absent =
    ap (λ b. cond b (d ∷ []) []) (initial_there f ss k d i here stated ∙ absent)

pub with_initial : {A : Type 0} (f : A → Value) (ss : List StateDeclaration) (k : ℕ) (d : StateDeclaration) (i : Option A) → slice_get ss k ≡ Some d
    → option_map (λ (s : StateDeclaration). s.init) (slice_get ss k) ≡ Some (option_map f i) → is_some i ≡ true → with_initial_values (d ∷ []) ≡ d ∷ []
with_initial f ss k d i here stated present =
    ap (λ b. cond b (d ∷ []) []) (initial_there f ss k d i here stated ∙ present)

-- those of the first so many invariants
abbrev pub invariant_lines : Name → ℕ → Hypotheses → ℕ → Map → List pure.Obligation
invariant_lines text cycles h n p = for_each (λ k. line (numbered text k) cycles (hypotheses_of p h) (pure.invariant k cycles) ∷ []) 0 n
