-- No two obligations have one name: lists of obligations whose names differ, put together from parts that a key tells apart.
use Rattle.std.proofs.Common.{◌≡◌, ℕ, zero, suc, ◌+◌, ◌^◌, ◌<◌, ◌≤◌, Bool, true, false, cond, List, [], ◌∷◌, ◌++◌, length, drop, map, refl, sym, ap, ◌∙◌, arith}
use Rattle.std.specs.Prelude.{decimal, is_some, ⊤}
use Rattle.std.proofs.lemmas.Fmt.{decimal_injective}
use Rattle.wb_values.specs.Value.{Name}
use Rattle.model_meaning.specs.Model.{StateDeclaration}
use Rattle.refinement.specs.Map.{Map}
use Rattle.refinement.specs.Obligation.{Obligation, Fact, invariant, for_each, numbered, invariant_obligations, state_obligations, with_initial_values}
use Rattle.obligation_lists.specs.Within.{Each}
use Rattle.obligation_lists.proofs.Growing.{each_append, line}

-- all names of the list differ
abbrev pub Distinct : List Name → Type 0
Distinct [] = ⊤
Distinct (n ∷ ns) = Each (λ k. n ≡ k → ⊥) ns × Distinct ns

-- all obligations of the list have names that differ
abbrev pub Apart : List Obligation → Type 0
Apart [] = ⊤
Apart (o ∷ os) = Each (λ q. o.called ≡ q.called → ⊥) os × Apart os

pub each_more : {A : Type 0} (P Q : A → Type 0) (xs : List A) → ((x : A) → P x → Q x) → Each P xs → Each Q xs
each_more P Q [] f h = tt
each_more P Q (x ∷ xs) f h = (f x h.0, each_more P Q xs f h.1)

-- two parts that a key of the names tells apart
pub apart_append : {K : Type 0} (key : Name → K) (a : K) (xs ys : List Obligation) → Each (λ o. key o.called ≡ a) xs
    → Each (λ o. key o.called ≡ a → ⊥) ys → Apart xs → Apart ys → Apart (xs ++ ys)
apart_append key a [] ys f g h k = k
apart_append key a (x ∷ xs) ys f g h k = (
  each_append (λ q. x.called ≡ q.called → ⊥) xs ys h.0
      (each_more (λ o. key o.called ≡ a → ⊥) (λ q. x.called ≡ q.called → ⊥) ys (λ q other same. other (sym (ap key same) ∙ f.0)) g),
  apart_append key a xs ys f.1 g h.1 k,
)

-- ---- parts for the numbers from k on, whose decimals a key reads off

differ : (j k : ℕ) → j < k → k < 2 ^ 64 → decimal j ≡ decimal k → ⊥
differ j k low high e =
    let first : j < 2 ^ 64 = omega (arith, low, high) in
    let same : j ≡ k = decimal_injective j k first high e in
    omega (arith, same, low)

module _ (f : ℕ → List Obligation) (key : Name → Name) (top : ℕ) (small : top ≤ 2 ^ 64)
    (keys : (t : ℕ) → t < top → Each (λ o. key o.called ≡ decimal t) (f t)) where
  later_differ : (j k n : ℕ) → j < k → k + n ≤ top → Each (λ o. key o.called ≡ decimal j → ⊥) (for_each f k n)
  later_differ j k zero low within = tt
  later_differ j k (suc n) low within =
      let here : k < top = omega (arith, within) in
      let high : k < 2 ^ 64 = omega (arith, here, small) in
      let next : j < suc k = omega (arith, low) in
      let rest : suc k + n ≤ top = omega (arith, within) in
      each_append (λ o. key o.called ≡ decimal j → ⊥) (f k) (for_each f (suc k) n)
      (each_more (λ o. key o.called ≡ decimal k) (λ o. key o.called ≡ decimal j → ⊥) (f k) (λ o is_k is_j. differ j k low high (sym is_j ∙ is_k)) (keys k here))
      (later_differ j (suc k) n next rest)

  pub apart_for_each : (k n : ℕ) → k + n ≤ top → ((t : ℕ) → t < top → Apart (f t)) → Apart (for_each f k n)
  apart_for_each k zero within own = tt
  apart_for_each k (suc n) within own =
      let here : k < top = omega (arith, within) in
      let next : k < suc k = omega arith in
      let rest : suc k + n ≤ top = omega (arith, within) in
      apart_append key (decimal k) (f k) (for_each f (suc k) n) (keys k here) (later_differ k (suc k) n next rest) (own k here)
      (apart_for_each (suc k) n rest own)

pub each_for_each : (P : Obligation → Type 0) (f : ℕ → List Obligation) (k n : ℕ) → ((t : ℕ) → Each P (f t)) → Each P (for_each f k n)
each_for_each P f k zero h = tt
each_for_each P f k (suc n) h = each_append P (f k) (for_each f (suc k) n) (h k) (each_for_each P f (suc k) n h)

-- ---- names with one beginning

rest_after : (text r : Name) → drop (length text) (text ++ r) ≡ r
rest_after [] r = refl
rest_after (c ∷ cs) r = rest_after cs r

pub cancelled : (text a b : Name) → text ++ a ≡ text ++ b → a ≡ b
cancelled text a b e = sym (rest_after text a) ∙ ap (drop (length text)) e ∙ rest_after text b

-- the obligations of invariants
pub apart_invariants : (p : Map) (text : Name) (cycles : ℕ) (hs : List Fact) (t : ℕ) → length p.invariants ≤ 2 ^ 64
    → Apart (invariant_obligations p text cycles hs t)
apart_invariants p text cycles hs t small =
    let fits : 0 + length p.invariants ≤ length p.invariants = omega arith in
    apart_for_each (λ k. line (numbered text k) cycles hs (invariant k t) ∷ []) (drop (length text)) (length p.invariants) small
    (λ k low. (rest_after text (decimal k), tt)) 0 (length p.invariants) fits (λ k low. (tt, tt))

pub each_invariant : (P : Name → Type 0) (p : Map) (text : Name) (cycles : ℕ) (hs : List Fact) (t : ℕ) → ((r : Name) → P (text ++ r))
    → Each (λ o. P o.called) (invariant_obligations p text cycles hs t)
each_invariant P p text cycles hs t h =
    each_for_each (λ o. P o.called) (λ k. line (numbered text k) cycles hs (invariant k t) ∷ []) 0 (length p.invariants) (λ k. (h (decimal k), tt))

-- the obligations of states
abbrev pub names_of_states : List StateDeclaration → List Name
names_of_states ds = map (λ d. d.state_name) ds

module _ (text : Name) (cycles : ℕ) (hs : List Fact) (claim : Name → Fact) where
  state_differs : (n : Name) (ds : List StateDeclaration) → Each (λ k. n ≡ k → ⊥) (names_of_states ds)
      → Each (λ q. text ++ n ≡ q.called → ⊥) (state_obligations text cycles hs claim ds)
  state_differs n [] h = tt
  state_differs n (d ∷ ds) h = (λ e. h.0 (cancelled text n d.state_name e), state_differs n ds h.1)

  pub apart_states : (ds : List StateDeclaration) → Distinct (names_of_states ds) → Apart (state_obligations text cycles hs claim ds)
  apart_states [] h = tt
  apart_states (d ∷ ds) h = (state_differs d.state_name ds h.0, apart_states ds h.1)

  pub each_state : (P : Name → Type 0) (ds : List StateDeclaration) → ((r : Name) → P (text ++ r))
      → Each (λ o. P o.called) (state_obligations text cycles hs claim ds)
  each_state P [] h = tt
  each_state P (d ∷ ds) h = (h d.state_name, each_state P ds h)

each_initial : (P : Name → Type 0) (ds : List StateDeclaration) → Each P (names_of_states ds) → Each P (names_of_states (with_initial_values ds))
each_initial P [] h = tt
each_initial P (d ∷ ds) h = by_test (is_some d.init) (each_initial P ds h.1)
  where
    by_test : (b : Bool) → Each P (names_of_states (with_initial_values ds))
        → Each P (names_of_states (cond b (d ∷ with_initial_values ds) (with_initial_values ds)))
    by_test true k = (h.0, k)
    by_test false k = k

pub distinct_initial : (ds : List StateDeclaration) → Distinct (names_of_states ds) → Distinct (names_of_states (with_initial_values ds))
distinct_initial [] h = tt
distinct_initial (d ∷ ds) h =
    by_test (is_some d.init) (each_initial (λ k. d.state_name ≡ k → ⊥) ds h.0) (distinct_initial ds h.1)
  where
    by_test : (b : Bool) → Each (λ k. d.state_name ≡ k → ⊥) (names_of_states (with_initial_values ds)) → Distinct (names_of_states (with_initial_values ds))
        → Distinct (names_of_states (cond b (d ∷ with_initial_values ds) (with_initial_values ds)))
    by_test true f k = (f, k)
    by_test false f k = k
