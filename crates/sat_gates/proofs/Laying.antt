-- Variables that are given out by ascending places of names.
use Rattle.std.proofs.Common.{◌≡◌, ◌≢◌, ◌∙◌, ℕ, zero, suc, ◌+◌, ◌-◌, ◌<◌, ◌≤◌, Bool, true, false, ◌||◌, cond, List, [], ◌∷◌, length, get_or, Option, Some, None, arith, refl, sym, ap, subst, inl, inr}
use Rattle.std.specs.List.{All, list_any}
use Rattle.std.specs.Ordering.{nat_cmp}
use Rattle.std.specs.BTreeMap.{is_at}
use Rattle.std.specs.BTreeMap.Range.{IsLtBy}
use Rattle.std.specs.Prelude.{nat_eq}
use Rattle.std.proofs.lemmas.Bool.Decides.{nat_tests}
use Rattle.std.proofs.lemmas.List.Elements.{All-nil, All-head, All-tail, All-weaker}
use Rattle.std.proofs.lemmas.Bool.{cases_eq, cases_lt, eq-eqb, ne_eqb}
use Rattle.wb_values.specs.Value.{Name, Sort, Entries}
use Rattle.sat_gates.specs.Layout.{bit_count, firsts_of, end_of, next_after}
use Rattle.sat_gates.specs.Used.{entry_at, listed}
use Rattle.sat_gates.proofs.Members.{less}

-- how many variables the names before a place have
abbrev pub total : Entries Sort → (ℕ → Bool) → ℕ → ℕ
total es f zero = 0
total es f (suc j) = next_after (total es f j) (entry_at es j).1 (f j)

-- the number is among the keys
abbrev pub among : List ℕ → ℕ → Bool
among keys q = list_any (is_at (nat_cmp q)) keys

same_at : (k q : ℕ) → is_at (nat_cmp k) q ≡ nat_eq k q
same_at k q = grind (arith, nat_tests)

here_at : (k : ℕ) → is_at (nat_cmp k) k ≡ true
here_at k = same_at k k ∙ eq-eqb k k refl

apart_at : (k q : ℕ) → k ≢ q → is_at (nat_cmp k) q ≡ false
apart_at k q d = same_at k q ∙ ne_eqb k q d

none_among : (keys : List ℕ) (q : ℕ) → All (λ k. q < k) keys → among keys q ≡ false
none_among [] q h = refl
none_among (k ∷ ks) q h =
    let i : q < k = All-head (λ x. q < x) k ks h in
    ap (λ t. t || among ks q) (apart_at q k (λ e. omega (arith, e, i))) ∙ none_among ks q (All-tail (λ x. q < x) k ks h)

-- The names before a place have their variables, and the names at the keys are still to come.
pub record IsLaying (es : Entries Sort) (f : ℕ → Bool) (keys : List ℕ) (m : ℕ → Option ℕ) (next b : ℕ) : Type 0 where
  pub next_is : next ≡ total es f b
  pub laid : (q : ℕ) → q < b → m q ≡ cond (f q) (Some (total es f q)) None
  pub free : (q : ℕ) → b ≤ q → m q ≡ None
  pub left : (q : ℕ) → b ≤ q → f q ≡ among keys q
  pub above : All (λ k. b ≤ k) keys
  pub inside : All (λ k. k < length es) keys
  pub room : b ≤ length es

pub laying_start : (es : Entries Sort) (keys : List ℕ) (m : ℕ → Option ℕ) → All (λ k. k < length es) keys → ((q : ℕ) → m q ≡ None) → IsLaying es (among keys) keys m 0 0
laying_start es keys m inside empty = record {
  next_is = refl;
  laid = λ q i. absurd (omega (arith, i));
  free = λ q i. empty q;
  left = λ q i. refl;
  above = λ k d i. omega arith;
  inside = inside;
  room = omega arith;
}

total_same : (es : Entries Sort) (f : ℕ → Bool) (b d : ℕ) → ((q : ℕ) → b ≤ q → q < b + d → f q ≡ false) → total es f (b + d) ≡ total es f b
total_same es f b zero h = ap (total es f) (omega arith)
total_same es f b (suc d) h =
    let s : b + suc d ≡ suc (b + d) = omega arith in
    ap (total es f) s
    ∙ (ap (λ t. next_after (total es f (b + d)) (entry_at es (b + d)).1 t) (h (b + d) (omega arith) (omega arith))
    ∙ total_same es f b d (λ q i j. h q i (omega (arith, j))))

total_up : (es : Entries Sort) (f : ℕ → Bool) (b k : ℕ) → b ≤ k → ((q : ℕ) → b ≤ q → q < k → f q ≡ false) → total es f k ≡ total es f b
total_up es f b k i h =
    let e : b + (k - b) ≡ k = omega (arith, i) in
    subst (λ x. total es f x ≡ total es f b) e (total_same es f b (k - b) (λ q low high. h q low (omega (arith, high, i))))

-- no key comes before the first one
gap : (es : Entries Sort) (f : ℕ → Bool) (k : ℕ) (rest keys : List ℕ) (m : ℕ → Option ℕ) (next b : ℕ) → keys ≡ k ∷ rest → All (IsLtBy nat_cmp k) rest → IsLaying es f keys m next b
    → (q : ℕ) → b ≤ q → q < k → f q ≡ false
gap es f k rest keys m next b e low h q i j =
    h.left q i ∙ (ap (λ ks. among ks q) e ∙ (ap (λ t. t || among rest q) (apart_at q k (λ s. omega (arith, s, j)))
    ∙ none_among rest q (All-weaker (IsLtBy nat_cmp k) (λ x. q < x) (λ x l. let y = less k x l in omega (arith, y, j)) rest low)))

pub laying_turn : (es : Entries Sort) (f : ℕ → Bool) (k : ℕ) (rest keys : List ℕ) (m more : ℕ → Option ℕ) (next after b : ℕ) → keys ≡ k ∷ rest → All (IsLtBy nat_cmp k) rest
    → ((q : ℕ) → more q ≡ cond (is_at (nat_cmp k) q) (Some next) (m q)) → after ≡ next + bit_count (entry_at es k).1
    → IsLaying es f keys m next b → IsLaying es f rest more after (k + 1)
laying_turn es f k rest keys m more next after b e low put counts h = record {
  next_is = counts ∙ (ap (λ n. n + bit_count (entry_at es k).1) next_at ∙ (ap (λ t. next_after (total es f k) (entry_at es k).1 t) (sym used) ∙ ap (total es f) one));
  laid = λ q i. elim (cases_eq q k) [
    | inl s ↦ subst (λ x. more x ≡ cond (f x) (Some (total es f x)) None) (sym s) new
    | inr d ↦ other q (λ s. d (sym s)) ∙ (elim (cases_lt q b) [
      | inl below ↦ h.laid q below
      | inr from ↦ h.free q from ∙ ap (λ t. cond t (Some (total es f q)) None) (sym (before q from (omega (arith, i, d))))
    ])
  ];
  free = λ q i. other q (λ s. omega (arith, s, i)) ∙ h.free q (omega (arith, i, from_b));
  left = λ q i. h.left q (omega (arith, i, from_b)) ∙ (ap (λ ks. among ks q) e ∙ ap (λ t. t || among rest q) (apart_at q k (λ s. omega (arith, s, i))));
  above = All-weaker (IsLtBy nat_cmp k) (λ x. k + 1 ≤ x) (λ x l. let y = less k x l in omega (arith, y)) rest low;
  inside = All-tail (λ x. x < length es) k rest all_inside;
  room = (let i = All-head (λ x. x < length es) k rest all_inside in omega (arith, i));
}
  where
    all_inside : All (λ x. x < length es) (k ∷ rest)
    all_inside = subst (All (λ x. x < length es)) e h.inside

    from_b : b ≤ k
    from_b = All-head (λ x. b ≤ x) k rest (subst (All (λ x. b ≤ x)) e h.above)

    before : (q : ℕ) → b ≤ q → q < k → f q ≡ false
    before = gap es f k rest keys m next b e low h

    next_at : next ≡ total es f k
    next_at = h.next_is ∙ sym (total_up es f b k from_b before)

    used : f k ≡ true
    used = h.left k from_b ∙ (ap (λ ks. among ks k) e ∙ ap (λ t. t || among rest k) (here_at k))

    one : suc k ≡ k + 1
    one = omega arith

    new : more k ≡ cond (f k) (Some (total es f k)) None
    new = put k ∙ (ap (λ t. cond t (Some next) (m k)) (here_at k) ∙ (ap Some next_at ∙ ap (λ t. cond t (Some (total es f k)) None) (sym used)))

    other : (q : ℕ) → k ≢ q → more q ≡ m q
    other q d = put q ∙ ap (λ t. cond t (Some next) (m q)) (apart_at k q d)

-- all names have their variables
all_laid : (es : Entries Sort) (f : ℕ → Bool) (m : ℕ → Option ℕ) (next b : ℕ) → IsLaying es f [] m next b → (q : ℕ) → m q ≡ cond (f q) (Some (total es f q)) None
all_laid es f m next b h q = elim (cases_lt q b) [
  | inl i ↦ h.laid q i
  | inr i ↦ h.free q i ∙ ap (λ t. cond t (Some (total es f q)) None) (sym (h.left q i))
]

firsts_same : (all : Entries Sort) (f : ℕ → Bool) (m : ℕ → Option ℕ) (b : ℕ) (es : Entries Sort) → ((j : ℕ) → j < length es → entry_at es j ≡ entry_at all (b + j))
    → ((q : ℕ) → m q ≡ cond (f q) (Some (total all f q)) None) → listed m b (length es) ≡ firsts_of (total all f b) es (listed f b (length es))
firsts_same all f m b [] same is = refl
firsts_same all f m b (e ∷ es) same is =
    let first : e ≡ entry_at all b = same 0 (omega arith) ∙ ap (entry_at all) (omega arith) in
    ap (λ o. o ∷ listed m (suc b) (length es)) (is b)
    ∙ ap (λ fs. cond (f b) (Some (total all f b)) None ∷ fs)
    (firsts_same all f m (suc b) es (λ j i. same (suc j) (omega (arith, i)) ∙ ap (entry_at all) (omega arith)) is
    ∙ ap (λ (x : Name × Sort). firsts_of (next_after (total all f b) x.1 (f b)) es (listed f (suc b) (length es))) (sym first))

end_same : (all : Entries Sort) (f : ℕ → Bool) (b : ℕ) (es : Entries Sort) → ((j : ℕ) → j < length es → entry_at es j ≡ entry_at all (b + j))
    → end_of (total all f b) es (listed f b (length es)) ≡ total all f (b + length es)
end_same all f b [] same = ap (total all f) (omega arith)
end_same all f b (e ∷ es) same =
    let first : e ≡ entry_at all b = same 0 (omega arith) ∙ ap (entry_at all) (omega arith) in
    ap (λ (x : Name × Sort). end_of (next_after (total all f b) x.1 (f b)) es (listed f (suc b) (length es))) first
    ∙ (end_same all f (suc b) es (λ j i. same (suc j) (omega (arith, i)) ∙ ap (entry_at all) (omega arith))
    ∙ ap (total all f) (omega arith))

pub laying_firsts : (es : Entries Sort) (f : ℕ → Bool) (keys : List ℕ) (m : ℕ → Option ℕ) (next b : ℕ) → keys ≡ [] → IsLaying es f keys m next b
    → listed m 0 (length es) ≡ firsts_of 0 es (listed f 0 (length es))
laying_firsts es f keys m next b e h =
    firsts_same es f m 0 es (λ j i. ap (entry_at es) (omega arith)) (all_laid es f m next b (subst (λ ks. IsLaying es f ks m next b) e h))

pub laying_end : (es : Entries Sort) (f : ℕ → Bool) (keys : List ℕ) (m : ℕ → Option ℕ) (next b : ℕ) → keys ≡ [] → IsLaying es f keys m next b
    → next ≡ end_of 0 es (listed f 0 (length es))
laying_end es f keys m next b e h =
    let n : 0 + length es ≡ length es = omega arith in
    h.next_is ∙ sym (end_same es f 0 es (λ j i. ap (entry_at es) (omega arith)) ∙ (ap (total es f) n ∙ total_up es f b (length es) h.room (λ q i j. h.left q i ∙ ap (λ ks. among ks q) e)))

pub laying_next : (es : Entries Sort) (f : ℕ → Bool) (k : ℕ) (rest keys : List ℕ) (m : ℕ → Option ℕ) (next b : ℕ) → keys ≡ k ∷ rest → IsLaying es f keys m next b → k < length es
laying_next es f k rest keys m next b e h = All-head (λ x. x < length es) k rest (subst (All (λ x. x < length es)) e h.inside)
