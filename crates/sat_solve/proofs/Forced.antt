-- How far a lemma leads back, as the walk goes down the trail; and the state behind it.
use Rattle.std.proofs.Common.{◌≡◌, ℕ, suc, ◌+◌, ◌<◌, ◌≤◌, ◌^◌, not, List, [], ◌∷◌, ◌++◌, length, drop, inl, inr, ⊎_elim, Option, Some, None, IsSome, MatchOption, refl, sym, ap, ◌∙◌, subst, arith}
use Rattle.std.specs.List.{Contains, slice_get}
use Rattle.std.proofs.lemmas.Bool.{cases_lt, false≢true}
use Rattle.std.proofs.lemmas.List.{length_push, drop-drop}
use Rattle.std.proofs.lemmas.List.Elements.{Contains-push_cases}
use Rattle.std.proofs.lemmas.Option.{slice_get_within}
use Rattle.sat_base.specs.declared.literals.Lit.{Lit}
use Rattle.sat_base.specs.declared.logs.Lemma.{Lemma}
use Rattle.sat_base.specs.Literal.{negation}
use Rattle.sat_base.specs.Formula.{Formula, IsClauseOver}
use Rattle.sat_base.specs.Log.{HasEachVariableOnce}
use Rattle.sat_base.specs.Propagation.{Follows, IsNew}
use Rattle.sat_solve.specs.declared.trail.Entry.{Entry}
use Rattle.sat_solve.specs.Trail.{sign_at, IsFalseIn, IsUnit, HasTwoOpen, IsSettled, IsClosed, IsReason, IsSound}
use Rattle.sat_solve.specs.Kept.{TrailView}
use Rattle.sat_solve.specs.State.{known_clauses, IsState}
use Rattle.sat_solve.specs.Decisions.{IsDecisionAt, IsUndecided, IsBelowLevel}
use Rattle.sat_solve.specs.Lesson.{IsBound, IsForcedFrom, IsLesson, IsDescended}
use Rattle.sat_solve.proofs.Signs.{Contains-head, Contains-tail, Contains-cases, Contains-none}
use Rattle.sat_solve.proofs.NewLemma.{IsNew-below, IsStable-closed, is_false}
use Rattle.sat_solve.proofs.Places.{IsSound-drop, step_at, closed_at, sign_from, none_from, negation_false, slice_get-drop}
use Rattle.sat_solve.proofs.StateLemmas.{length-known}
use Rattle.sat_solve.proofs.LogLemmas.{slice_get-left, slice_get-push, known_clauses-push, IsSpent-push}

-- The clause is settled below each decision of the trail.
abbrev pub IsSettledAtDecisions : List Lit → List Entry → Type 0
IsSettledAtDecisions clause [] = Unit {0}
IsSettledAtDecisions clause (e ∷ older) = MatchOption e.reason (IsSettled older clause) (λ _. Unit {0}) × IsSettledAtDecisions clause older

at_decision : (r : Option ℕ) (clause : List Lit) (older : List Entry) → (r ≡ None → IsSettled older clause) → MatchOption r (IsSettled older clause) (λ _. Unit {0})
at_decision None clause older h = h refl
at_decision (Some r) clause older h = tt

settled_by_places : (clause : List Lit) (trail : List Entry) → ((k : ℕ) → IsDecisionAt trail k → IsSettled (drop (suc k) trail) clause) → IsSettledAtDecisions clause trail
settled_by_places clause [] h = tt
settled_by_places clause (e ∷ older) h = (
  at_decision e.reason clause older (λ decided. h 0 (e, refl, decided)),
  settled_by_places clause older (λ k d. h (suc k) d),
)

cause_more : (clauses : List (List Lit)) (lemma : List Lit) (older : List Entry) (x : Lit) (r : Option ℕ) → MatchOption r (IsSettled older lemma) (λ _. Unit {0}) → MatchOption r (IsClosed clauses older) (IsReason clauses older x) → MatchOption r (IsClosed (clauses ++ lemma ∷ []) older) (IsReason (clauses ++ lemma ∷ []) older x)
cause_more clauses lemma older x None settled closed = λ c h. ⊎_elim (λ old. closed c old) (λ (new : lemma ≡ c). subst (λ y. IsSettled older y) new settled) (Contains-push_cases clauses lemma c h)
cause_more clauses lemma older x (Some r) settled reason = (reason.0, slice_get-left clauses (lemma ∷ []) r reason.0 reason.1, reason.2)

-- A sound trail stays so behind a lemma that is settled below each decision.
pub IsSound-more : (clauses : List (List Lit)) (lemma : List Lit) (trail : List Entry) → IsSound clauses trail → IsSettledAtDecisions lemma trail → IsSound (clauses ++ lemma ∷ []) trail
IsSound-more clauses lemma [] s settled = tt
IsSound-more clauses lemma (e ∷ older) s settled = (record { fresh = s.0.fresh; cause = cause_more clauses lemma older e.lit e.reason settled.0 s.0.cause }, IsSound-more clauses lemma older s.1 settled.1)

-- Behind a lemma that is settled below each decision and forces l on the trail, the trail may go on with l.
pub IsSound-forced : (clauses : List (List Lit)) (lemma : List Lit) (trail : List Entry) (l : Lit) (n : ℕ) → n ≡ length clauses → IsSound clauses trail → IsSettledAtDecisions lemma trail → sign_at trail l.var ≡ None → IsUnit trail lemma l → IsSound (clauses ++ lemma ∷ []) (record { lit = l; reason = Some n } ∷ trail)
IsSound-forced clauses lemma trail l n is s settled fresh unit = (
  record {
    fresh = fresh;
    cause = (lemma, subst (λ k. slice_get (clauses ++ lemma ∷ []) k ≡ Some lemma) (sym is) (slice_get-push clauses lemma), unit);
  },
  IsSound-more clauses lemma trail s settled,
)

pub some_reason : (o : Option ℕ) (r : ℕ) → o ≡ Some r → IsSome o
some_reason None r h = cc
some_reason (Some n) r h = refl

pub no_reason : (e d : Entry) (k : ℕ) (trail : List Entry) → slice_get trail k ≡ Some e → slice_get trail k ≡ Some d → d.reason ≡ None → IsSome e.reason → ⊥
no_reason e d k trail ate atd none some =
    let same : Some e ≡ Some d = sym ate ∙ atd in
    let is : e.reason ≡ None = let eq : e ≡ d = cc in ap (λ (y : Entry). y.reason) eq ∙ none in
    let gone : IsSome {T = ℕ} None = subst (λ (o : Option ℕ). IsSome o) is some in
    absurd (false≢true gone)

module _ (clauses : List (List Lit)) (trail : List Entry) (sound : IsSound clauses trail) where
  bound_passed : (back k : ℕ) (rest : List Lit) → (rest ≡ [] → (e : Entry) → slice_get trail k ≡ Some e → IsSome e.reason) → IsBound trail back k rest → IsBound trail back (k + 1) rest
  bound_passed back k [] has b = λ j e low high at. ⊎_elim
      (λ below. b j e low below at)
      (λ above. let same : j ≡ k = omega arith in has refl e (subst (λ n. slice_get trail n ≡ Some e) same at))
      (cases_lt j k)
  bound_passed back k (y ∷ more) has b = b

  bound_kept : (back k : ℕ) (e : Entry) (rest : List Lit) → slice_get trail k ≡ Some e → IsBound trail back k rest → IsBound trail back (k + 1) (rest ++ negation e.lit ∷ [])
  bound_kept back k e [] at b = λ j low d. ⊎_elim
      (λ (below : j < k). absurd (no_reason d.0 d.0 j trail d.1 d.1 d.2 (b j d.0 low below d.1)))
      (λ (above : k ≤ j). none_from clauses trail (k + 1) (j + 1) e.lit.var sound (omega arith) (step_at clauses trail k e sound at).fresh)
      (cases_lt j k)
  bound_kept back k e (y ∷ more) at b = b

  pub bound_end : (back k n : ℕ) (rest : List Lit) → 0 < length rest → IsBound trail back k rest → IsBound trail back n rest
  bound_end back k n [] some b = absurd (omega (arith, some))
  bound_end back k n (y ∷ more) some b = b

  pub forced_passed : (start back k : ℕ) (lits : List Lit) → (f : IsForcedFrom trail start back k lits) → (f.rest ≡ [] → (e : Entry) → slice_get trail k ≡ Some e → IsSome e.reason) → IsForcedFrom trail start back (k + 1) lits
  forced_passed start back k lits f has = record {
    point = f.point;
    rest = f.rest;
    lits_are = f.lits_are;
    ordered = f.ordered;
    decision = f.decision;
    point_open = f.point_open;
    rest_false = f.rest_false;
    bound = bound_passed back k f.rest has f.bound;
  }

  pub forced_kept : (start back k : ℕ) (e : Entry) (lits : List Lit) → back ≤ k → slice_get trail k ≡ Some e → IsForcedFrom trail start back k lits → IsForcedFrom trail start back (k + 1) (lits ++ negation e.lit ∷ [])
  forced_kept start back k e lits le at f = record {
    point = f.point;
    rest = f.rest ++ negation e.lit ∷ [];
    lits_are = ap (λ ls. ls ++ negation e.lit ∷ []) f.lits_are;
    ordered = f.ordered;
    decision = f.decision;
    point_open = f.point_open;
    rest_false = λ x h. ⊎_elim
        (λ old. f.rest_false x old)
        (λ (is : negation e.lit ≡ x). subst (λ y. IsFalseIn (drop back trail) y) is (negation_false clauses trail back k e sound le at))
        (Contains-push_cases f.rest (negation e.lit) x h);
    bound = bound_kept back k e f.rest at f.bound;
  }

  -- a decision is undone where there is no other literal
  pub forced_lower : (start back k : ℕ) (lits : List Lit) → back ≤ k → IsDecisionAt trail k → (f : IsForcedFrom trail start back k lits) → f.rest ≡ [] → IsForcedFrom trail start (k + 1) (k + 1) lits
  forced_lower start back k lits le d f none = record {
    point = f.point;
    rest = [];
    lits_are = f.lits_are ∙ ap (λ ls. f.point ∷ ls) none;
    ordered = omega (arith, f.ordered, le);
    decision = (k, refl, d);
    point_open = f.point_open;
    rest_false = λ x h. absurd (Contains-none x h);
    bound = λ j e low high at. absurd (omega (arith, low, high));
  }

  pub forced_start : (place : ℕ) (e : Entry) (lits : List Lit) → IsDecisionAt trail place → lits ≡ negation e.lit ∷ [] → ((x : Lit) → Contains lits x → sign_at (drop (place + 1) trail) x.var ≡ None) → IsForcedFrom trail (place + 1) (place + 1) (place + 1) lits
  forced_start place e lits d is passed = record {
    point = negation e.lit;
    rest = [];
    lits_are = is;
    ordered = omega arith;
    decision = (place, refl, d);
    point_open = passed (negation e.lit) (subst (λ ls. Contains ls (negation e.lit)) (sym is) (Contains-head [] (negation e.lit)));
    rest_false = λ x h. absurd (Contains-none x h);
    bound = λ j x low high at. absurd (omega (arith, low, high));
  }

  pub forced_at_level : (k start : ℕ) (e : Entry) (lits : List Lit) → (level : IsBelowLevel trail start) → k ≤ start → lits ≡ negation e.lit ∷ [] → ((x : Lit) → Contains lits x → sign_at (drop k trail) x.var ≡ None) → IsForcedFrom trail start start start lits
  forced_at_level k start e lits level le is passed =
      subst (λ n. IsForcedFrom trail n n n lits) (sym level.is)
      (forced_start level.place e lits level.decided is (λ x h. none_from clauses trail k (level.place + 1) x.var sound (omega (arith, le, level.is)) (passed x h)))

  rest_length : (point : Lit) (lits rest : List Lit) → lits ≡ point ∷ rest → length lits ≤ 1 → rest ≡ []
  rest_length point lits [] is le = refl
  rest_length point lits (y ∷ more) is le = absurd (let n : length lits ≡ suc (suc (length more)) = ap length is in omega (arith, n, le))

  some_rest : (point : Lit) (lits rest : List Lit) → lits ≡ point ∷ rest → 1 < length lits → rest ≡ [] → ⊥
  some_rest point lits rest is some none = let n : length lits ≡ suc (length rest) = ap length is in let z : length rest ≡ 0 = ap length none in omega (arith, n, z, some)

  pub descended_more : (start back k : ℕ) (e : Entry) (lits : List Lit) → slice_get trail k ≡ Some e → 1 < length lits → IsDescended trail start back k lits → IsForcedFrom trail start back (k + 1) lits
  descended_more start back k e lits at some d = ⊎_elim
      (λ (same : lits ≡ d.0). subst (λ ls. IsForcedFrom trail start back (k + 1) ls) (sym same) (forced_passed start back k d.0 d.1 (λ none. absurd (some_rest d.1.point lits d.1.rest (same ∙ d.1.lits_are) some none))))
      (λ kept. subst (λ ls. IsForcedFrom trail start back (k + 1) ls) (sym kept) (forced_kept start back k e d.0 d.2 at d.1))
      (d.3 e at)

  pub descended_reason : (start back k : ℕ) (e : Entry) (lits : List Lit) → slice_get trail k ≡ Some e → IsSome e.reason → IsDescended trail start back k lits → IsForcedFrom trail start back (k + 1) lits
  descended_reason start back k e lits at some d = ⊎_elim
      (λ (same : lits ≡ d.0). subst (λ ls. IsForcedFrom trail start back (k + 1) ls) (sym same) (forced_passed start back k d.0 d.1 (λ none x h. let both : Some e ≡ Some x = sym at ∙ h in subst (λ (y : Entry). IsSome y.reason) (let is : e ≡ x = cc in is) some)))
      (λ kept. subst (λ ls. IsForcedFrom trail start back (k + 1) ls) (sym kept) (forced_kept start back k e d.0 d.2 at d.1))
      (d.3 e at)

  pub descended_lower : (start back k : ℕ) (e : Entry) (lits : List Lit) → slice_get trail k ≡ Some e → e.reason ≡ None → length lits ≤ 1 → IsDescended trail start back k lits → IsForcedFrom trail start (k + 1) (k + 1) lits
  descended_lower start back k e lits at none le d = ⊎_elim
      (λ (same : lits ≡ d.0). subst (λ ls. IsForcedFrom trail start (k + 1) (k + 1) ls) (sym same) (forced_lower start back k d.0 d.2 (e, at, none) d.1 (rest_length d.1.point lits d.1.rest (same ∙ d.1.lits_are) le)))
      (λ kept. absurd (
      let n : length lits ≡ length d.0 + 1 = ap length kept ∙ length_push d.0 (negation e.lit) in
      let m : length d.0 ≡ suc (length d.1.rest) = ap length d.1.lits_are in
      omega (arith, n, m, le)))
      (d.3 e at)

  -- the new lemma, by what stands below the last decision
  lesson_from : (place back : ℕ) (lits : List Lit) → IsDecisionAt trail place → IsForcedFrom trail (place + 1) back (length trail) lits → IsLesson clauses trail lits back
  lesson_from place back lits d f =
      let below = drop (place + 1) trail in
      let closed = closed_at clauses trail place sound d in
      record {
        new = subst (λ c. IsNew clauses c) (sym f.lits_are) (IsNew-below clauses below (f.point ∷ f.rest) f.point closed
            (Contains-head f.rest f.point)
            (λ t. let k : None ≡ Some f.point.negative = sym f.point_open ∙ t in cc)
            (λ x h. ⊎_elim (λ same. inl same) (λ old. inr (sign_from clauses trail (place + 1) back x.var (not x.negative) sound f.ordered (f.rest_false x old))) (Contains-cases f.rest f.point x h)));
        quiet = (is_false below, IsStable-closed clauses below closed);
        start = place + 1;
        forced = f;
      }

  pub lesson_at : (start back : ℕ) (lits : List Lit) → IsBelowLevel trail start → IsForcedFrom trail start back (length trail) lits → IsLesson clauses trail lits back
  lesson_at start back lits level f = lesson_from level.place back lits level.decided (subst (λ n. IsForcedFrom trail n back (length trail) lits) level.is f)

  -- settled below each decision that stays
  module _ (start back : ℕ) (lits : List Lit) (f : IsForcedFrom trail start back (length trail) lits) (once : HasEachVariableOnce lits) where
    point_below : (k : ℕ) → back ≤ k → sign_at (drop k trail) f.point.var ≡ None
    point_below k le = none_from clauses trail start k f.point.var sound (omega (arith, f.ordered, le)) f.point_open

    own : Contains lits f.point
    own = subst (λ ls. Contains ls f.point) (sym f.lits_are) (Contains-head f.rest f.point)

    open_not_false : (older : List Entry) (x : Lit) → sign_at older x.var ≡ None → ¬ IsFalseIn older x
    open_not_false older x o h = let k : None ≡ Some (not x.negative) = sym o ∙ h in cc

    two_by : (k : ℕ) (y : Lit) (more rest : List Lit) → rest ≡ y ∷ more → lits ≡ f.point ∷ rest → back ≤ k → sign_at (drop (k + 1) trail) y.var ≡ None → HasTwoOpen (drop (k + 1) trail) lits
    two_by k y more rest is are le none =
        let all : lits ≡ f.point ∷ y ∷ more = are ∙ ap (λ ls. f.point ∷ ls) is in
        let pair : HasEachVariableOnce (f.point ∷ y ∷ more) = subst HasEachVariableOnce all once in
        record {
          one = f.point;
          two = y;
          one_in = own;
          two_in = subst (λ ls. Contains ls y) (sym all) (Contains-tail (y ∷ more) f.point y (Contains-head more y));
          differ = λ same. pair 0 1 y (omega arith) (omega arith) (ap (λ (l : Lit). l.var) same);
          one_open = open_not_false (drop (k + 1) trail) f.point (point_below (k + 1) (omega (arith, le)));
          two_open = open_not_false (drop (k + 1) trail) y none;
        }

    settled_by_rest : (rest : List Lit) → lits ≡ f.point ∷ rest → IsBound trail back (length trail) rest → (k : ℕ) → back ≤ k → IsDecisionAt trail k → IsSettled (drop (k + 1) trail) lits
    settled_by_rest [] are b k le d = absurd (no_reason d.0 d.0 k trail d.1 d.1 d.2 (b k d.0 le (slice_get_within trail k d.0 d.1) d.1))
    settled_by_rest (y ∷ more) are b k le d = inr (two_by k y more (y ∷ more) refl are le (b k le d))

    pub settled_back : IsSettledAtDecisions lits (drop back trail)
    settled_back = settled_by_places lits (drop back trail) (λ k d. settled_there k d)
      where
        drop_both : (t : List Entry) (j k : ℕ) → drop (suc k) (drop j t) ≡ drop ((j + k) + 1) t
        drop_both t j k = let n : j + suc k ≡ (j + k) + 1 = omega arith in drop-drop (suc k) j t ∙ ap (λ m. drop m t) n

        settled_there : (k : ℕ) → IsDecisionAt (drop back trail) k → IsSettled (drop (suc k) (drop back trail)) lits
        settled_there k d =
            let there : slice_get trail (back + k) ≡ Some d.0 = sym (slice_get-drop trail back k) ∙ d.1 in
            let same : drop (suc k) (drop back trail) ≡ drop ((back + k) + 1) trail = drop_both trail back k in
            subst (λ t. IsSettled t lits) (sym same) (settled_by_rest f.rest f.lits_are f.bound (back + k) (omega arith) (d.0, there, d.2))

    pub point_fresh : sign_at (drop back trail) f.point.var ≡ None
    point_fresh = point_below back (omega arith)

    pub unit_back : IsUnit (drop back trail) lits f.point
    unit_back = record {
      own = own;
      others = λ x h. ⊎_elim (λ same. inl same) (λ old. inr (f.rest_false x old)) (Contains-cases f.rest f.point x (subst (λ ls. Contains ls x) f.lits_are h));
    }

-- The state behind a lemma, with its point on the trail.
pub IsState-learnt : (f : Formula) (log : List Lemma) (trail : TrailView) (s : Lemma) (back : ℕ) (l : Lit) (n : ℕ) → IsState f log trail → IsClauseOver trail.vars s.lits → HasEachVariableOnce s.lits → Follows (known_clauses f log) s.lits s.hints → (lesson : IsLesson (known_clauses f log) trail.entries s.lits back) → l ≡ lesson.forced.point → n ≡ length f.clauses + length log → n + 1 < 2 ^ 64 → length (drop back trail.entries) < trail.vars → IsState f (log ++ s ∷ []) (record { vars = trail.vars; entries = record { lit = l; reason = Some n } ∷ drop back trail.entries })
IsState-learnt f log trail s back l n state known once follows lesson is number small short =
    let clauses = known_clauses f log in
    let t = trail.entries in
    let at = lesson.forced in
    record {
      vars = state.vars;
      short = omega (arith, short);
      known = state.known;
      numbered = omega (arith, number, small, length_push log s);
      logged = IsSpent-push f log s state.logged (subst (λ m. IsClauseOver m s.lits) state.vars known) once follows lesson.new;
      sound = subst (λ cs. IsSound cs (record { lit = l; reason = Some n } ∷ drop back t)) (sym (known_clauses-push f log s))
          (subst (λ (x : Lit). IsSound (clauses ++ s.lits ∷ []) (record { lit = x; reason = Some n } ∷ drop back t)) (sym is)
          (IsSound-forced clauses s.lits (drop back t) at.point n (number ∙ sym (length-known f log)) (IsSound-drop clauses t back state.sound)
          (settled_back clauses t state.sound lesson.start back s.lits at once)
          (point_fresh clauses t state.sound lesson.start back s.lits at once)
          (unit_back clauses t state.sound lesson.start back s.lits at once)));
    }

pub undecided_level : (trail : List Entry) (start : ℕ) → IsBelowLevel trail start → IsUndecided trail 0 (length trail) → ⊥
undecided_level trail start level none =
    let d = level.decided in
    no_reason d.0 d.0 level.place trail d.1 d.1 d.2 (none level.place d.0 (omega arith) (slice_get_within trail level.place d.0 d.1) d.1)
