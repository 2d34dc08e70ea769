-- That a lemma follows by the hints that a walk back over the trail gathers, whatever it takes into the lemma.
use Rattle.std.proofs.Common.{◌≡◌, ◌≢◌, ℕ, ◌+◌, ◌-◌, ◌<◌, ◌≤◌, Bool, true, false, not, List, [], ◌∷◌, ◌++◌, length, drop, reverse, get_or, ◌⊎◌, inl, inr, ⊎_elim, Some, None, refl, sym, ap, ◌∙◌, subst, arith}
use Rattle.std.specs.List.{Contains, slice_get}
use Rattle.std.proofs.lemmas.Bool.{false≢true, cases_eq}
use Rattle.std.proofs.lemmas.List.{reverse-append, length-reverse, length_push, drop_all}
use Rattle.std.proofs.lemmas.List.Elements.{All-push, Contains-get_or, Contains-append_left, Contains-push, Contains-push_cases}
use Rattle.std.proofs.lemmas.List.Quantifiers.{all_pairs_push}
use Rattle.sat_base.specs.declared.literals.Lit.{Lit}
use Rattle.sat_base.specs.Literal.{negation}
use Rattle.sat_base.specs.Propagation.{Follows}
use Rattle.sat_solve.specs.declared.trail.Entry.{Entry}
use Rattle.sat_solve.specs.Trail.{sign_at, IsFalseIn, IsConflict, IsUnit, IsSound}
use Rattle.sat_solve.specs.Walk.{is_marked, IsReached, Completes, IsWalked}
use Rattle.sat_solve.proofs.Signs.{Contains-head, Contains-tail, Contains-cases, Contains-none, not-not, sign_here, sign_other, sign_kept, is_negation}
use Rattle.sat_solve.proofs.Places.{drop-entry, step_at, reason_at, sign_from, none_from, negation_false, sign_between}

-- at the conflict, with the variables of its clause marked
pub Completes-conflict : (clauses : List (List Lit)) (trail : List Entry) (marks : List Bool) (k : ℕ) (c : List Lit) → slice_get clauses k ≡ Some c → IsConflict trail c → ((x : Lit) → Contains c x → is_marked marks x.var ≡ true) → Completes clauses trail [] marks (k ∷ [])
Completes-conflict clauses trail marks k c at conflict all falsified r = (c, at, λ x h. r.marked_in x (conflict x h) (all x h))

no_more_kept : (e : Entry) (older : List Entry) (lits : List Lit) (marks : List Bool) (falsified : List Lit) → sign_at older e.lit.var ≡ None → IsReached older lits marks falsified → (x : Lit) → Contains falsified x → Contains lits x ⊎ IsFalseIn (e ∷ older) x
no_more_kept e older lits marks falsified fresh r x i = ⊎_elim (λ a. inl a) (λ f. inr (sign_kept e older x.var (not x.negative) fresh f)) (r.no_more x i)

false_here : (e : Entry) (older : List Entry) → IsFalseIn (e ∷ older) (negation e.lit)
false_here e older = sign_here e older e.lit.var refl ∙ ap Some (sym (not-not e.lit.negative))

-- an entry that is not marked gives no hint
pub Completes-passed : (clauses : List (List Lit)) (e : Entry) (older : List Entry) (lits : List Lit) (marks : List Bool) (hints : List ℕ) → sign_at older e.lit.var ≡ None → is_marked marks e.lit.var ≡ false → Completes clauses (e ∷ older) lits marks hints → Completes clauses older lits marks hints
Completes-passed clauses e older lits marks hints fresh off h falsified r = h falsified record {
  lits_in = r.lits_in;
  no_more = no_more_kept e older lits marks falsified fresh r;
  marked_in = λ x f m. ⊎_elim
      (λ (same : e.lit.var ≡ x.var). absurd (false≢true (sym off ∙ ap (is_marked marks) same ∙ m)))
      (λ other. r.marked_in x (sym (sign_other e older x.var other) ∙ f) m)
      (cases_eq e.lit.var x.var);
}

-- an entry whose opposite goes into the lemma gives no hint
pub Completes-kept : (clauses : List (List Lit)) (e : Entry) (older : List Entry) (lits : List Lit) (marks less : List Bool) (hints : List ℕ) → sign_at older e.lit.var ≡ None → ((v : ℕ) → v ≢ e.lit.var → is_marked marks v ≡ true → is_marked less v ≡ true) → Completes clauses (e ∷ older) lits marks hints → Completes clauses older (lits ++ negation e.lit ∷ []) less hints
Completes-kept clauses e older lits marks less hints fresh stays h falsified r = h falsified record {
  lits_in = λ x a. r.lits_in x (Contains-append_left lits (negation e.lit ∷ []) x a);
  no_more = λ x i. ⊎_elim
      (λ a. ⊎_elim (λ old. inl old) (λ (is : negation e.lit ≡ x). inr (subst (λ y. IsFalseIn (e ∷ older) y) is (false_here e older))) (Contains-push_cases lits (negation e.lit) x a))
      (λ f. inr (sign_kept e older x.var (not x.negative) fresh f))
      (r.no_more x i);
  marked_in = λ x f m. ⊎_elim
      (λ (same : e.lit.var ≡ x.var). subst (λ y. Contains falsified y) (is_negation e older x same f) (r.lits_in (negation e.lit) (Contains-push lits (negation e.lit))))
      (λ other. r.marked_in x (sym (sign_other e older x.var other) ∙ f) (stays x.var (λ s. other (sym s)) m))
      (cases_eq e.lit.var x.var);
}

-- Any other entry gives its reason as a hint, and the other variables of the reason are marked from there on.
pub Completes-expanded : (clauses : List (List Lit)) (e : Entry) (older : List Entry) (lits : List Lit) (marks more : List Bool) (hint next : ℕ) (hints : List ℕ) (c : List Lit) → sign_at older e.lit.var ≡ None → slice_get clauses hint ≡ Some c → IsUnit older c e.lit → ((x : Lit) → Contains lits x → ¬ (e.lit.var ≡ x.var)) → ((v : ℕ) → v ≢ e.lit.var → is_marked marks v ≡ true → is_marked more v ≡ true) → ((x : Lit) → Contains c x → x.var ≢ e.lit.var → is_marked more x.var ≡ true) → Completes clauses (e ∷ older) lits marks (next ∷ hints) → Completes clauses older lits more (hint ∷ next ∷ hints)
Completes-expanded clauses e older lits marks more hint next hints c fresh at unit apart stays all h falsified r =
    let no_value : (x : Lit) → e.lit.var ≡ x.var → ¬ IsFalseIn older x = λ x same f. let k : Some (not x.negative) ≡ None = sym f ∙ ap (λ w. sign_at older w) (sym same) ∙ fresh in cc in
    let not_in : (x : Lit) → e.lit.var ≡ x.var → ¬ Contains falsified x = λ x same i. ⊎_elim (λ a. apart x a same) (λ f. no_value x same f) (r.no_more x i) in (
      c,
      at,
      e.lit,
      record {
        own = unit.own;
        unfalsified = not_in e.lit refl;
        others = λ m i. ⊎_elim (λ same. inl same) (λ f. inr (r.marked_in m f (all m i (λ same. no_value m (sym same) f)))) (unit.others m i);
      },
      not_in (negation e.lit) refl,
      h (negation e.lit ∷ falsified) record {
        lits_in = λ x a. Contains-tail falsified (negation e.lit) x (r.lits_in x a);
        no_more = λ x i. ⊎_elim
            (λ (is : x ≡ negation e.lit). inr (rw is (false_here e older)))
            (λ old. no_more_kept e older lits more falsified fresh r x old)
            (Contains-cases falsified (negation e.lit) x i);
        marked_in = λ x f m. ⊎_elim
            (λ (same : e.lit.var ≡ x.var). subst (λ y. Contains (negation e.lit ∷ falsified) y) (is_negation e older x same f) (Contains-head falsified (negation e.lit)))
            (λ other. Contains-tail falsified (negation e.lit) x (r.marked_in x (sym (sign_other e older x.var other) ∙ f) (stays x.var (λ s. other (sym s)) m)))
            (cases_eq e.lit.var x.var);
      },
    )

-- further down, where nothing between is marked
pub Completes-below : (clauses : List (List Lit)) (newer older : List Entry) (lits : List Lit) (marks : List Bool) (hints : List ℕ) → ((x : Lit) → IsFalseIn older x → IsFalseIn newer x) → ((x : Lit) → IsFalseIn newer x → is_marked marks x.var ≡ true → IsFalseIn older x) → Completes clauses newer lits marks hints → Completes clauses older lits marks hints
Completes-below clauses newer older lits marks hints up down h falsified r = h falsified record {
  lits_in = r.lits_in;
  no_more = λ x i. ⊎_elim (λ a. inl a) (λ f. inr (up x f)) (r.no_more x i);
  marked_in = λ x f m. r.marked_in x (down x f m) m;
}

-- where nothing is looked at any more the lemma follows
pub Follows-completed : (clauses : List (List Lit)) (older : List Entry) (lits : List Lit) (marks : List Bool) (hints : List ℕ) → ((x : Lit) → IsFalseIn older x → is_marked marks x.var ≡ true → ⊥) → Completes clauses older lits marks hints → Follows clauses lits hints
Follows-completed clauses older lits marks hints none h = h lits record {
  lits_in = λ x i. i;
  no_more = λ x i. inl i;
  marked_in = λ x f m. absurd (none x f m);
}

-- the start of the walk
pub IsWalked-start : (clauses : List (List Lit)) (trail : List Entry) (vars : ℕ) (marks : List Bool) (k : ℕ) (c : List Lit) (lits : List Lit) (numbers before : List ℕ) → length marks ≡ vars → (conflict : (d : List Lit) × (slice_get clauses k ≡ Some d) × IsConflict trail d) → slice_get clauses k ≡ Some c → ((x : Lit) → Contains c x → is_marked marks x.var ≡ true) → lits ≡ [] → before ≡ [] → numbers ≡ before ++ k ∷ [] → IsWalked clauses trail vars 0 marks lits numbers
IsWalked-start clauses trail vars marks k c lits numbers before sized conflict named all empty none is =
    let same : conflict.0 ≡ c = let both : Some conflict.0 ≡ Some c = sym conflict.1 ∙ named in cc in
    let one : numbers ≡ k ∷ [] = is ∙ ap (λ xs. xs ++ k ∷ []) none in
    subst (λ ns. IsWalked clauses trail vars 0 marks lits ns) (sym one)
    (subst (λ ls. IsWalked clauses trail vars 0 marks ls (k ∷ [])) (sym empty) record {
      sized = sized;
      some = omega arith;
      known = λ i d l. absurd (omega (arith, l));
      once = λ i j d low high. absurd (omega (arith, high));
      passed = λ x h. absurd (Contains-none x h);
      falsified = λ x h. absurd (Contains-none x h);
      completes = Completes-conflict clauses trail marks k c named (subst (λ y. IsConflict trail y) same conflict.2) all;
    })

module _ (clauses : List (List Lit)) (trail : List Entry) (vars k : ℕ) (e : Entry) (sound : IsSound clauses trail) (at : slice_get trail k ≡ Some e) where
  fresh : sign_at (drop (k + 1) trail) e.lit.var ≡ None
  fresh = (step_at clauses trail k e sound at).fresh

  from_here : (lits : List Lit) (marks : List Bool) (hints : List ℕ) → Completes clauses (drop k trail) lits marks hints → Completes clauses (e ∷ drop (k + 1) trail) lits marks hints
  from_here lits marks hints h = subst (λ t. Completes clauses t lits marks hints) (drop-entry trail k e at) h

  passed_more : (lits : List Lit) → ((x : Lit) → Contains lits x → sign_at (drop k trail) x.var ≡ None) → (x : Lit) → Contains lits x → sign_at (drop (k + 1) trail) x.var ≡ None
  passed_more lits passed x h = none_from clauses trail k (k + 1) x.var sound (omega arith) (passed x h)

  -- the entry's variable is not one of the lemma's so far
  apart : (lits : List Lit) → ((x : Lit) → Contains lits x → sign_at (drop k trail) x.var ≡ None) → (x : Lit) → Contains lits x → ¬ (e.lit.var ≡ x.var)
  apart lits passed x h same =
      let here : sign_at (drop k trail) x.var ≡ Some e.lit.negative = ap (λ t. sign_at t x.var) (drop-entry trail k e at) ∙ sign_here e (drop (k + 1) trail) x.var same in
      let n : None ≡ Some e.lit.negative = sym (passed x h) ∙ here in
      cc

  pub IsWalked-passed : (marks : List Bool) (lits : List Lit) (numbers : List ℕ) → is_marked marks e.lit.var ≡ false → IsWalked clauses trail vars k marks lits numbers → IsWalked clauses trail vars (k + 1) marks lits numbers
  IsWalked-passed marks lits numbers off w = record {
    sized = w.sized;
    some = w.some;
    known = w.known;
    once = w.once;
    passed = passed_more lits w.passed;
    falsified = w.falsified;
    completes = Completes-passed clauses e (drop (k + 1) trail) lits marks (reverse numbers) fresh off (from_here lits marks (reverse numbers) w.completes);
  }

  pub IsWalked-kept : (marks less : List Bool) (lits : List Lit) (numbers : List ℕ) → length less ≡ length marks → e.lit.var < vars → ((v : ℕ) → v ≢ e.lit.var → is_marked marks v ≡ true → is_marked less v ≡ true) → IsWalked clauses trail vars k marks lits numbers → IsWalked clauses trail vars (k + 1) less (lits ++ negation e.lit ∷ []) numbers
  IsWalked-kept marks less lits numbers sized within stays w = record {
    sized = sized ∙ w.sized;
    some = w.some;
    known = All-push (λ (l : Lit). l.var < vars) lits (negation e.lit) w.known within;
    once = all_pairs_push (λ (l m : Lit). l.var ≢ m.var) lits (negation e.lit) w.once (λ i d l same. apart lits w.passed (get_or lits i d) (Contains-get_or lits i d l) (sym same));
    passed = λ x h. ⊎_elim
        (λ old. passed_more lits w.passed x old)
        (λ (is : negation e.lit ≡ x). subst (λ (y : Lit). sign_at (drop (k + 1) trail) y.var ≡ None) is fresh)
        (Contains-push_cases lits (negation e.lit) x h);
    falsified = λ x h. ⊎_elim
        (λ old. w.falsified x old)
        (λ (is : negation e.lit ≡ x). subst (λ y. IsFalseIn trail y) is (negation_false clauses trail 0 k e sound (omega arith) at))
        (Contains-push_cases lits (negation e.lit) x h);
    completes = Completes-kept clauses e (drop (k + 1) trail) lits marks less (reverse numbers) fresh stays (from_here lits marks (reverse numbers) w.completes);
  }

  completes_to : (marks more : List Bool) (r : ℕ) (c lits : List Lit) (hints : List ℕ) → 0 < length hints → e.reason ≡ Some r → slice_get clauses r ≡ Some c → ((x : Lit) → Contains lits x → sign_at (drop k trail) x.var ≡ None) → ((v : ℕ) → v ≢ e.lit.var → is_marked marks v ≡ true → is_marked more v ≡ true) → ((x : Lit) → Contains c x → x.var ≢ e.lit.var → is_marked more x.var ≡ true) → Completes clauses (drop k trail) lits marks hints → Completes clauses (drop (k + 1) trail) lits more (r ∷ hints)
  completes_to marks more r c lits [] some is named passed stays all h = absurd (omega (arith, some))
  completes_to marks more r c lits (next ∷ hints) some is named passed stays all h =
      let reason = reason_at clauses trail k e r sound at is in
      let same : reason.0 ≡ c = let both : Some reason.0 ≡ Some c = sym reason.1 ∙ named in cc in
      Completes-expanded clauses e (drop (k + 1) trail) lits marks more r next hints c fresh named (subst (λ y. IsUnit (drop (k + 1) trail) y e.lit) same reason.2) (apart lits passed) stays all (from_here lits marks (next ∷ hints) h)

  -- the numbers are gathered from the conflict back, so the reason goes to their end
  pub IsWalked-expanded : (marks more : List Bool) (r : ℕ) (c lits : List Lit) (numbers : List ℕ) → length more ≡ length marks → e.reason ≡ Some r → slice_get clauses r ≡ Some c → ((v : ℕ) → v ≢ e.lit.var → is_marked marks v ≡ true → is_marked more v ≡ true) → ((x : Lit) → Contains c x → x.var ≢ e.lit.var → is_marked more x.var ≡ true) → IsWalked clauses trail vars k marks lits numbers → IsWalked clauses trail vars (k + 1) more lits (numbers ++ r ∷ [])
  IsWalked-expanded marks more r c lits numbers sized is named stays all w = record {
    sized = sized ∙ w.sized;
    some = omega (arith, length_push numbers r);
    known = w.known;
    once = w.once;
    passed = passed_more lits w.passed;
    falsified = w.falsified;
    completes = subst (λ hints. Completes clauses (drop (k + 1) trail) lits more hints) (sym (reverse-append numbers (r ∷ []))) (completes_to marks more r c lits (reverse numbers) (omega (arith, w.some, length-reverse numbers)) is named w.passed stays all w.completes);
  }

module _ (clauses : List (List Lit)) (trail : List Entry) (vars k start : ℕ) (marks : List Bool) (lits : List Lit) (numbers : List ℕ) (sound : IsSound clauses trail) (le : k ≤ start) where
  -- further down, where nothing that was looked at stands between
  pub IsWalked-below : (before : List Bool) → ((v : ℕ) → is_marked marks v ≡ true → is_marked before v ≡ true) → ((j : ℕ) (e : Entry) → k ≤ j → j < start → slice_get trail j ≡ Some e → is_marked before e.lit.var ≡ false) → IsWalked clauses trail vars k marks lits numbers → IsWalked clauses trail vars start marks lits numbers
  IsWalked-below before less alone w = record {
    sized = w.sized;
    some = w.some;
    known = w.known;
    once = w.once;
    passed = λ x h. none_from clauses trail k start x.var sound le (w.passed x h);
    falsified = w.falsified;
    completes = Completes-below clauses (drop k trail) (drop start trail) lits marks (reverse numbers)
        (λ x f. sign_from clauses trail k start x.var (not x.negative) sound le f)
        (λ x f m. down x f m)
        w.completes;
  }
    where
      down : (x : Lit) → IsFalseIn (drop k trail) x → is_marked marks x.var ≡ true → IsFalseIn (drop start trail) x
      down x f m =
          let n : k + (start - k) ≡ start = omega (arith, le) in
          subst (λ j. IsFalseIn (drop j trail) x) n (sign_between clauses trail k (start - k) x.var (not x.negative) sound f (λ j e low high at same. absurd (false≢true (sym (alone j e low (omega (arith, high, n)) at) ∙ ap (is_marked before) same ∙ less x.var m))))

-- at the trail's end
pub Follows-end : (clauses : List (List Lit)) (trail : List Entry) (vars k : ℕ) (marks : List Bool) (lits : List Lit) (numbers : List ℕ) → length trail ≤ k → IsWalked clauses trail vars k marks lits numbers → Follows clauses lits (reverse numbers)
Follows-end clauses trail vars k marks lits numbers past w = Follows-completed clauses (drop k trail) lits marks (reverse numbers)
    (λ x f m. let n : None ≡ Some (not x.negative) = ap (λ t. sign_at t x.var) (sym (drop_all k trail past)) ∙ f in cc)
    w.completes
