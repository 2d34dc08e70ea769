-- What watched literals keep: as the trail grows and is cut, as watches move, and as clauses are added.
use Rattle.std.proofs.Common.{◌≡◌, ℕ, zero, suc, ◌+◌, ◌-◌, ◌<◌, ◌≤◌, Bool, true, false, not, List, [], ◌∷◌, length, drop, set, get_or, map, ◌⊎◌, inl, inr, ⊎_elim, Option, Some, None, refl, sym, ap, ◌∙◌, subst, arith}
use Rattle.std.specs.List.{Contains, slice_get}
use Rattle.std.proofs.lemmas.Bool.{cases_eq}
use Rattle.std.proofs.lemmas.List.{get_or-set_same, get_or-set_other, length-set, drop-drop}
use Rattle.sat_base.specs.declared.literals.Lit.{Lit}
use Rattle.sat_solve.specs.declared.trail.Entry.{Entry}
use Rattle.sat_solve.specs.declared.lists.Watch.{Watch}
use Rattle.sat_solve.specs.Trail.{sign_at, IsFalseIn, IsSettled, IsClosed}
use Rattle.sat_solve.specs.Decisions.{IsDecisionAt}
use Rattle.sat_base.specs.Codes.{literal_of}
use Rattle.sat_solve.specs.Held.{Held}
use Rattle.sat_solve.specs.Watches.{HasTrue, IsKept, IsPaired, HasWatch, IsFitting, oldest, IsWatched}
use Rattle.sat_solve.proofs.Signs.{sign_kept}
use Rattle.sat_base.proofs.CodeLemmas.{same_code}
use Rattle.sat_solve.proofs.Places.{drop-entry, slice_get-drop}

-- a true literal stays so
HasTrue-more : (e : Entry) (trail : List Entry) (lits : List Lit) → sign_at trail e.lit.var ≡ None → HasTrue trail lits → HasTrue (e ∷ trail) lits
HasTrue-more e trail lits fresh h = (h.0, h.1, sign_kept e trail h.0.var h.0.negative fresh h.2)

IsKept-more : (e : Entry) (trail done : List Entry) (h : Held) → sign_at trail e.lit.var ≡ None → IsKept trail done h → IsKept (e ∷ trail) done h
IsKept-more e trail done h fresh k = record {
  one = λ f. HasTrue-more e trail h.lits fresh (k.one f);
  two = λ f. HasTrue-more e trail h.lits fresh (k.two f);
  single = λ f. HasTrue-more e trail h.lits fresh (k.single f);
}

pub oldest-push : (n : ℕ) (e : Entry) (trail : List Entry) → n ≤ length trail → oldest n (e ∷ trail) ≡ oldest n trail
oldest-push n e trail h = let m : suc (length trail) - n ≡ suc (length trail - n) = omega (arith, h) in ap (λ k. drop k (e ∷ trail)) m

pub oldest-all : (n : ℕ) (trail : List Entry) → n ≡ length trail → oldest n trail ≡ trail
oldest-all n trail h = let m : length trail - n ≡ 0 = omega (arith, h) in ap (λ k. drop k trail) m

-- the oldest entries and the next one
pub oldest-next : (n : ℕ) (e : Entry) (trail : List Entry) → n < length trail → slice_get trail (length trail - 1 - n) ≡ Some e → oldest (n + 1) trail ≡ e ∷ oldest n trail
oldest-next n e trail h at =
    let m : length trail - (n + 1) ≡ length trail - 1 - n = omega arith in
    let k : (length trail - 1 - n) + 1 ≡ length trail - n = omega (arith, h) in
    ap (λ j. drop j trail) m ∙ drop-entry trail (length trail - 1 - n) e at ∙ ap (λ j. e ∷ drop j trail) k

decision_older : (e : Entry) (trail : List Entry) (m : ℕ) → IsDecisionAt (e ∷ trail) (suc m) → IsDecisionAt trail m
decision_older e trail m d = d

below_more : (e : Entry) (trail : List Entry) (h : Held) → (e.reason ≡ None → IsKept trail trail h) → ((m : ℕ) → IsDecisionAt trail m → IsKept (drop (m + 1) trail) (drop (m + 1) trail) h) → (m : ℕ) → IsDecisionAt (e ∷ trail) m → IsKept (drop (m + 1) (e ∷ trail)) (drop (m + 1) (e ∷ trail)) h
below_more e trail h here below zero (d, at, none) = here (let same : Some e ≡ Some d = at in let is : e ≡ d = cc in ap (λ (y : Entry). y.reason) is ∙ none)
below_more e trail h here below (suc m) d =
    let n : suc (m + 1) ≡ suc m + 1 = omega arith in
    subst (λ k. IsKept (drop k (e ∷ trail)) (drop k (e ∷ trail)) h) n (below m d)

-- one more entry; a decision only where all have been gone over
pub IsWatched-push : (vars : ℕ) (e : Entry) (trail : List Entry) (head : ℕ) (held : List Held) (lists : List (List Watch)) → sign_at trail e.lit.var ≡ None → (e.reason ≡ None → head ≡ length trail) → IsWatched vars trail head held lists → IsWatched vars (e ∷ trail) head held lists
IsWatched-push vars e trail head held lists fresh all w = record {
  sized = w.sized;
  within = omega (arith, w.within);
  each = λ k h at.
      let c = w.each k h at in
      record {
        paired = c.paired;
        first_listed = c.first_listed;
        second_listed = c.second_listed;
        kept = subst (λ d. IsKept (e ∷ trail) d h) (sym (oldest-push head e trail w.within)) (IsKept-more e trail (oldest head trail) h fresh c.kept);
        below = below_more e trail h (λ decided. subst (λ d. IsKept trail d h) (oldest-all head trail (all decided)) c.kept) c.below;
      };
  fitting = w.fitting;
}

-- cut below a decision
pub IsWatched-back : (vars : ℕ) (trail : List Entry) (head : ℕ) (held : List Held) (lists : List (List Watch)) (back : ℕ) → (k : ℕ) → back ≡ k + 1 → IsDecisionAt trail k → IsWatched vars trail head held lists → IsWatched vars (drop back trail) (length (drop back trail)) held lists
IsWatched-back vars trail head held lists back k is decided w = record {
  sized = w.sized;
  within = omega arith;
  each = λ j h at.
      let c = w.each j h at in
      record {
        paired = c.paired;
        first_listed = c.first_listed;
        second_listed = c.second_listed;
        kept = subst (λ d. IsKept (drop back trail) d h) (sym (oldest-all (length (drop back trail)) (drop back trail) refl)) (subst (λ n. IsKept (drop n trail) (drop n trail) h) (sym is) (c.below k decided));
        below = λ m d.
            let there : IsDecisionAt trail (back + m) = (d.0, sym (slice_get-drop trail back m) ∙ d.1, d.2) in
            let n : (back + m) + 1 ≡ back + (m + 1) = omega arith in
            let same : drop (m + 1) (drop back trail) ≡ drop ((back + m) + 1) trail = drop-drop (m + 1) back trail ∙ ap (λ j. drop j trail) (sym n) in
            subst (λ t. IsKept t t h) (sym same) (c.below (back + m) there);
      };
  fitting = w.fitting;
}

-- where all entries have been gone over, each clause is settled
kept_settled : (trail : List Entry) (h : Held) → IsPaired h → IsKept trail trail h → IsSettled trail h.lits
kept_settled trail h p k = by_first (sign_at trail (literal_of h.first).var) (sign_at trail (literal_of h.second).var) refl refl
  where
    apart : (h.first ≡ h.second → ⊥) → ¬ (literal_of h.first ≡ literal_of h.second)
    apart differ same = differ (same_code h.first h.second same)

    open_by : (x : Lit) → (IsFalseIn trail x → HasTrue trail h.lits) → (HasTrue trail h.lits) ⊎ (¬ IsFalseIn trail x)
    open_by x w = false_or (sign_at trail x.var) x.negative (λ f. w f)
      where
        false_or : (o : Option Bool) (n : Bool) → (o ≡ Some (not n) → HasTrue trail h.lits) → (HasTrue trail h.lits) ⊎ (¬ (o ≡ Some (not n)))
        false_or None n w = inr (λ e. cc)
        false_or (Some true) true w = inr (λ e. cc)
        false_or (Some true) false w = inl (w refl)
        false_or (Some false) true w = inl (w refl)
        false_or (Some false) false w = inr (λ e. cc)

    by_first : (a b : Option Bool) → sign_at trail (literal_of h.first).var ≡ a → sign_at trail (literal_of h.second).var ≡ b → IsSettled trail h.lits
    by_first a b ea eb = ⊎_elim
        (λ same. inl (k.single same))
        (λ differ. ⊎_elim
        (λ t. inl t)
        (λ one. ⊎_elim
        (λ t. inl t)
        (λ two. inr record {
          one = literal_of h.first;
          two = literal_of h.second;
          one_in = p.first_in;
          two_in = p.second_in;
          differ = apart differ;
          one_open = one;
          two_open = two;
        })
        (open_by (literal_of h.second) k.two))
        (open_by (literal_of h.first) k.one))
        (cases_eq h.first h.second)

-- a clause by its number, as it is held
held_at : (held : List Held) (clauses : List (List Lit)) (c : List Lit) → map (λ (h : Held). h.lits) held ≡ clauses → Contains clauses c → (k : ℕ) × (h : Held) × (slice_get held k ≡ Some h) × (h.lits ≡ c)
held_at held clauses c is among = found held (subst (λ cs. Contains cs c) (sym is) among)
  where
    found : (hs : List Held) → Contains (map (λ (h : Held). h.lits) hs) c → (k : ℕ) × (h : Held) × (slice_get hs k ≡ Some h) × (h.lits ≡ c)
    found [] among = absurd (omega (arith, among.1))
    found (h ∷ hs) (zero, l, e) = (zero, h, refl, e)
    found (h ∷ hs) (suc k, l, e) = let rest = found hs (k, omega (arith, l), e) in (suc rest.0, rest.1, rest.2, rest.3)

pub IsClosed-watched : (vars : ℕ) (trail : List Entry) (head : ℕ) (held : List Held) (lists : List (List Watch)) (clauses : List (List Lit)) → map (λ (h : Held). h.lits) held ≡ clauses → head ≡ length trail → IsWatched vars trail head held lists → IsClosed clauses trail
IsClosed-watched vars trail head held lists clauses is all w c among =
    let there = held_at held clauses c is among in
    let k = w.each there.0 there.1 there.2 in
    subst (λ d. IsSettled trail d) there.3 (kept_settled trail there.1 k.paired (subst (λ d. IsKept trail d there.1) (oldest-all head trail all) k.kept))

-- the lists may change so long as each clause stays in those of its watched literals
pub IsWatched-relisted : (vars : ℕ) (trail : List Entry) (head : ℕ) (held : List Held) (lists lists' : List (List Watch)) → length lists' ≡ length lists → ((code k : ℕ) → HasWatch lists code k → HasWatch lists' code k) → ((code : ℕ) (w : Watch) → Contains (get_or lists' code []) w → IsFitting held w) → IsWatched vars trail head held lists → IsWatched vars trail head held lists'
IsWatched-relisted vars trail head held lists lists' sized listed fitting w = record {
  sized = sized ∙ w.sized;
  within = w.within;
  each = λ k h at.
      let c = w.each k h at in
      record {
        paired = c.paired;
        first_listed = listed h.first k c.first_listed;
        second_listed = listed h.second k c.second_listed;
        kept = c.kept;
        below = c.below;
      };
  fitting = fitting;
}

-- a list with a place of its own among the lists
pub list_there : (lists : List (List Watch)) (code : ℕ) (list : List Watch) → code < length lists → get_or (set lists code list) code [] ≡ list
list_there lists code list h = get_or-set_same lists code list [] h

pub list_other : (lists : List (List Watch)) (code c : ℕ) (list : List Watch) → (c ≡ code → ⊥) → get_or (set lists code list) c [] ≡ get_or lists c []
list_other lists code c list h = get_or-set_other lists code c list [] h

-- The list of one code is replaced by another.
pub IsWatched-replaced : (vars : ℕ) (trail : List Entry) (head : ℕ) (held : List Held) (lists : List (List Watch)) (code : ℕ) (list list' : List Watch) → code < length lists → ((w : Watch) → Contains list w → (v : Watch) × Contains list' v × (v.clause ≡ w.clause)) → ((w : Watch) → Contains list' w → IsFitting held w) → IsWatched vars trail head held (set lists code list) → IsWatched vars trail head held (set lists code list')
IsWatched-replaced vars trail head held lists code list list' within stays fits w =
    IsWatched-relisted vars trail head held (set lists code list) (set lists code list') (length-set lists code list' ∙ sym (length-set lists code list))
    (λ c k h. ⊎_elim
    (λ (same : c ≡ code).
    let had : Contains list h.0 = subst (λ l. Contains l h.0) (ap (λ n. get_or (set lists code list) n []) same ∙ list_there lists code list within) h.1 in
    let new = stays h.0 had in
    (new.0, subst (λ l. Contains l new.0) (sym (ap (λ n. get_or (set lists code list') n []) same ∙ list_there lists code list' within)) new.1, new.2 ∙ h.2))
    (λ other. (h.0, subst (λ l. Contains l h.0) (list_other lists code c list other ∙ sym (list_other lists code c list' other)) h.1, h.2))
    (cases_eq c code))
    (λ c v h. ⊎_elim
    (λ (same : c ≡ code). fits v (subst (λ l. Contains l v) (ap (λ n. get_or (set lists code list') n []) same ∙ list_there lists code list' within) h))
    (λ other. w.fitting c v (subst (λ l. Contains l v) (list_other lists code c list' other ∙ sym (list_other lists code c list other)) h))
    (cases_eq c code))
    w
