-- That a lemma is new: one with one literal that is not true where propagation has ended, all its others being false there.
use Rattle.std.proofs.Common.{◌≡◌, ◌≢◌, Bool, true, false, not, List, ◌⊎◌, ⊎_elim, Option, Some, None, refl, sym, ap, ◌∙◌, subst}
use Rattle.std.specs.List.{Contains}
use Rattle.std.proofs.lemmas.Bool.{false≢true, true≢false, true_from_ne_false, false_from_ne_true}
use Rattle.sat_base.specs.declared.literals.Lit.{Lit}
use Rattle.sat_base.specs.Literal.{negation}
use Rattle.sat_base.specs.Propagation.{IsNew}
use Rattle.sat_solve.specs.Lesson.{IsStable}
use Rattle.sat_solve.specs.declared.trail.Entry.{Entry}
use Rattle.sat_solve.specs.Trail.{sign_at, IsTrueIn, IsFalseIn, IsSettled, IsClosed}
use Rattle.sat_solve.proofs.Signs.{not-not, true_not_false}

-- whether a variable's sign makes the literal with the sign n false
abbrev pub differs : Option Bool → Bool → Bool
differs None n = false
differs (Some true) n = not n
differs (Some false) n = n

-- whether the trail makes the literal false
abbrev pub is_false : List Entry → Lit → Bool
is_false trail x = differs (sign_at trail x.var) x.negative

differs-true : (o : Option Bool) (n : Bool) → o ≡ Some (not n) → differs o n ≡ true
differs-true None n h = cc
differs-true (Some true) true h = cc
differs-true (Some true) false h = refl
differs-true (Some false) true h = refl
differs-true (Some false) false h = cc

true-differs : (o : Option Bool) (n : Bool) → differs o n ≡ true → o ≡ Some (not n)
true-differs None n h = absurd (false≢true h)
true-differs (Some true) true h = absurd (false≢true h)
true-differs (Some true) false h = refl
true-differs (Some false) true h = refl
true-differs (Some false) false h = absurd (false≢true h)

pub is_false-from : (trail : List Entry) (x : Lit) → IsFalseIn trail x → is_false trail x ≡ true
is_false-from trail x h = differs-true (sign_at trail x.var) x.negative h

pub IsFalseIn-from : (trail : List Entry) (x : Lit) → is_false trail x ≡ true → IsFalseIn trail x
IsFalseIn-from trail x h = true-differs (sign_at trail x.var) x.negative h

-- no settled clause has only false literals
settled_not_false : (trail : List Entry) (clause : List Lit) → IsSettled trail clause → ((m : Lit) → Contains clause m → is_false trail m ≡ true) → ⊥
settled_not_false trail clause settled all =
    ⊎_elim
    (λ t. true_not_false trail t.0 t.2 (IsFalseIn-from trail t.0 (all t.0 t.1)))
    (λ two. two.one_open (IsFalseIn-from trail two.one (all two.one two.one_in)))
    settled

-- where all literals of a settled clause but m are false, m is true
settled_closed : (trail : List Entry) (clause : List Lit) (m : Lit) → IsSettled trail clause → ((n : Lit) → Contains clause n → n ≢ m → is_false trail n ≡ true) → is_false trail (negation m) ≡ true
settled_closed trail clause m settled others =
    ⊎_elim
    (λ t. true_from_ne_false (is_false trail (negation m)) (λ no_value.
    let apart : t.0 ≢ m = λ same. let true_at : IsTrueIn trail m = subst (λ y. IsTrueIn trail y) same t.2 in true≢false (sym (is_false-from trail (negation m) (true_at ∙ ap Some (sym (not-not m.negative)))) ∙ no_value) in
    true_not_false trail t.0 t.2 (IsFalseIn-from trail t.0 (others t.0 t.1 apart))))
    (λ two. absurd (
    let one_is : two.one ≢ m → ⊥ = λ apart. two.one_open (IsFalseIn-from trail two.one (others two.one two.one_in apart)) in
    let two_is : two.two ≢ m → ⊥ = λ apart. two.two_open (IsFalseIn-from trail two.two (others two.two two.two_in apart)) in
    one_is (λ e. two_is (λ f. two.differ (e ∙ sym f)))))
    settled

-- where propagation has ended without a conflict, the false literals are closed under it
pub IsStable-closed : (clauses : List (List Lit)) (trail : List Entry) → IsClosed clauses trail → IsStable clauses (is_false trail)
IsStable-closed clauses trail closed = record {
  no_conflict = λ c h all. settled_not_false trail c (closed c h) all;
  closed = λ c m h own off rest. settled_closed trail c m (closed c h) rest;
}

-- The trail is what stands below the level of the conflict, where propagation had ended. Of the lemma
-- nothing is asked but that `last` is not true there and its other literals are false there: so the
-- lemma of the decisions is new, one cut at a unique implication point, and one that is minimized.
pub IsNew-below : (clauses : List (List Lit)) (trail : List Entry) (lemma : List Lit) (last : Lit) → IsClosed clauses trail → Contains lemma last → ¬ IsTrueIn trail last → ((x : Lit) → Contains lemma x → (x ≡ last) ⊎ IsFalseIn trail x) → IsNew clauses lemma
IsNew-below clauses trail lemma last closed among not_true others = (
  last,
  among,
  is_false trail,
  record {
    others = λ m h apart. ⊎_elim (λ same. absurd (apart same)) (λ f. is_false-from trail m f) (others m h);
    not_implied = false_from_ne_true (is_false trail (negation last)) (λ t. not_true (IsFalseIn-from trail (negation last) t ∙ ap Some (not-not last.negative)));
    no_conflict = λ c h all. settled_not_false trail c (closed c h) all;
    closed = λ c m h own off rest. settled_closed trail c m (closed c h) rest;
  },
)
