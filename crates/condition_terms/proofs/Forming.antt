-- New terms over terms whose values are of their sorts.
use Rattle.std.proofs.Common.{◌≡◌, ℕ, ◌<◌, Bool, true, false, not as truth_not, ◌&&◌, ◌||◌, length, Option, Some, refl, sym, ap, ◌∙◌, subst, arith, inl, inr, ◌⊎◌}
use Rattle.std.specs.Prelude.{IsTrue, ◌↔◌}
use Rattle.std.proofs.lemmas.Bool.{false≢true}
use Rattle.wb_values.specs.Value.{Sort, truth, word, memory, Value, truth_value, number, words, as_truth, as_number, as_words, Valuation, HasSort}
use Rattle.model_meaning.specs.Term.{Term, constant_truth, not, and, or, bits_sort, same_bits_sort, sort_of, width_of_sort, complement, conjunction, disjunction, val}
use Rattle.wb_terms.specs.Graph.{Graph, tree}
use Rattle.term_copies.specs.Copies.{IsExtended}
use Rattle.term_copies.proofs.Extending.{tree_kept, count_grows}
use Rattle.run_terms.specs.Names.{FitsNames}
use Rattle.run_terms.proofs.Values.{fits_before}
use Rattle.condition_terms.specs.Told.{IsTermOf, is_true, Tells, IsJoined}

-- ---- what is known stays known in a larger store

pub IsTermOf-kept : {g h : Graph} (id : ℕ) (s : Sort) → IsExtended g h → IsTermOf g id s → IsTermOf h id s
IsTermOf-kept {g} {h} id s a w =
    let e : tree h id ≡ tree g id = tree_kept id a w.below in
    record {
      below = omega (arith, w.below, count_grows a);
      sort = ap sort_of e ∙ w.sort;
      is_of = λ v f. subst (λ (t : Term). HasSort (val t v) s) (sym e) (w.is_of v (fits_before v a f));
    }

pub Tells-kept : {g h : Graph} (id : ℕ) (P : Valuation → Type 0) → IsExtended g h → Tells g id P → Tells h id P
Tells-kept {g} {h} id P a w =
    let e : tree h id ≡ tree g id = tree_kept id a w.condition.below in
    record {
      condition = IsTermOf-kept id truth a w.condition;
      told = λ v f. subst (λ (t : Term). IsTrue (as_truth (val t v)) ↔ P v) (sym e) (w.told v (fits_before v a f));
    }

pub Tells-same : {g : Graph} (id : ℕ) (P Q : Valuation → Type 0) → ((v : Valuation) → FitsNames g.names v → P v ↔ Q v) → Tells g id P → Tells g id Q
Tells-same id P Q e w = record { condition = w.condition; told = λ v f. (λ t. (e v f).0 ((w.told v f).0 t), λ q. (w.told v f).1 ((e v f).1 q)) }

-- ---- values of a sort

pub truth_form : (x : Value) → HasSort x truth → x ≡ truth_value (as_truth x)
truth_form (truth_value b) h = refl
truth_form (number n) h = absurd (false≢true h)
truth_form (words ws) h = absurd (false≢true h)

pub number_form : (x : Value) (w : ℕ) → HasSort x (word w) → x ≡ number (as_number x)
number_form (truth_value b) w h = absurd (false≢true h)
number_form (number n) w h = refl
number_form (words ws) w h = absurd (false≢true h)

pub words_form : (x : Value) (a d : ℕ) → HasSort x (memory a d) → x ≡ words (as_words x)
words_form (truth_value b) a d h = absurd (false≢true h)
words_form (number n) a d h = absurd (false≢true h)
words_form (words ws) a d h = refl

-- ---- conditions

below_new : {h : Graph} (id : ℕ) (t : Term) (s : Sort) → id < length h.nodes → tree h id ≡ t → sort_of t ≡ Some s → ((v : Valuation) → FitsNames h.names v → HasSort (val t v) s) → IsTermOf h id s
below_new id t s b e o i = record { below = b; sort = ap sort_of e ∙ o; is_of = λ v f. subst (λ (u : Term). HasSort (val u v) s) (sym e) (i v f) }

joined : {h : Graph} (id : ℕ) (t : Term) (b : Valuation → Bool) → id < length h.nodes → tree h id ≡ t → sort_of t ≡ Some truth → ((v : Valuation) → FitsNames h.names v → val t v ≡ truth_value (b v))
    → IsJoined h id b
joined id t b l e o is = record {
  condition = below_new id t truth l e o (λ v f. subst (λ (x : Value). HasSort x truth) (sym (is v f)) refl);
  value = λ v f. ap (λ (u : Term). as_truth (val u v)) e ∙ ap as_truth (is v f);
}

pub constant_joined : (h : Graph) (id : ℕ) (b : Bool) → id < length h.nodes → tree h id ≡ constant_truth b → IsJoined h id (λ v. b)
constant_joined h id b l e = joined id (constant_truth b) (λ v. b) l e refl (λ v f. refl)

not_truth : (w : ℕ) (x : Value) → HasSort x truth → complement w x ≡ truth_value (truth_not (as_truth x))
not_truth w (truth_value b) h = refl
not_truth w (number n) h = absurd (false≢true h)
not_truth w (words ws) h = absurd (false≢true h)

and_truth : (x y : Value) → HasSort x truth → conjunction x y ≡ truth_value (as_truth x && as_truth y)
and_truth (truth_value b) y h = refl
and_truth (number n) y h = absurd (false≢true h)
and_truth (words ws) y h = absurd (false≢true h)

or_truth : (x y : Value) → HasSort x truth → disjunction x y ≡ truth_value (as_truth x || as_truth y)
or_truth (truth_value b) y h = refl
or_truth (number n) y h = absurd (false≢true h)
or_truth (words ws) y h = absurd (false≢true h)

pub not_joined : (g h : Graph) (id x : ℕ) → IsExtended g h → IsTermOf g x truth → id < length h.nodes → tree h id ≡ not (tree g x) → IsJoined h id (λ v. truth_not (is_true g x v))
not_joined g h id x a w l e =
    joined id (not (tree g x)) (λ v. truth_not (is_true g x v)) l e (ap bits_sort w.sort)
    (λ v f. not_truth (width_of_sort (sort_of (tree g x))) (val (tree g x) v) (w.is_of v (fits_before v a f)))

two_truths : (F : Option Sort → Option Sort → Option Sort) (a b : Option Sort) → a ≡ Some truth → b ≡ Some truth → F (Some truth) (Some truth) ≡ Some truth → F a b ≡ Some truth
two_truths F a b p q e = ap (λ o. F o b) p ∙ (ap (F (Some truth)) q ∙ e)

pub and_joined : (g h : Graph) (id x y : ℕ) → IsExtended g h → IsTermOf g x truth → IsTermOf g y truth → id < length h.nodes → tree h id ≡ and (tree g x) (tree g y)
    → IsJoined h id (λ v. is_true g x v && is_true g y v)
and_joined g h id x y a w u l e =
    joined id (and (tree g x) (tree g y)) (λ v. is_true g x v && is_true g y v) l e (two_truths same_bits_sort (sort_of (tree g x)) (sort_of (tree g y)) w.sort u.sort refl)
    (λ v f. and_truth (val (tree g x) v) (val (tree g y) v) (w.is_of v (fits_before v a f)))

pub or_joined : (g h : Graph) (id x y : ℕ) → IsExtended g h → IsTermOf g x truth → IsTermOf g y truth → id < length h.nodes → tree h id ≡ or (tree g x) (tree g y)
    → IsJoined h id (λ v. is_true g x v || is_true g y v)
or_joined g h id x y a w u l e =
    joined id (or (tree g x) (tree g y)) (λ v. is_true g x v || is_true g y v) l e (two_truths same_bits_sort (sort_of (tree g x)) (sort_of (tree g y)) w.sort u.sort refl)
    (λ v f. or_truth (val (tree g x) v) (val (tree g y) v) (w.is_of v (fits_before v a f)))

-- ---- constants among conditions

pub truth_of_constant : (g : Graph) (id : ℕ) (b : Bool) (v : Valuation) → tree g id ≡ constant_truth b → is_true g id v ≡ b
truth_of_constant g id b v e = ap (λ (t : Term). as_truth (val t v)) e

-- a condition that is worth something else too
own_joined : (g : Graph) (id : ℕ) (c : Valuation → Bool) → IsTermOf g id truth → ((v : Valuation) → is_true g id v ≡ c v) → IsJoined g id c
own_joined g id c w e = record { condition = w; value = λ v f. e v }

pub not_constant : (g h : Graph) (id x : ℕ) (b : Bool) → tree g x ≡ constant_truth b → IsJoined h id (λ v. truth_not b) → IsJoined h id (λ v. truth_not (is_true g x v))
not_constant g h id x b e j = record { condition = j.condition; value = λ v f. j.value v f ∙ ap truth_not (sym (truth_of_constant g x b v e)) }

and_true : (b : Bool) → b ≡ (b && true)
and_true true = refl
and_true false = refl

and_false : (b : Bool) → false ≡ (b && false)
and_false true = refl
and_false false = refl

or_true : (b : Bool) → true ≡ (b || true)
or_true true = refl
or_true false = refl

or_false : (b : Bool) → b ≡ (b || false)
or_false true = refl
or_false false = refl

module _ (g : Graph) (x y : ℕ) (w : IsTermOf g x truth) (u : IsTermOf g y truth) where
  pub both_left_true : tree g x ≡ constant_truth true → IsJoined g y (λ v. is_true g x v && is_true g y v)
  both_left_true e = own_joined g y (λ v. is_true g x v && is_true g y v) u (λ v. ap (λ b. b && is_true g y v) (sym (truth_of_constant g x true v e)))

  pub both_left_false : tree g x ≡ constant_truth false → IsJoined g x (λ v. is_true g x v && is_true g y v)
  both_left_false e =
      own_joined g x (λ v. is_true g x v && is_true g y v) w
      (λ v. let f = truth_of_constant g x false v e in f ∙ ap (λ b. b && is_true g y v) (sym f))

  pub both_right_true : tree g y ≡ constant_truth true → IsJoined g x (λ v. is_true g x v && is_true g y v)
  both_right_true e =
      own_joined g x (λ v. is_true g x v && is_true g y v) w
      (λ v. and_true (is_true g x v) ∙ ap (λ b. is_true g x v && b) (sym (truth_of_constant g y true v e)))

  pub both_right_false : tree g y ≡ constant_truth false → IsJoined g y (λ v. is_true g x v && is_true g y v)
  both_right_false e =
      own_joined g y (λ v. is_true g x v && is_true g y v) u
      (λ v. let f = truth_of_constant g y false v e in f ∙ (and_false (is_true g x v) ∙ ap (λ b. is_true g x v && b) (sym f)))

  pub either_left_true : tree g x ≡ constant_truth true → IsJoined g x (λ v. is_true g x v || is_true g y v)
  either_left_true e =
      own_joined g x (λ v. is_true g x v || is_true g y v) w
      (λ v. let f = truth_of_constant g x true v e in f ∙ ap (λ b. b || is_true g y v) (sym f))

  pub either_left_false : tree g x ≡ constant_truth false → IsJoined g y (λ v. is_true g x v || is_true g y v)
  either_left_false e = own_joined g y (λ v. is_true g x v || is_true g y v) u (λ v. ap (λ b. b || is_true g y v) (sym (truth_of_constant g x false v e)))

  pub either_right_true : tree g y ≡ constant_truth true → IsJoined g y (λ v. is_true g x v || is_true g y v)
  either_right_true e =
      own_joined g y (λ v. is_true g x v || is_true g y v) u
      (λ v. let f = truth_of_constant g y true v e in f ∙ (or_true (is_true g x v) ∙ ap (λ b. is_true g x v || b) (sym f)))

  pub either_right_false : tree g y ≡ constant_truth false → IsJoined g x (λ v. is_true g x v || is_true g y v)
  either_right_false e =
      own_joined g x (λ v. is_true g x v || is_true g y v) w
      (λ v. or_false (is_true g x v) ∙ ap (λ b. is_true g x v || b) (sym (truth_of_constant g y false v e)))

-- the sorts that putting such nodes asks for
pub not_sorted : (g : Graph) (x : ℕ) → IsTermOf g x truth → sort_of (not (tree g x)) ≡ Some truth
not_sorted g x w = ap bits_sort w.sort

pub two_sorted : (g : Graph) (x y : ℕ) → IsTermOf g x truth → IsTermOf g y truth → same_bits_sort (sort_of (tree g x)) (sort_of (tree g y)) ≡ Some truth
two_sorted g x y w u = two_truths same_bits_sort (sort_of (tree g x)) (sort_of (tree g y)) w.sort u.sort refl

-- ---- conditions as propositions

not_where : (b : Bool) (P : Type 0) → (IsTrue b ↔ P) → IsTrue (truth_not b) ↔ (¬ P)
not_where true P e = (λ h. absurd (false≢true h), λ n. absurd (n (e.0 refl)))
not_where false P e = (λ h p. false≢true (e.1 p), λ n. refl)

both_where : (a b : Bool) (P Q : Type 0) → (IsTrue a ↔ P) → (IsTrue b ↔ Q) → IsTrue (a && b) ↔ (P × Q)
both_where true b P Q e u = (λ h. (e.0 refl, u.0 h), λ p. u.1 p.1)
both_where false b P Q e u = (λ h. absurd (false≢true h), λ p. absurd (false≢true (e.1 p.0)))

either_where : (a b : Bool) (P Q : Type 0) → (IsTrue a ↔ P) → (IsTrue b ↔ Q) → IsTrue (a || b) ↔ (P ⊎ Q)
either_where true b P Q e u = (λ h. inl (e.0 refl), λ p. refl)
either_where false b P Q e u = (λ h. inr (u.0 h), λ p. elim p as (λ _. IsTrue b) [ inl x ↦ absurd (false≢true (e.1 x)) | inr y ↦ u.1 y ])

pub told_truth : {h : Graph} (id : ℕ) (P : Valuation → Type 0) → IsJoined h id (λ v. true) → ((v : Valuation) → FitsNames h.names v → P v) → Tells h id P
told_truth id P j p = record { condition = j.condition; told = λ v f. (λ t. p v f, λ q. j.value v f) }

pub told_never : {h : Graph} (id : ℕ) (P : Valuation → Type 0) → IsJoined h id (λ v. false) → ((v : Valuation) → FitsNames h.names v → ¬ P v) → Tells h id P
told_never id P j p = record { condition = j.condition; told = λ v f. (λ t. absurd (false≢true (sym (j.value v f) ∙ t)), λ q. absurd (p v f q)) }

pub told_not : {g h : Graph} (id x : ℕ) (P : Valuation → Type 0) → IsExtended g h → Tells g x P → IsJoined h id (λ v. truth_not (is_true g x v)) → Tells h id (λ v. ¬ P v)
told_not {g} {h} id x P a w j = record {
  condition = j.condition;
  told = λ v f. subst (λ b. IsTrue b ↔ (¬ P v)) (sym (j.value v f)) (not_where (is_true g x v) (P v) (w.told v (fits_before v a f)));
}

pub told_both : {g h : Graph} (id x y : ℕ) (P Q : Valuation → Type 0) → IsExtended g h → Tells g x P → Tells g y Q → IsJoined h id (λ v. is_true g x v && is_true g y v) → Tells h id (λ v. P v × Q v)
told_both {g} {h} id x y P Q a w u j = record {
  condition = j.condition;
  told = λ v f. subst (λ b. IsTrue b ↔ (P v × Q v)) (sym (j.value v f))
      (both_where (is_true g x v) (is_true g y v) (P v) (Q v) (w.told v (fits_before v a f)) (u.told v (fits_before v a f)));
}

pub told_either : {g h : Graph} (id x y : ℕ) (P Q : Valuation → Type 0) → IsExtended g h → Tells g x P → Tells g y Q → IsJoined h id (λ v. is_true g x v || is_true g y v) → Tells h id (λ v. P v ⊎ Q v)
told_either {g} {h} id x y P Q a w u j = record {
  condition = j.condition;
  told = λ v f. subst (λ b. IsTrue b ↔ (P v ⊎ Q v)) (sym (j.value v f))
      (either_where (is_true g x v) (is_true g y v) (P v) (Q v) (w.told v (fits_before v a f)) (u.told v (fits_before v a f)));
}
