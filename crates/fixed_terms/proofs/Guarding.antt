-- A copy with guards is worth what the term is.
use Rattle.std.proofs.Common.{◌≡◌, ℕ, zero, suc, ◌+◌, ◌<◌, ◌≤◌, Bool, true, false, cond, not as truth_not, ◌||◌, List, [], ◌∷◌, length, get_or, drop, refl, sym, ap, ◌∙◌, subst, arith}
use Rattle.std.proofs.lemmas.Bool.{false≢true}
use Rattle.std.proofs.lemmas.List.{drop_more}
use Rattle.wb_values.specs.Value.{truth, truth_value, as_truth, Valuation}
use Rattle.model_meaning.specs.Term.{Term, sort_of, val}
use Rattle.wb_terms.specs.declared.nodes.Node.TheVariants.{Name as NameNode}
use Rattle.wb_terms.specs.Graph.{Graph, tree}
use Rattle.term_copies.specs.Copies.{IsExtended}
use Rattle.term_copies.proofs.Extending.{tree_kept, extended_trans}
use Rattle.run_terms.specs.Names.{FitsNames}
use Rattle.run_terms.proofs.Values.{fits_before}
use Rattle.condition_terms.specs.Told.{IsTermOf, AreAllOfSorts, IsJoined, is_true}
use Rattle.condition_terms.proofs.Forming.{truth_form}
use Rattle.fixed_terms.specs.declared.fixes.Fix.{Fix}
use Rattle.fixed_terms.specs.Fixed.{AllFollow, Holds, AreFixes, AllHold, IsSame, IsGuarded}
use Rattle.fixed_terms.proofs.Likeness.{hold_before, hold_at}

-- what a read past the end of a list of fixes would give
abbrev pub no_fix : Fix
no_fix = record { condition = record { 0 = 0 }; holds = false; name = record { 0 = 0 }; value = NameNode (record { 0 = 0 }) }

true_kept : {g h : Graph} (k : ℕ) (v : Valuation) → IsExtended g h → k < length g.nodes → is_true h k v ≡ is_true g k v
true_kept k v a b = ap (λ (t : Term). as_truth (val t v)) (tree_kept k a b)

nothing_left : (g : Graph) (fs : List Fix) (k : ℕ) (v : Valuation) → length fs ≤ k → AllHold g (drop k fs) v
nothing_left g [] zero v l = tt
nothing_left g [] (suc k) v l = tt
nothing_left g (f ∷ fs) zero v l = absurd (omega (arith, l))
nothing_left g (f ∷ fs) (suc k) v l = nothing_left g fs k v (omega (arith, l))

pub guarded_start : (g : Graph) (fs : List Fix) (from copy : ℕ) → length fs ≤ from → IsTermOf g copy truth → IsGuarded g fs from copy copy
guarded_start g fs from copy l w = record { condition = w; opens = λ v f h. refl; holds = λ v f e. nothing_left g fs from v l }

-- whether a fix is broken, by the truth value of its condition
broken : (b c : Bool) → cond b (truth_not c) c ≡ false → c ≡ b
broken true true e = refl
broken true false e = absurd (false≢true (sym e))
broken false true e = absurd (false≢true (sym e))
broken false false e = refl

whole : (b c : Bool) → c ≡ b → cond b (truth_not c) c ≡ false
whole true c e = ap truth_not e
whole false c e = e

or_false : (a b : Bool) → (a || b) ≡ false → (a ≡ false) × (b ≡ false)
or_false true b e = absurd (false≢true (sym e))
or_false false b e = (refl, e)

-- all hold from a place on, where the one there and those behind it do
hold_from : (g : Graph) (fs : List Fix) (k : ℕ) (d : Fix) (v : Valuation) → k < length fs → Holds g (get_or fs k d) v → AllHold g (drop (k + 1) fs) v → AllHold g (drop k fs) v
hold_from g fs k d v l h r = subst (λ (xs : List Fix). AllHold g xs v) (sym (drop_more fs k d l)) (h, r)

-- what holds of a part in the smaller store holds in the larger one
hold_after : {g h : Graph} (fs : List Fix) (v : Valuation) → IsExtended g h → AreFixes g fs → AllHold g fs v → AllHold h fs v
hold_after [] v a x p = tt
hold_after (f ∷ fs) v a x p = (true_kept f.condition.0 v a x.0.condition.below ∙ p.0, hold_after fs v a x.1 p.1)

drop_fixes : (g : Graph) (fs : List Fix) (k : ℕ) → AreFixes g fs → AreFixes g (drop k fs)
drop_fixes g fs zero x = x
drop_fixes g [] (suc k) x = tt
drop_fixes g (f ∷ fs) (suc k) x = drop_fixes g fs k x.1

-- one guard more
pub guarded_more : (g h k : Graph) (fs : List Fix) (place : ℕ) (d f : Fix) (copy id outside all : ℕ) → f ≡ get_or fs place d → place < length fs → copy < length g.nodes → IsExtended g h → IsExtended h k → AreFixes g fs
    → IsTermOf g f.condition.0 truth → IsGuarded g fs (place + 1) copy id → IsJoined h outside (λ v. cond f.holds (truth_not (is_true g f.condition.0 v)) (is_true g f.condition.0 v))
    → IsJoined k all (λ v. is_true h outside v || is_true h id v) → IsGuarded k fs place copy all
guarded_more g h k fs place d f copy id outside all is l low a b x w u o j =
    let whole_way = extended_trans a b in
    let fit_h = λ (v : Valuation) (fit : FitsNames k.names v). fits_before v b fit in
    let fit_g = λ (v : Valuation) (fit : FitsNames k.names v). fits_before v whole_way fit in
    record {
      condition = j.condition;
      opens = λ v fit p.
          let before = hold_before fs v whole_way x p in
          let here : Holds g f v = subst (λ (q : Fix). Holds g q v) (sym is) (hold_at g fs place d v before l) in
          let clear : is_true h outside v ≡ false = o.value v (fit_h v fit) ∙ whole f.holds (is_true g f.condition.0 v) here in
          j.value v fit ∙ (ap (λ c. c || is_true h id v) clear ∙ (true_kept id v a u.condition.below ∙ (u.opens v (fit_g v fit) before ∙ sym (true_kept copy v whole_way low))));
      holds = λ v fit e.
          let parts = or_false (is_true h outside v) (is_true h id v) (sym (j.value v fit) ∙ e) in
          let here : Holds g f v = broken f.holds (is_true g f.condition.0 v) (sym (o.value v (fit_h v fit)) ∙ parts.0) in
          let rest = u.holds v (fit_g v fit) (sym (true_kept id v a u.condition.below) ∙ parts.1) in
          hold_after (drop place fs) v whole_way (drop_fixes g fs place x) (hold_from g fs place d v l (subst (λ (q : Fix). Holds g q v) is here) rest);
    }

all_hold : (g : Graph) (id : ℕ) (fs : List Fix) (v : Valuation) → AllFollow g id fs → FitsNames g.names v → is_true g id v ≡ false → AllHold g fs v
all_hold g id [] v a fit e = tt
all_hold g id (f ∷ fs) v a fit e = (a.0.value v fit e, all_hold g id fs v a.1 fit e)

-- one truth value, where either being false makes the other so
one_truth : (a b : Bool) → (a ≡ false → b ≡ false) → (b ≡ false → a ≡ false) → a ≡ b
one_truth true true f h = refl
one_truth true false f h = absurd (false≢true (sym (h refl)))
one_truth false true f h = absurd (false≢true (sym (f refl)))
one_truth false false f h = refl

pub guarded_same : (g h k : Graph) (fs : List Fix) (id copy all : ℕ) (v : Valuation) → IsTermOf g id truth → IsExtended g h → IsExtended h k → AreFixes g fs → AllFollow g id fs → IsSame h fs copy id → IsGuarded k fs 0 copy all
    → FitsNames g.names v → val (tree k all) v ≡ val (tree g id) v
guarded_same g h k fs id copy all v w a b x n s u fit =
    let way = extended_trans a b in
    let fit_k : FitsNames k.names v = subst (λ ns. FitsNames ns v) (sym way.names) fit in
    let fit_h : FitsNames h.names v = subst (λ ns. FitsNames ns v) (sym a.names) fit in
    let where_hold : AllHold g fs v → is_true k all v ≡ is_true g id v =
    λ p. u.opens v fit_k (hold_after fs v way x p) ∙ (true_kept copy v b s.below ∙ (ap as_truth (s.value v fit_h (hold_after fs v a x p)) ∙ true_kept id v a w.below)) in
    let same : is_true k all v ≡ is_true g id v =
    one_truth (is_true k all v) (is_true g id v)
    (λ e. sym (where_hold (hold_before fs v way x (u.holds v fit_k e))) ∙ e)
    (λ e. where_hold (all_hold g id fs v n fit e) ∙ e) in
    truth_form (val (tree k all) v) (u.condition.is_of v fit_k) ∙ (ap truth_value same ∙ sym (truth_form (val (tree g id) v) (w.is_of v fit)))

-- a copy of a condition is a condition
pub copy_is_term : {g h : Graph} (fs : List Fix) (id copy : ℕ) → IsExtended g h → AreAllOfSorts h → IsTermOf g id truth → IsSame h fs copy id → IsTermOf h copy truth
copy_is_term {g} {h} fs id copy a all w s = all copy truth s.below (s.sort ∙ (ap sort_of (tree_kept id a w.below) ∙ w.sort))
