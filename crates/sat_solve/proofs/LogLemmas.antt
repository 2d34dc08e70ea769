-- A log behind one more lemma: what holds of all its steps, and that it refutes with the empty one.
use Rattle.std.proofs.Common.{◌≡◌, ℕ, zero, suc, ◌+◌, Some, ◌<◌, ◌≤◌, List, [], ◌∷◌, ◌++◌, length, map, ⊎_elim, refl, sym, ap, ◌∙◌, subst, arith}
use Rattle.std.specs.List.{slice_get}
use Rattle.std.proofs.lemmas.Bool.{cases_lt}
use Rattle.std.proofs.lemmas.List.{append_assoc, map-append, take-append-le, take_at, length_push}
use Rattle.std.proofs.lemmas.List.Elements.{All-push}
use Rattle.sat_base.specs.declared.logs.Lemma.{Lemma}
use Rattle.sat_base.specs.Formula.{Formula, IsClauseOver}
use Rattle.sat_base.specs.Propagation.{Follows, IsNew}
use Rattle.sat_base.specs.Log.{earlier_clauses, FollowsAt, IsNewAt, Refutes, HasEachVariableOnce, IsSpent}
use Rattle.sat_solve.specs.State.{known_clauses}

pub slice_get-left : {X : Type 0} (xs ys : List X) (k : ℕ) (x : X) → slice_get xs k ≡ Some x → slice_get (xs ++ ys) k ≡ Some x
slice_get-left [] ys k x h = cc
slice_get-left (y ∷ xs) ys zero x h = h
slice_get-left (y ∷ xs) ys (suc k) x h = slice_get-left xs ys k x h

pub slice_get-right : {X : Type 0} (xs ys : List X) (k n : ℕ) → n ≡ length xs + k → slice_get (xs ++ ys) n ≡ slice_get ys k
slice_get-right [] ys k n e = let m : n ≡ k = (let d : n ≡ 0 + k = e in omega (arith, d)) in ap (λ i. slice_get ys i) m
slice_get-right (x ∷ xs) ys k zero e = absurd (let d : 0 ≡ suc (length xs) + k = e in omega (arith, d))
slice_get-right (x ∷ xs) ys k (suc n) e = slice_get-right xs ys k n (let d : suc n ≡ suc (length xs) + k = e in omega (arith, d))

pub slice_get-push : {X : Type 0} (xs : List X) (x : X) → slice_get (xs ++ x ∷ []) (length xs) ≡ Some x
slice_get-push [] x = refl
slice_get-push (y ∷ xs) x = slice_get-push xs x

-- the known clauses behind one more lemma
pub known_clauses-push : (f : Formula) (log : List Lemma) (s : Lemma) → known_clauses f (log ++ s ∷ []) ≡ known_clauses f log ++ s.lits ∷ []
known_clauses-push f log s = ap (λ ls. f.clauses ++ ls) (map-append (λ (y : Lemma). y.lits) log (s ∷ [])) ∙ sym (append_assoc f.clauses (map (λ (y : Lemma). y.lits) log) (s.lits ∷ []))

-- the clauses before a step stay
earlier_kept : (f : Formula) (log : List Lemma) (s : Lemma) (k : ℕ) → k ≤ length log → earlier_clauses f (log ++ s ∷ []) k ≡ earlier_clauses f log k
earlier_kept f log s k h = ap (λ l. f.clauses ++ map (λ (y : Lemma). y.lits) l) (take-append-le k log (s ∷ []) h)

earlier_last : (f : Formula) (log : List Lemma) (s : Lemma) → earlier_clauses f (log ++ s ∷ []) (length log) ≡ known_clauses f log
earlier_last f log s = ap (λ l. f.clauses ++ map (λ (y : Lemma). y.lits) l) (take_at log (s ∷ []) (length log) refl)

follows_kept : (f : Formula) (log : List Lemma) (s : Lemma) (k : ℕ) → k < length log → FollowsAt f log k → FollowsAt f (log ++ s ∷ []) k
follows_kept f log s k l h = (h.0, slice_get-left log (s ∷ []) k h.0 h.1, subst (λ cs. Follows cs h.0.lits h.0.hints) (sym (earlier_kept f log s k (omega (arith, l)))) h.2)

follows_last : (f : Formula) (log : List Lemma) (s : Lemma) → Follows (known_clauses f log) s.lits s.hints → FollowsAt f (log ++ s ∷ []) (length log)
follows_last f log s h = (s, slice_get-push log s, subst (λ cs. Follows cs s.lits s.hints) (sym (earlier_last f log s)) h)

new_kept : (f : Formula) (log : List Lemma) (s : Lemma) (k : ℕ) → k < length log → IsNewAt f log k → IsNewAt f (log ++ s ∷ []) k
new_kept f log s k l h = (h.0, slice_get-left log (s ∷ []) k h.0 h.1, subst (λ cs. IsNew cs h.0.lits) (sym (earlier_kept f log s k (omega (arith, l)))) h.2)

new_last : (f : Formula) (log : List Lemma) (s : Lemma) → IsNew (known_clauses f log) s.lits → IsNewAt f (log ++ s ∷ []) (length log)
new_last f log s h = (s, slice_get-push log s, subst (λ cs. IsNew cs s.lits) (sym (earlier_last f log s)) h)

-- a fact of each step behind one more: of the earlier ones, and of the last
each_push : (P : ℕ → Type 0) (log : List Lemma) (s : Lemma) → ((k : ℕ) → k < length log → P k) → P (length log) → (k : ℕ) → k < length (log ++ s ∷ []) → P k
each_push P log s old last k l = ⊎_elim (λ below. old k below) (λ above. let same : length log ≡ k = omega (arith, above, l, length_push log s) in subst P same last) (cases_lt k (length log))

pub IsSpent-push : (f : Formula) (log : List Lemma) (s : Lemma) → IsSpent (length log) f log → IsClauseOver f.vars s.lits → HasEachVariableOnce s.lits → Follows (known_clauses f log) s.lits s.hints → IsNew (known_clauses f log) s.lits → IsSpent (length (log ++ s ∷ [])) f (log ++ s ∷ [])
IsSpent-push f log s spent over once follows new = record {
  count = refl;
  known = All-push (λ (y : Lemma). IsClauseOver f.vars y.lits) log s spent.known over;
  once = All-push (λ (y : Lemma). HasEachVariableOnce y.lits) log s spent.once once;
  follow = each_push (λ k. FollowsAt f (log ++ s ∷ []) k) log s (λ k l. follows_kept f log s k l (spent.follow k l)) (follows_last f log s follows);
  new = each_push (λ k. IsNewAt f (log ++ s ∷ []) k) log s (λ k l. new_kept f log s k l (spent.new k l)) (new_last f log s new);
}

-- With the empty lemma at its end the log refutes the formula.
pub Refutes-push : (f : Formula) (log : List Lemma) (s : Lemma) → IsSpent (length log) f log → s.lits ≡ [] → Follows (known_clauses f log) s.lits s.hints → Refutes f (log ++ s ∷ [])
Refutes-push f log s spent empty follows = (length log, (s, slice_get-push log s, empty), λ j l. each_push (λ k. FollowsAt f (log ++ s ∷ []) k) log s (λ k below. follows_kept f log s k below (spent.follow k below)) (follows_last f log s follows) j (omega (arith, l, length_push log s)))
