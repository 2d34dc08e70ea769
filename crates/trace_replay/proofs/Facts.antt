-- Facts of hypotheses: which cycles they speak of, and which are shown.
use Rattle.std.proofs.Common.{◌≡◌, ◌∙◌, ℕ, zero, suc, ◌+◌, ◌-◌, ◌<◌, ◌≤◌, List, [], ◌∷◌, ◌++◌, length, map, take, Option, Some, None, refl, sym, ap, subst, arith, inl, inr}
use Rattle.std.specs.Prelude.{IsTrue, ◌↔◌, slice_get, ⊤}
use Rattle.std.proofs.lemmas.List.{take_all}
use Rattle.std.proofs.lemmas.Option.{none-some, same_Some}
use Rattle.model_meaning.specs.Model.{Model}
use Rattle.refinement.specs.Map.{Map}
use Rattle.refinement.specs.Obligation.{Fact, reset_active, assumed, invariant, start, no_start, decoded, commit, no_commit, for_each, invariants_at, premises_at, start_hypotheses, started_by, running_at, running, not_ended, ended_at}
use Rattle.obligation_lists.specs.declared.claims.Fact.{Fact as CodeFact}
use Rattle.obligation_lists.specs.declared.claims.Fact.TheVariants.{ResetActive, ResetInactive, Assumed, Invariant, Start, NoStart, Decoded, Commit, NoCommit, Initial, Same, OneDecodes, Ends, ResultOf, Never}
use Rattle.obligation_lists.specs.declared.claims.MapCounts.{MapCounts}
use Rattle.obligation_lists.specs.declared.claims.Hypotheses.{Hypotheses}
use Rattle.obligation_lists.specs.declared.claims.Hypotheses.TheVariants.{Reset, Idle, Started, StartedBy, NotEnded, EndedAt}
use Rattle.obligation_lists.specs.Claims.{fact_of, hypotheses_of}
use Rattle.obligation_lists.specs.Within.{Each, IsFactOf}
use Rattle.mapped_designs.specs.Mapped.{Mapped}
use Rattle.mapped_designs.specs.Runs.{Values, Shows, ShowsAll}
use Rattle.shown_facts.specs.Noted.{IsReadAt}
use Rattle.trace_replay.specs.Found.{AreReadAt, IsFirstFailing, later_of}

-- ---- hypotheses speak of states and invariants at cycle 0 alone

both : (l : ℕ) (fs gs : List Fact) → AreReadAt l fs → AreReadAt l gs → AreReadAt l (fs ++ gs)
both l [] gs f g = g
both l (x ∷ fs) gs f g = (f.0, both l fs gs f.1 g)

each : (l : ℕ) (f : ℕ → List Fact) (k n : ℕ) → ((i : ℕ) → AreReadAt l (f i)) → AreReadAt l (for_each f k n)
each l f k zero h = tt
each l f k (suc n) h = both l (f k) (for_each f (suc k) n) (h k) (each l f (suc k) n h)

module _ (p : Map) (l : ℕ) where
  invariants_read : AreReadAt l (invariants_at p 0)
  invariants_read = each l (λ k. invariant k 0 ∷ []) 0 (length p.invariants) (λ i. (inl refl, tt))

  premises_read : (t : ℕ) → AreReadAt l (premises_at p t)
  premises_read t = (tt, each l (λ k. assumed k t ∷ []) 0 (length p.assume) (λ i. (tt, tt)))

  before_start : (fact : Fact) → IsReadAt l fact → AreReadAt l (invariants_at p 0 ++ premises_at p 0 ++ fact ∷ [])
  before_start fact h =
      both l (invariants_at p 0 ++ premises_at p 0) (fact ∷ []) (both l (invariants_at p 0) (premises_at p 0) invariants_read (premises_read 0)) (h, tt)

  started_read : (j : ℕ) → AreReadAt l (started_by p j)
  started_read j = both l (start_hypotheses p) (decoded j ∷ []) (before_start (start 0) tt) (tt, tt)

  running_at_read : (t : ℕ) → AreReadAt l (running_at p t)
  running_at_read t = both l (premises_at p t) (no_start t ∷ []) (premises_read t) (tt, tt)

  running_read : (j t n : ℕ) → AreReadAt l (running p j t n)
  running_read j t n = each l (λ u. running_at p u ++ no_commit j u ∷ []) t n (λ i. both l (running_at p i) (no_commit j i ∷ []) (running_at_read i) (tt, tt))

  ended_read : (j c : ℕ) → AreReadAt l (ended_at p j c)
  ended_read j zero = both l (started_by p j) (commit j 0 ∷ []) (started_read j) (tt, tt)
  ended_read j (suc c) =
      both l (started_by p j) (no_commit j 0 ∷ (running p j 1 c ++ running_at p (suc c) ++ commit j (suc c) ∷ [])) (started_read j) (
        tt,
        both l (running p j 1 c ++ running_at p (suc c)) (commit j (suc c) ∷ []) (both l (running p j 1 c) (running_at p (suc c)) (running_read j 1 c) (running_at_read (suc c))) (tt, tt),
      )

  pub hypotheses_read : (h : Hypotheses) → AreReadAt l (hypotheses_of p h)
  hypotheses_read Reset = each l (λ t. reset_active t ∷ []) 0 p.reset_cycles (λ i. (tt, tt))
  hypotheses_read Idle = before_start (no_start 0) tt
  hypotheses_read Started = before_start (start 0) tt
  hypotheses_read (StartedBy j) = started_read j
  hypotheses_read (NotEnded j n) = both l (started_by p j) (no_commit j 0 ∷ running p j 1 (n - 1)) (started_read j) (tt, running_read j 1 (n - 1))
  hypotheses_read (EndedAt j c) = ended_read j c

-- ---- the claim

pub later_read : (f : CodeFact) → IsReadAt (later_of f) (fact_of f)
later_read (ResetActive t) = tt
later_read (ResetInactive t) = tt
later_read (Assumed k t) = tt
later_read (Invariant k t) = inr refl
later_read (Start t) = tt
later_read (NoStart t) = tt
later_read (Decoded j) = tt
later_read (Commit j t) = tt
later_read (NoCommit j t) = tt
later_read (Initial s t) = inr refl
later_read (Same s) = refl
later_read OneDecodes = tt
later_read (Ends j) = tt
later_read (ResultOf j s t) = inr refl
later_read Never = tt

pub later_within : (m : Model) (counts : MapCounts) (last : ℕ) (f : CodeFact) → IsFactOf m counts last f → later_of f ≤ last
later_within m counts last (ResetActive t) h = omega arith
later_within m counts last (ResetInactive t) h = omega arith
later_within m counts last (Assumed k t) h = omega arith
later_within m counts last (Invariant k t) h = h.1
later_within m counts last (Start t) h = omega arith
later_within m counts last (NoStart t) h = omega arith
later_within m counts last (Decoded j) h = omega arith
later_within m counts last (Commit j t) h = omega arith
later_within m counts last (NoCommit j t) h = omega arith
later_within m counts last (Initial s t) h = h.1
later_within m counts last (Same s) h = h.1
later_within m counts last OneDecodes h = omega arith
later_within m counts last (Ends j) h = omega arith
later_within m counts last (ResultOf j s t) h = h.2
later_within m counts last Never h = omega arith

-- ---- facts one after the other

pub each_at : {A : Type 0} (P : A → Type 0) (xs : List A) (k : ℕ) (x : A) → Each P xs → slice_get xs k ≡ Some x → P x
each_at P [] k x h e = absurd (none-some x e)
each_at P (y ∷ xs) zero x h e = subst P (same_Some y x e) h.0
each_at P (y ∷ xs) (suc k) x h e = each_at P xs k x h.1 e

pub read_there : (l : ℕ) (fs : List Fact) (k : ℕ) (f : Fact) → AreReadAt l fs → slice_get fs k ≡ Some f → IsReadAt l f
read_there l [] k f h e = absurd (none-some f e)
read_there l (g ∷ fs) zero f h e = subst (IsReadAt l) (same_Some g f e) h.0
read_there l (g ∷ fs) (suc k) f h e = read_there l fs k f h.1 e

pub mapped_there : (fs : List CodeFact) (k : ℕ) (f : CodeFact) → slice_get fs k ≡ Some f → slice_get (map fact_of fs) k ≡ Some (fact_of f)
mapped_there [] k f e = absurd (none-some f e)
mapped_there (g ∷ fs) zero f e = ap (λ x. Some (fact_of x)) (same_Some g f e)
mapped_there (g ∷ fs) (suc k) f e = mapped_there fs k f e

one_more : (k : ℕ) → suc k ≡ k + 1
one_more k = omega arith

module _ (m : Model) (e : Mapped) (x : Values) where
  shown_next : (fs : List Fact) (k : ℕ) (f : Fact) → slice_get fs k ≡ Some f → ShowsAll m e x (take k fs) → Shows m e x f → ShowsAll m e x (take (suc k) fs)
  shown_next [] k f at h s = absurd (none-some f at)
  shown_next (g ∷ fs) zero f at h s = (subst (Shows m e x) (sym (same_Some g f at)) s, tt)
  shown_next (g ∷ fs) (suc k) f at h s = (h.0, shown_next fs k f at h.1 s)

  -- one more is shown
  pub shown_more : (fs : List Fact) (k : ℕ) (f : Fact) → slice_get fs k ≡ Some f → ShowsAll m e x (take k fs) → Shows m e x f → ShowsAll m e x (take (k + 1) fs)
  shown_more fs k f at h s = subst (λ n. ShowsAll m e x (take n fs)) (one_more k) (shown_next fs k f at h s)

  pub shown_all : (fs : List Fact) (k : ℕ) → length fs ≤ k → ShowsAll m e x (take k fs) → ShowsAll m e x fs
  shown_all fs k le h = subst (ShowsAll m e x) (take_all k fs le) h

  -- what is found of the facts that hypotheses are
  pub found_of : (facts : List CodeFact) (p : Map) (h : Hypotheses) (later : ℕ) (o : Option ℕ) → map fact_of facts ≡ hypotheses_of p h
      → (AreReadAt later (map fact_of facts) → IsFirstFailing m e x (map fact_of facts) o) → IsFirstFailing m e x (hypotheses_of p h) o
  found_of facts p h later o listed found =
      subst (λ fs. IsFirstFailing m e x fs o) listed (found (subst (AreReadAt later) (sym listed) (hypotheses_read p later h)))
