use Rattle.std.proofs.Common.{◌≡◌, ◌↔◌, ◌∙◌, ◌+◌, ◌<◌, ℕ, Bool, List, [], length, map, take, get_or, slice_get, Some, true, false, IsTrue, inl, inr, arith, ap, sym, subst, refl}
use Rattle.std.specs.Prelude.{◌==◌}
use Rattle.std.proofs.lemmas.Option.{slice_get-get_or}
use Rattle.sat_base.specs.declared.literals.Lit.{Lit}
use Rattle.sat_base.specs.declared.logs.Lemma.{Lemma}
use Rattle.sat_base.specs.Codes.{literal_of}
use Rattle.sat_base.specs.Propagation.{Follows}
use Rattle.sat_base.specs.Log.{FollowsAt, IsEmptyAt, Refutes}
use Rattle.sat_base.proofs.Implied.{refuted_unsatisfiable}
use Rattle.sat_base.proofs.StepLemmas.{empty_map}
use Rattle.sat_check.specs.Verdict.{StopsAt, IsOpenBefore}
use Rattle.sat_check.proofs.Verdicts.{follows_step, yes_exact, no_exact, IsOpenBefore-more, refutes_at}
use Rattle.sat_check.proofs.checker.Checker.check.Goals as goal
use Rattle.sat_check.proofs.checker.Checker.check.Goals.{After-follows}

-- the step at a place
abbrev step_of : List Lemma → ℕ → Lemma
step_of log k = get_or log k record { lits = []; hints = [] }

within : (c : After-follows) → c.loop-k.k < length c.args.log.now
within c = omega (arith, c.loop-k-test.true, c.len-k-end.ensures)

-- the step that the loop looks at
step : (c : After-follows) → slice_get c.args.log.now c.loop-k.k ≡ Some (step_of c.args.log.now c.loop-k.k)
step c = slice_get-get_or c.args.log.now c.loop-k.k record { lits = []; hints = [] } (within c)

-- what the test says of it
decides : (c : After-follows) → IsTrue c.follows.result ↔ FollowsAt c.args.formula.now c.args.log.now c.loop-k.k
decides c =
    let number = length c.clauses-first.result.now + c.loop-k.k in
    let at : number ≡ length c.args.formula.now.clauses + c.loop-k.k =
    ap (λ (cs : List (List Lit)). length cs + c.loop-k.k) c.clauses-first.ensures.clauses in
    let says = follows_step c.args.formula.now c.args.log.now c.loop-k.k (step_of c.args.log.now c.loop-k.k) c.loop-k.self number (step c)
    (c.loop-k.invariant.kept ∙ c.requires) at in
    let hints = c.hints.ensures (step_of c.args.log.now c.loop-k.k) (step c) in (
      λ holds. says.0 (subst (λ (hs : List ℕ). Follows (take number c.loop-k.self) (get_or c.loop-k.self number []) hs) hints (c.follows.ensures.decides.0 holds)),
      λ follows. c.follows.ensures.decides.1
          (subst (λ (hs : List ℕ). Follows (take number c.loop-k.self) (get_or c.loop-k.self number []) hs) (sym hints) (says.1 follows)),
    )

-- it stops here where the step does not follow
stops : (c : After-follows) → c.follows.result ≡ false → StopsAt c.args.formula.now c.args.log.now c.loop-k.k
stops c fails = (c.loop-k.invariant.before, inl (within c, λ follows. clash ((decides c).1 follows)))
  where
    clash : IsTrue c.follows.result → ⊥
    clash says = cc

-- the log refutes where the step follows and is empty
refutes : (c : After-follows) → c.follows.result ≡ true → (step_of c.args.log.now c.loop-k.k).lits ≡ [] → Refutes c.args.formula.now c.args.log.now
refutes c holds empty =
    refutes_at c.args.formula.now c.args.log.now c.loop-k.k c.loop-k.invariant.before ((decides c).0 holds) ((step_of c.args.log.now c.loop-k.k), step c, empty)

-- a step that has a literal is not the empty clause
nonempty : (c : After-follows) → ((step_of c.args.log.now c.loop-k.k).lits ≡ [] → ⊥) → ¬ IsEmptyAt c.args.log.now c.loop-k.k
nonempty c full empty = full (ap (λ (s : Lemma). s.lits) same ∙ empty.2)
  where
    same : (step_of c.args.log.now c.loop-k.k) ≡ empty.0
    same = let here = step c in let there = empty.1 in cc

-- whether the step is empty, by the test on its codes
empty_by : (log : List Lemma) (k : ℕ) (codes : List ℕ) (b : Bool) → slice_get log k ≡ Some (step_of log k) → ((s : Lemma) → slice_get log k ≡ Some s → map literal_of codes ≡ s.lits) → b ≡ (length codes == 0) → (b ≡ true) ↔ ((step_of log k).lits ≡ [])
empty_by log k codes b at are test = empty_map literal_of codes (step_of log k).lits b (length codes) (are (step_of log k) at) refl test

pub returns-then-not-follows-clause-yes : goal.returns-then-not-follows-clause-yes
returns-then-not-follows-clause-yes c =
    (no_exact c.args.formula.now c.args.log.now c.loop-k.k (stops (goal.at.returns-then-not-follows-clause-yes c).After-follows c.if-not-follows.true)).0

pub returns-then-not-follows-clause-no : goal.returns-then-not-follows-clause-no
returns-then-not-follows-clause-no c =
    (no_exact c.args.formula.now c.args.log.now c.loop-k.k (stops (goal.at.returns-then-not-follows-clause-no c).After-follows c.if-not-follows.true)).1

pub returns-then-is_empty-clause-yes : goal.returns-then-is_empty-clause-yes
returns-then-is_empty-clause-yes c =
    (yes_exact c.args.formula.now c.args.log.now
    (refutes (goal.at.returns-then-is_empty-clause-yes c).After-follows c.if-not-follows.false ((empty_by c.args.log.now c.loop-k.k c.codes.result.now c.is_empty.result (step (goal.at.returns-then-is_empty-clause-yes c).After-follows) c.codes.ensures c.is_empty.ensures).0 c.if-is_empty.true))).0

pub returns-then-is_empty-clause-no : goal.returns-then-is_empty-clause-no
returns-then-is_empty-clause-no c =
    (yes_exact c.args.formula.now c.args.log.now
    (refutes (goal.at.returns-then-is_empty-clause-no c).After-follows c.if-not-follows.false ((empty_by c.args.log.now c.loop-k.k c.codes.result.now c.is_empty.result (step (goal.at.returns-then-is_empty-clause-no c).After-follows) c.codes.ensures c.is_empty.ensures).0 c.if-is_empty.true))).1

pub returns-then-is_empty-clause-unsatisfiable : goal.returns-then-is_empty-clause-unsatisfiable
returns-then-is_empty-clause-unsatisfiable c = λ _.
    refuted_unsatisfiable c.args.formula.now c.args.log.now
    (refutes (goal.at.returns-then-is_empty-clause-unsatisfiable c).After-follows c.if-not-follows.false ((empty_by c.args.log.now c.loop-k.k c.codes.result.now c.is_empty.result (step (goal.at.returns-then-is_empty-clause-unsatisfiable c).After-follows) c.codes.ensures c.is_empty.ensures).0 c.if-is_empty.true))

pub loop-k-preserved : goal.loop-k-preserved
loop-k-preserved c =
    let here = (goal.at.loop-k-preserved c).After-follows in
    record {
      kept = c.follows.ensures.kept ∙ c.loop-k.invariant.kept;
      before = IsOpenBefore-more c.args.formula.now c.args.log.now c.loop-k.k c.loop-k.invariant.before ((decides here).0 c.if-not-follows.false)
          (nonempty here (λ empty. clash c.is_empty.result ((empty_by c.args.log.now c.loop-k.k c.codes.result.now c.is_empty.result (step here) c.codes.ensures c.is_empty.ensures).1 empty) c.if-is_empty.false));
    }
  where
    clash : (b : Bool) → IsTrue b → b ≡ false → ⊥
    clash b holds fails = cc

-- it stops at the end where no step was empty and all followed
ends : (c : goal.After-len) → StopsAt c.args.formula.now c.args.log.now c.len.result
ends c = (subst (IsOpenBefore c.args.formula.now c.args.log.now) at c.loop-k.invariant.before, inr c.len.ensures)
  where
    at : c.loop-k.k ≡ c.len.result
    at = omega (arith, c.len-k-end.ensures, c.len.ensures, c.loop-k-test.false, c.loop-k.auto.k-end)

pub returns-clause-yes : goal.returns-clause-yes
returns-clause-yes c = (no_exact c.args.formula.now c.args.log.now c.len.result (ends c)).0

pub returns-clause-no : goal.returns-clause-no
returns-clause-no c = (no_exact c.args.formula.now c.args.log.now c.len.result (ends c)).1
