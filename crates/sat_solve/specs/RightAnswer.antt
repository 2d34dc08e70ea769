-- What an answer of the solver says.
use Rattle.std.specs.Prelude.{◌≡◌, ℕ, ◌≤◌, List, [], ◌∷◌, ◌++◌, length}
use Rattle.sat_base.specs.declared.logs.Lemma.{Lemma}
use Rattle.sat_base.specs.Formula.{Formula, Satisfies}
use Rattle.sat_base.specs.Log.{Refutes, IsSpent}
use Rattle.sat_solve.specs.State.{known_clauses}
use Rattle.sat_solve.specs.Lesson.{PropagatesWithoutConflict}
use Rattle.sat_solve.specs.declared.solver.Answer.{Answer}
use Rattle.sat_solve.specs.declared.solver.Answer.TheVariants.{Model, Refuted, Spent}

-- the last step is the empty one, and at most budget lemmas stand before it
abbrev pub EndsEmpty : ℕ → List Lemma → Type 0
EndsEmpty budget log =
    (front : List Lemma) × (last : Lemma) × (log ≡ front ++ last ∷ []) × (last.lits ≡ []) × (length front ≤ budget)

-- A model has one value for each variable and satisfies the formula. A log under Refuted refutes it
-- and ends with the empty lemma, behind at most as many others as the budget. A log under Spent is
-- spent on the budget: that many lemmas, each of which follows and is new to unit propagation. And
-- propagation over the formula and all of them, from nothing, does not fail, or the log could have
-- gone on to the empty lemma.
abbrev pub IsRightAnswer : Formula → ℕ → Answer → Type 0
IsRightAnswer f budget (Model values) = (length values ≡ f.vars) × Satisfies values f
IsRightAnswer f budget (Refuted log) = Refutes f log × EndsEmpty budget log
IsRightAnswer f budget (Spent log) = IsSpent budget f log × PropagatesWithoutConflict (known_clauses f log)
