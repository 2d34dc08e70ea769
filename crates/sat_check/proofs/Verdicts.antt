-- The verdict: each step by its number, and that the verdicts exclude one another.
use Rattle.std.proofs.Common.{◌≡◌, ◌↔◌, ℕ, ◌<◌, ◌≤◌, ◌+◌, inl, inr, List, [], ◌++◌, length, take, map, slice_get, Some, arith, refl, sym, ap, ◌∙◌, subst, get_or, length-append}
use Rattle.std.proofs.Math.Seq.{take-append-add}
use Rattle.std.proofs.lemmas.List.{get_or-map, get_or-append-add, take-map, length-map}
use Rattle.std.proofs.lemmas.Option.{slice_get_within, get_or_from_slice_get}
use Rattle.std.proofs.lemmas.Bool.{cases_lt}
use Rattle.sat_base.specs.declared.literals.Lit.{Lit}
use Rattle.sat_base.specs.declared.logs.Lemma.{Lemma}
use Rattle.sat_base.specs.Formula.{Formula}
use Rattle.sat_base.specs.Propagation.{Follows}
use Rattle.sat_base.specs.Log.{earlier_clauses, FollowsAt, IsEmptyAt, Refutes}
use Rattle.sat_check.specs.declared.checker.Verdict.{Verdict}
use Rattle.sat_check.specs.declared.checker.Verdict.TheVariants.{Yes, No}
use Rattle.sat_check.specs.Verdict.{numbered_clauses, IsOpenBefore, StopsAt}

-- the clauses before a step, and its own
pub take-numbered_clauses : (f : Formula) (log : List Lemma) (k : ℕ) → take (length f.clauses + k) (numbered_clauses f log) ≡ earlier_clauses f log k
take-numbered_clauses f log k =
    take-append-add f.clauses (map (λ (s : Lemma). s.lits) log) k
    ∙ ap (λ (cs : List (List Lit)). f.clauses ++ cs) (take-map (λ (s : Lemma). s.lits) k log)

pub get_or-numbered_clauses : (f : Formula) (log : List Lemma) (k : ℕ) (s : Lemma) → slice_get log k ≡ Some s
    → get_or (numbered_clauses f log) (length f.clauses + k) [] ≡ s.lits
get_or-numbered_clauses f log k s found =
    get_or-append-add f.clauses (map (λ (x : Lemma). x.lits) log) k []
    ∙ get_or-map (λ (x : Lemma). x.lits) log k s [] (slice_get_within log k s found)
    ∙ ap (λ (x : Lemma). x.lits) (get_or_from_slice_get log k s s found)

pub length-numbered_clauses : (f : Formula) (log : List Lemma) → length (numbered_clauses f log) ≡ length f.clauses + length log
length-numbered_clauses f log =
    length-append f.clauses (map (λ (s : Lemma). s.lits) log)
    ∙ ap (λ (n : ℕ). length f.clauses + n) (length-map log (λ (s : Lemma). s.lits))

-- what a checker finds of clause number (the formula's clauses) + k is what holds of step k
pub follows_step : (f : Formula) (log : List Lemma) (k : ℕ) (s : Lemma) (clauses : List (List Lit)) (number : ℕ)
    → slice_get log k ≡ Some s → clauses ≡ numbered_clauses f log → number ≡ length f.clauses + k
    → Follows (take number clauses) (get_or clauses number []) s.hints ↔ FollowsAt f log k
follows_step f log k s clauses number found all at =
    let front : take number clauses ≡ earlier_clauses f log k =
    ap (take number) all ∙ ap (λ (n : ℕ). take n (numbered_clauses f log)) at ∙ take-numbered_clauses f log k in
    let own : get_or clauses number [] ≡ s.lits =
    ap (λ (cs : List (List Lit)). get_or cs number []) all ∙ ap (λ (n : ℕ). get_or (numbered_clauses f log) n []) at
    ∙ get_or-numbered_clauses f log k s found in (
      λ walk. (
        s,
        found,
        subst (λ (lits : List Lit). Follows (earlier_clauses f log k) lits s.hints) own
            (subst (λ (cs : List (List Lit)). Follows cs (get_or clauses number []) s.hints) front walk),
      ),
      λ step.
          let same : step.0 ≡ s = same_step step.0 step.1 in
          subst (λ (cs : List (List Lit)). Follows cs (get_or clauses number []) s.hints) (sym front)
          (subst (λ (lits : List Lit). Follows (earlier_clauses f log k) lits s.hints) (sym own)
          (subst (λ (x : Lemma). Follows (earlier_clauses f log k) x.lits x.hints) same step.2)),
    )
  where
    same_step : (x : Lemma) → slice_get log k ≡ Some x → x ≡ s
    same_step x there = cc

-- a log that refutes stops nowhere
refutes_or_stops : (f : Formula) (log : List Lemma) (k : ℕ) → Refutes f log → StopsAt f log k → ⊥
refutes_or_stops f log k (m, empty, follow) (before, stop) =
    elim (cases_lt m k) [
      | inl earlier ↦ before.nonempty m earlier empty
      | inr later ↦ elim stop [
        | inl fault ↦ fault.1 (follow k later)
        | inr whole ↦ beyond whole (slice_get_within log m empty.0 empty.1) later
      ]
    ]
  where
    beyond : k ≡ length log → m < length log → k ≤ m → ⊥
    beyond whole within later = omega arith

-- it stops at one place only
stops_below : (f : Formula) (log : List Lemma) (i j : ℕ) → StopsAt f log i → StopsAt f log j → i < j → ⊥
stops_below f log i j (before_i, stop_i) (before_j, stop_j) less =
    elim stop_i [
      | inl fault ↦ fault.1 (before_j.follow i less)
      | inr whole ↦ elim stop_j [
        | inl fault ↦ beyond whole fault.0
        | inr whole_j ↦ beyond_end whole whole_j
      ]
    ]
  where
    beyond : i ≡ length log → j < length log → ⊥
    beyond e within = omega arith

    beyond_end : i ≡ length log → j ≡ length log → ⊥
    beyond_end p q = omega arith

stops_once : (f : Formula) (log : List Lemma) (i j : ℕ) → StopsAt f log i → StopsAt f log j → i ≡ j
stops_once f log i j stop_i stop_j =
    elim (cases_lt i j) [
      | inl less ↦ absurd (stops_below f log i j stop_i stop_j less)
      | inr above ↦ elim (cases_lt j i) [
        | inl more ↦ absurd (stops_below f log j i stop_j stop_i more)
        | inr equal ↦ omega arith
      ]
    ]

-- the clauses of `check`, where it answers yes and where it answers no
pub yes_exact : (f : Formula) (log : List Lemma) → Refutes f log
    → ((◌≡◌ {A = Verdict} Yes Yes) ↔ Refutes f log) × ((j : ℕ) → (◌≡◌ {A = Verdict} Yes (No j)) ↔ StopsAt f log j)
yes_exact f log refutes = (
  (λ _. refutes, λ _. refl),
  λ j. (λ wrong. absurd (clash j wrong), λ stop. absurd (refutes_or_stops f log j refutes stop)),
)
  where
    clash : (j : ℕ) → ◌≡◌ {A = Verdict} Yes (No j) → ⊥
    clash j wrong = cc

pub no_exact : (f : Formula) (log : List Lemma) (k : ℕ) → StopsAt f log k
    → ((◌≡◌ {A = Verdict} (No k) Yes) ↔ Refutes f log) × ((j : ℕ) → (◌≡◌ {A = Verdict} (No k) (No j)) ↔ StopsAt f log j)
no_exact f log k stop = (
  (λ wrong. absurd (clash wrong), λ refutes. absurd (refutes_or_stops f log k refutes stop)),
  λ j. (λ same. subst (StopsAt f log) (inside j same) stop, λ stop_j. ap (λ (n : ℕ). No n) (stops_once f log k j stop stop_j)),
)
  where
    clash : ◌≡◌ {A = Verdict} (No k) Yes → ⊥
    clash wrong = cc

    inside : (j : ℕ) → ◌≡◌ {A = Verdict} (No k) (No j) → k ≡ j
    inside j same = cc

pub IsOpenBefore-none : (f : Formula) (log : List Lemma) → IsOpenBefore f log 0
IsOpenBefore-none f log = record { follow = λ j below. absurd (nothing j below); nonempty = λ j below. absurd (nothing j below) }
  where
    nothing : (j : ℕ) → j < 0 → ⊥
    nothing j below = omega arith

pub IsOpenBefore-more : (f : Formula) (log : List Lemma) (k : ℕ) → IsOpenBefore f log k → FollowsAt f log k → ¬ IsEmptyAt log k
    → IsOpenBefore f log (k + 1)
IsOpenBefore-more f log k before follows nonempty = record {
  follow = λ j below. elim (cases_lt j k) [ inl less ↦ before.follow j less | inr here ↦ subst (FollowsAt f log) (at j below here) follows ];
  nonempty = λ j below. elim (cases_lt j k) [
    | inl less ↦ before.nonempty j less
    | inr here ↦ subst (λ (i : ℕ). ¬ IsEmptyAt log i) (at j below here) nonempty
  ];
}
  where
    at : (j : ℕ) → j < k + 1 → k ≤ j → k ≡ j
    at j below here = omega arith

-- an empty step after open ones, all of which follow, refutes
pub refutes_at : (f : Formula) (log : List Lemma) (k : ℕ) → IsOpenBefore f log k → FollowsAt f log k → IsEmptyAt log k → Refutes f log
refutes_at f log k before follows empty =
    (k, empty, λ j below. elim (cases_lt j k) [ inl less ↦ before.follow j less | inr here ↦ subst (FollowsAt f log) (at j below here) follows ])
  where
    at : (j : ℕ) → j ≤ k → k ≤ j → k ≡ j
    at j below here = omega arith
