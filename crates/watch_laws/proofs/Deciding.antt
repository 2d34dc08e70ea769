-- Each premise fails at a cycle or holds there, so that a run has a first cycle at which one fails, or none.
use Rattle.std.proofs.Common.{◌≡◌, ◌≢◌, ◌∙◌, ℕ, zero, suc, ◌+◌, ◌-◌, ◌<◌, ◌≤◌, Bool, true, false, List, [], ◌∷◌, length, ◌⊎◌, inl, inr, Option, Some, None, arith, subst, sym, refl, ap}
use Rattle.std.specs.Prelude.{IsTrue, slice_get}
use Rattle.std.proofs.lemmas.Bool.{false≢true}
use Rattle.wb_values.specs.Value.{Valuation, as_number}
use Rattle.model_meaning.specs.Model.{Model, Instruction, instruction_name, instructions_in}
use Rattle.model_meaning.specs.Instruction.{IsInstruction, IsStarted, AreFirstTwoDecoded}
use Rattle.model_meaning.specs.Outcome.{Outcome, next, not_valid, no_instruction, several, trouble, IsOutcome}
use Rattle.verilog_trees.specs.Syntax.{Expression}
use Rattle.refinement.specs.Map.{Setting, InstructionMap, condition_holds, instruction_map}
use Rattle.refinement.specs.Run.{Run, HoldsAt, IsResetAt, HoldsOf}
use Rattle.refinement.specs.Refinement.{state_at, inputs_at, StartsAt, IsMapEntry, CommitsAt, IsCommandOf, EndsAt, IsIdle}
use Rattle.wb_laws.proofs.SomeOutcome.{an_outcome}
use Rattle.watched_runs.specs.Premises.{Premise, of_reset, of_assumption, of_flight, IsStartInside, PremiseFails, HavePremises, IsPremiseEnd}
use Rattle.watch_laws.proofs.Idle.{compared, one_command, after_reset, cut, not_idle, HasEndedBefore, ended_before}

-- told apart: it is so, or it is not
abbrev pub Told : Type 0 → Type 0
Told A = A ⊎ (¬ A)

pub tested : (b : Bool) → Told (IsTrue b)
tested true = inl refl
tested false = inr (λ h. false≢true h)

pub some_same : {A : Type 0} {x y : A} → Some x ≡ Some y → x ≡ y
some_same e = cc

-- ---- commands

-- exactly two instructions do not decode where one alone does
pub not_two : (m : Model) (q w : Valuation) (j a b : ℕ) → IsStarted m q w j → AreFirstTwoDecoded m q w a b → ⊥
not_two m q w j a b started two = elim (compared a j) [
  | inl l ↦ started.alone.no_other a two.first two.is_j (λ e. omega (arith, l, e)) two.first_decoded
  | inr (inl l) ↦ started.alone.no_other a two.first two.is_j (λ e. omega (arith, l, e)) two.first_decoded
  | inr (inr e) ↦ let l : a < b = two.j_first in started.alone.no_other b two.second two.is_k (λ f. omega (arith, l, e, f)) two.second_decoded
]

-- whether an instruction starts, by what a model does there
pub starts_by : (m : Model) (q w : Valuation) (o : Outcome) → IsOutcome m q w o → Told ((j : ℕ) × IsStarted m q w j)
starts_by m q w (next j r) h = inl (j, h.0)
starts_by m q w not_valid h = inr (λ x. h x.1.valid)
starts_by m q w no_instruction h = inr (λ x. h.1 x.0 x.1.alone.i x.1.alone.is_j x.1.alone.decoded)
starts_by m q w (several a b) h = inr (λ x. not_two m q w x.0 a b x.1 h.1)
starts_by m q w (trouble t) h = inl (h.j, h.started)

module _ (s : Setting) (run : Run) where
  pub is_command : (t : ℕ) → Told ((j : ℕ) × IsCommandOf s run t j)
  is_command t = let o = an_outcome s.model (state_at s run t) (inputs_at s run t) in starts_by s.model (state_at s run t) (inputs_at s run t) o.0 o.1

  by_entry : (j t : ℕ) (i : Instruction) → IsInstruction s.model j i → (o : Option InstructionMap)
      → instruction_map s.map.instructions (instruction_name i) ≡ o → Told (CommitsAt s run j t)
  by_entry j t i is None e =
      inr (λ x.
      let same : x.1.0 ≡ i = some_same (sym x.1.1 ∙ is) in
      let none : None ≡ Some x.0 = sym e ∙ subst (λ y. instruction_map s.map.instructions (instruction_name y) ≡ Some x.0) same x.1.2 in
      cc)
  by_entry j t i is (Some y) e = elim (tested (condition_holds s (run.valuations t) y.commit)) [
    | inl holds ↦ inl (y, (i, is, e), holds)
    | inr fails ↦
        inr (λ x.
        let same : x.1.0 ≡ i = some_same (sym x.1.1 ∙ is) in
        let entry : x.0 ≡ y = some_same (sym (subst (λ z. instruction_map s.map.instructions (instruction_name z) ≡ Some x.0) same x.1.2) ∙ e) in
        fails (subst (λ (z : InstructionMap). HoldsAt s run t z.commit) entry x.2))
  ]

  -- A command's instruction has its commit at a cycle, or not.
  pub commits : (j t : ℕ) (i : Instruction) → IsInstruction s.model j i → Told (CommitsAt s run j t)
  commits j t i is = by_entry j t i is (instruction_map s.map.instructions (instruction_name i)) refl

  -- ---- where each cycle stands

  -- in the reset, idle, or after the start of a command that has not ended
  data Place : ℕ → Type 0 where
    resetting : {t : ℕ} → t < s.map.reset_cycles → Place t
    at_idle : {t : ℕ} (n : ℕ) → IsIdle s run t n t → Place t
    inside : {t : ℕ} (n b : ℕ) → IsIdle s run t n b → StartsAt s run b → b < t
        → ((j x : ℕ) → IsCommandOf s run b j → b ≤ x → x < t → ¬ CommitsAt s run j x) → Place t

  from_reset : (t : ℕ) → t ≤ s.map.reset_cycles → Place t
  from_reset t le = elim (compared t s.map.reset_cycles) [
    | inl less ↦ Place.resetting less
    | inr (inl more) ↦ absurd (omega (arith, le, more))
    | inr (inr e) ↦ Place.at_idle 0 (subst (λ x. IsIdle s run x 0 x) (sym e) (IsIdle.after_reset (omega arith)))
  ]

  -- one cycle more of a command whose commit is told
  onward : (t n b j : ℕ) → IsIdle s run t n b → StartsAt s run b → b ≤ t → IsCommandOf s run b j
      → ((k x : ℕ) → IsCommandOf s run b k → b ≤ x → x < t → ¬ CommitsAt s run k x) → Told (CommitsAt s run j t) → Place (suc t)
  onward t n b j h starts le is none (inl holds) =
      Place.at_idle (suc n)
      (IsIdle.after_command j t (cut s run t (suc t) n b (omega (arith, le)) h) starts is
      (record { from = le; commits = holds; first = λ u from below. none j u is from below }) (omega arith))
  onward t n b j h starts le is none (inr fails) =
      Place.inside n b (cut s run t (suc t) n b (omega (arith, le)) h) starts (omega (arith, le))
      (λ k x is_k from below held.
      let same : k ≡ j = one_command s.model _ _ k j is_k is in
      elim (compared x t) [
        | inl less ↦ none k x is_k from less held
        | inr (inl more) ↦ absurd (omega (arith, below, more))
        | inr (inr e) ↦ fails (subst (λ y. CommitsAt s run j y) e (subst (λ i. CommitsAt s run i x) same held))
      ])

  -- a start that begins no command, or one
  from_start : (t n b : ℕ) → IsIdle s run t n b → StartsAt s run b → b ≤ t
      → ((k x : ℕ) → IsCommandOf s run b k → b ≤ x → x < t → ¬ CommitsAt s run k x) → Told ((j : ℕ) × IsCommandOf s run b j) → Place (suc t)
  from_start t n b h starts le none (inl is) = onward t n b is.0 h starts le is.1 none (commits is.0 t is.1.alone.i is.1.alone.is_j)
  from_start t n b h starts le none (inr no_command) =
      Place.inside n b (cut s run t (suc t) n b (omega (arith, le)) h) starts (omega (arith, le))
      (λ k x is_k from below held. no_command (k, is_k))

  place_after : (t : ℕ) → Place t → Place (suc t)
  place_after t (Place.resetting less) = from_reset (suc t) (omega (arith, less))
  place_after t (Place.at_idle n h) = elim (tested (condition_holds s (run.valuations t) s.map.start)) [
    | inl starts ↦ from_start t n t h starts (omega arith) (λ k x is from below held. absurd (omega (arith, from, below))) (is_command t)
    | inr quiet ↦ Place.at_idle n (IsIdle.after_idle (cut s run t (suc t) n t (omega arith) h) (omega arith) quiet)
  ]
  place_after t (Place.inside n b h starts less none) = from_start t n b h starts (omega (arith, less)) none (is_command b)

  place_at : (t : ℕ) → Place t
  place_at zero = from_reset zero (omega arith)
  place_at (suc t) = place_after t (place_at t)

  -- ---- premises

  flight_by : (t : ℕ) → Place t → Told (IsStartInside s run t)
  flight_by t (Place.resetting less) =
      inr (λ x. let l : s.map.reset_cycles ≤ x.begun = after_reset s run t x.ended x.begun x.is_idle in let b : x.begun < t = x.after in omega (arith, less, l, b))
  flight_by t (Place.at_idle n h) = inr (λ x. idle_quiet x)
    where
      idle_quiet : IsStartInside s run t → ⊥
      idle_quiet x =
          let e = ended_before s run t t n x.ended t x.begun h x.is_idle x.after x.begins in
          x.not_ended e.j e.last e.is_command e.ends.from e.before e.ends.commits
  flight_by t (Place.inside n b h starts less none) = elim (tested (condition_holds s (run.valuations t) s.map.start)) [
    | inl again ↦ inl (record { ended = n; begun = b; is_idle = h; begins = starts; after = less; not_ended = none; starts = again })
    | inr quiet ↦ inr (λ x. quiet x.starts)
  ]

  reset_told : (t : ℕ) → Told (PremiseFails s run t of_reset)
  reset_told t = elim (compared t s.map.reset_cycles) [
    | inl less ↦ elim (equal (as_number (run.valuations t s.map.reset_signal)) s.map.reset_active) [
      | inl active ↦ inr (λ x. elim x [ inl a ↦ a.1 active | inr b ↦ let l = b.0 in omega (arith, less, l) ])
      | inr not ↦ inl (inl (less, not))
    ]
    | inr rest ↦ let past : s.map.reset_cycles ≤ t = elim rest [ inl more ↦ omega (arith, more) | inr e ↦ omega (arith, e) ] in
        elim (equal (as_number (run.valuations t s.map.reset_signal)) s.map.reset_active) [
          | inl active ↦ inl (inr (past, active))
          | inr not ↦ inr (λ x. elim x [ inl a ↦ let l = a.0 in omega (arith, past, l) | inr b ↦ not b.1 ])
        ]
  ]
    where
      equal : (m n : ℕ) → Told (m ≡ n)
      equal m n = grind arith

  holds_told : (t : ℕ) (es : List Expression) (k : ℕ) → (o : Option Expression) → slice_get es k ≡ o → Told (HoldsOf s run es k t)
  holds_told t es k None e = inl (λ c is. let none : None ≡ Some c = sym e ∙ is in cc)
  holds_told t es k (Some c) e = elim (tested (condition_holds s (run.valuations t) c)) [
    | inl holds ↦ inl (λ d is. subst (λ x. HoldsAt s run t x) (some_same (sym e ∙ is)) holds)
    | inr fails ↦ inr (λ h. fails (h c e))
  ]

  -- one of the first so many assumptions fails, or each of them holds
  assumptions_told : (t n : ℕ) → s.map.reset_cycles ≤ t → n ≤ length s.map.assume
      → ((k : ℕ) × PremiseFails s run t (of_assumption k)) ⊎ ((k : ℕ) → k < n → HoldsOf s run s.map.assume k t)
  assumptions_told t zero past le = inr (λ k less. absurd (omega (arith, less)))
  assumptions_told t (suc n) past le = elim (assumptions_told t n past (omega (arith, le))) [
    | inl x ↦ inl x
    | inr each ↦ elim (holds_told t s.map.assume n (slice_get s.map.assume n) refl) [
      | inr fails ↦ inl (n, (past, omega (arith, le), fails))
      | inl holds ↦ inr (λ k less. elim (compared k n) [
        | inl below ↦ each k below
        | inr (inl more) ↦ absurd (omega (arith, less, more))
        | inr (inr e) ↦ subst (λ i. HoldsOf s run s.map.assume i t) (sym e) holds
      ])
    ]
  ]

  -- A premise fails at the cycle, or none does.
  abbrev IsToldAt : ℕ → Type 0
  IsToldAt t = ((which : Premise) × PremiseFails s run t which) ⊎ ((which : Premise) → ¬ PremiseFails s run t which)

  none_of : (t : ℕ) → ¬ PremiseFails s run t of_reset → ¬ IsStartInside s run t
      → ((k : ℕ) → s.map.reset_cycles ≤ t → k < length s.map.assume → HoldsOf s run s.map.assume k t) → (which : Premise) → ¬ PremiseFails s run t which
  none_of t reset flight each of_reset x = reset x
  none_of t reset flight each (of_assumption k) x = x.2 (each k x.0 x.1)
  none_of t reset flight each of_flight x = flight x

  told_at : (t : ℕ) → IsToldAt t
  told_at t = elim (reset_told t) [
    | inl x ↦ inl (of_reset, x)
    | inr reset ↦ elim (flight_by t (place_at t)) [
      | inl x ↦ inl (of_flight, x)
      | inr flight ↦ elim (compared t s.map.reset_cycles) [
        | inl less ↦ inr (none_of t reset flight (λ k past within. absurd (omega (arith, less, past))))
        | inr rest ↦ let past : s.map.reset_cycles ≤ t = elim rest [ inl more ↦ omega (arith, more) | inr e ↦ omega (arith, e) ] in
            elim (assumptions_told t (length s.map.assume) past (omega arith)) [
              | inl x ↦ inl (of_assumption x.0, x.1)
              | inr each ↦ inr (none_of t reset flight (λ k from within. each k within))
            ]
      ]
    ]
  ]

  pub one_more : (t : ℕ) → HavePremises s run t → ((which : Premise) → ¬ PremiseFails s run t which) → HavePremises s run (suc t)
  one_more t before none u which less = elim (compared u t) [
    | inl low ↦ before u which low
    | inr (inl high) ↦ absurd (omega (arith, less, high))
    | inr (inr e) ↦ subst (λ x. ¬ PremiseFails s run x which) (sym e) (none which)
  ]

  end_from : (left cycles t : ℕ) → t + left ≡ cycles → HavePremises s run t → (p : ℕ) × (t ≤ p) × IsPremiseEnd s run cycles p
  end_from zero cycles t e before =
      let same : t ≡ cycles = omega (arith, e) in
      (t, omega arith, record { within = omega (arith, same); before = before; fails = λ less. absurd (omega (arith, less, same)) })
  end_from (suc left) cycles t e before = elim (told_at t) [
    | inl x ↦ (t, omega arith, record { within = omega (arith, e); before = before; fails = λ less. x })
    | inr none ↦
        let rest = end_from left cycles (suc t) (omega (arith, e)) (one_more t before none) in
        let l : suc t ≤ rest.0 = rest.1 in
        (rest.0, omega (arith, l), rest.2)
  ]

  -- Where no premise fails before cycle t, the first one fails at t or later, or none does.
  pub premise_end : (cycles t : ℕ) → t ≤ cycles → HavePremises s run t → (p : ℕ) × (t ≤ p) × IsPremiseEnd s run cycles p
  premise_end cycles t le before = end_from (cycles - t) cycles t (omega (arith, le)) before
