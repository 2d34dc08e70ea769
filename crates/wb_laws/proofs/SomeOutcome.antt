-- At each state under inputs a model has an outcome.
use Rattle.std.proofs.Common.{◌≡◌, ◌≢◌, ℕ, zero, suc, ◌+◌, ◌<◌, ◌≤◌, Bool, true, false, ◌⊎◌, inl, inr, arith, subst, sym, refl, ap, List, [], ◌∷◌, Some}
use Rattle.std.specs.Prelude.{slice_get, IsTrue, IsFalse}
use Rattle.wb_values.specs.Value.{Valuation}
use Rattle.model_meaning.specs.Model.{Machine, machine, Model, Instruction, instruction, Instructions, no_instructions, and_then, Child, no_child, child, valid_of, holds, decode_of, updated, entered, left_behind, states_of, instructions_in, point_of}
use Rattle.model_meaning.specs.Instruction.{Reaches, NoneDecodes, SomeDecodes, DoesInstruction, DoesChild, DoesStep, DoesOne, Trouble, stuck, too_long, InstructionTrouble, ChildTrouble, StepTrouble, OneTrouble, own_states}
use Rattle.model_meaning.specs.Outcome.{Outcome, next, not_valid, no_instruction, several, trouble, IsOutcome, state_after}
use Rattle.scripts.specs.Simulation.{AreOutcomes}
use Rattle.model_meaning.proofs.OneInstruction.{both_ways, step_done}
use Rattle.wb_laws.specs.Simulations.{OutcomeExists, SimulationExists}

-- a test is true or false
tested : (b : Bool) → IsTrue b ⊎ IsFalse b
tested true = inl refl
tested false = inr refl

none_or_one : (is : Instructions) (p : Valuation) → NoneDecodes is p ⊎ SomeDecodes is p
none_or_one no_instructions p = inl tt
none_or_one (and_then i is) p = elim (tested (holds (decode_of i) p)) [
  | inl t ↦ inr (inl t)
  | inr f ↦ elim (none_or_one is p) [ inl none ↦ inl (f, none) | inr some ↦ inr (inr some) ]
]

-- ---- runs of a child

one_more : (step : Valuation → Valuation → Type 0) (n : ℕ) (p q r : Valuation) → Reaches step n p q → step q r → Reaches step (suc n) p r
one_more step zero p q r a s = (r, subst (λ z. step z r) (sym a) s, refl)
one_more step (suc n) p q r a s = (a.0, a.1, one_more step n a.0 q r a.2 s)

-- a step is taken, or it has trouble
abbrev IsAnswered : Machine → (d n : ℕ) → Valuation → Type 0
IsAnswered m d n p = ((q : Valuation) × DoesStep m p q) ⊎ ((t : Trouble) × StepTrouble m p d n t)

-- where at most so many steps from a point end: behind one of them the valid condition fails, or there is trouble
data End (m : Machine) (steps d : ℕ) (start : Valuation) : Type 0 where
  over : (n : ℕ) (last : Valuation) → n ≤ steps → Reaches (DoesStep m) n start last → IsFalse (holds (valid_of m) last) → End m steps d start
  failed : (n : ℕ) (q : Valuation) (t : Trouble) → Reaches (DoesStep m) n start q → IsTrue (holds (valid_of m) q)
      → ((n ≡ steps) × (t ≡ too_long d)) ⊎ ((n < steps) × StepTrouble m q d n t) → End m steps d start

-- n steps have been taken, and k more may be
walk : (m : Machine) (steps d : ℕ) (start : Valuation) → ((n : ℕ) (p : Valuation) → IsTrue (holds (valid_of m) p) → IsAnswered m d n p)
    → (k n : ℕ) (p : Valuation) → n + k ≡ steps → Reaches (DoesStep m) n start p → End m steps d start
walk m steps d start answer zero n p e way = elim (tested (holds (valid_of m) p)) [
  | inl t ↦ End.failed n p (too_long d) way t (inl (omega (arith, e), refl))
  | inr f ↦ End.over n p (omega (arith, e)) way f
]
walk m steps d start answer (suc k) n p e way = elim (tested (holds (valid_of m) p)) [
  | inl t ↦ elim (answer n p t) [
    | inl does ↦ walk m steps d start answer k (suc n) does.0 (omega (arith, e)) (one_more (DoesStep m) n start p does.0 way does.1)
    | inr fails ↦ End.failed n p fails.0 way t (inr (omega (arith, e), fails.1))
  ]
  | inr f ↦ End.over n p (omega (arith, e)) way f
]

child_end : (m : Machine) (steps d : ℕ) (p : Valuation) → End m steps d (entered (states_of m) p)
    → ((q : Valuation) × DoesChild (child steps m) p q) ⊎ ((t : Trouble) × ChildTrouble (child steps m) p d t)
child_end m steps d p (End.over n last most way f) = inl (left_behind (states_of m) p last, (n, most, last, way, f, refl))
child_end m steps d p (End.failed n q t way valid fails) = inr (t, (n, q, way, valid, fails))

none_taken : (steps : ℕ) → 0 + steps ≡ steps
none_taken steps = omega arith

mutual
  pub instruction_ends : (i : Instruction) (p : Valuation) (d : ℕ)
      → ((q : Valuation) × DoesInstruction i p q) ⊎ ((t : Trouble) × InstructionTrouble i p d t)
  instruction_ends (instruction called decode update program) p d = child_ends program (updated update p) d

  child_ends : (c : Child) (p : Valuation) (d : ℕ) → ((q : Valuation) × DoesChild c p q) ⊎ ((t : Trouble) × ChildTrouble c p d t)
  child_ends no_child p d = inl (p, refl)
  child_ends (child steps program) p d =
      child_end program steps d p
      (walk program steps d (entered (states_of program) p) (λ n q v. step_ends program q d n v) steps 0 (entered (states_of program) p) (none_taken steps) refl)

  step_ends : (m : Machine) (p : Valuation) (d n : ℕ) → IsTrue (holds (valid_of m) p) → IsAnswered m d n p
  step_ends (machine states valid is) p d n v = elim (one_ends is p d n) [
    | inl does ↦ inl (does.0, (v, does.1))
    | inr fails ↦ inr fails
  ]

  one_ends : (is : Instructions) (p : Valuation) (d n : ℕ) → ((q : Valuation) × DoesOne is p q) ⊎ ((t : Trouble) × OneTrouble is p d n t)
  one_ends no_instructions p d n = inr (stuck d n, refl)
  one_ends (and_then i is) p d n = elim (tested (holds (decode_of i) p)) [
    | inl t ↦ elim (none_or_one is p) [
      | inl none ↦ elim (instruction_ends i p (suc d)) [
        | inl does ↦ inl (does.0, inl (t, none, does.1))
        | inr fails ↦ inr (fails.0, inl (t, none, fails.1))
      ]
      | inr some ↦ inr (stuck d n, inr (inl (t, some, refl)))
    ]
    | inr f ↦ elim (one_ends is p d n) [
      | inl does ↦ inl (does.0, inr (f, does.1))
      | inr fails ↦ inr (fails.0, inr (inr (f, fails.1)))
    ]
  ]

-- ---- which instructions decode, by their numbers

abbrev IsAt : List Instruction → ℕ → Instruction → Type 0
IsAt is k i = slice_get is k ≡ Some i

abbrev Decodes : Valuation → Instruction → Type 0
Decodes p i = IsTrue (holds (decode_of i) p)

data Decoded (is : List Instruction) (p : Valuation) : Type 0 where
  none : ((k : ℕ) (i : Instruction) → IsAt is k i → ¬ Decodes p i) → Decoded is p
  alone : (j : ℕ) (i : Instruction) → IsAt is j i → Decodes p i
      → ((k : ℕ) (o : Instruction) → IsAt is k o → k ≢ j → ¬ Decodes p o) → Decoded is p
  first_two : (j k : ℕ) (x y : Instruction) → IsAt is j x → IsAt is k y → j < k → Decodes p x → Decodes p y
      → ((l : ℕ) (o : Instruction) → IsAt is l o → l < k → l ≢ j → ¬ Decodes p o) → Decoded is p

-- a number other than the first, or than a later one, by the number behind it
not_first : (x : Instruction) (is : List Instruction) (p : Valuation) → ((k : ℕ) (i : Instruction) → IsAt is k i → ¬ Decodes p i)
    → (k : ℕ) (o : Instruction) → IsAt (x ∷ is) k o → k ≢ 0 → ¬ Decodes p o
not_first x is p h zero o e n = absurd (n refl)
not_first x is p h (suc k) o e n = h k o e

same_at : (x o : Instruction) (is : List Instruction) → IsAt (x ∷ is) 0 o → x ≡ o
same_at x o is e = cc

not_head : (x o : Instruction) (is : List Instruction) (p : Valuation) → IsFalse (holds (decode_of x) p) → IsAt (x ∷ is) 0 o → ¬ Decodes p o
not_head x o is p f e d = both_ways (holds (decode_of x) p) (subst (λ i. Decodes p i) (sym (same_at x o is e)) d) f

with_head : (x : Instruction) (is : List Instruction) (p : Valuation) → Decodes p x → Decoded is p → Decoded (x ∷ is) p
with_head x is p t (Decoded.none h) = Decoded.alone 0 x refl t (not_first x is p h)
with_head x is p t (Decoded.alone j i at d h) = Decoded.first_two 0 (suc j) x i refl at (omega arith) t d between
  where
    between : (l : ℕ) (o : Instruction) → IsAt (x ∷ is) l o → l < suc j → l ≢ 0 → ¬ Decodes p o
    between zero o e a n = absurd (n refl)
    between (suc l) o e a n = h l o e (λ same. let wrong : ⊥ = omega (arith, a, same) in wrong)
with_head x is p t (Decoded.first_two j k a b at_j at_k below d_j d_k h) = Decoded.first_two 0 (suc j) x a refl at_j (omega arith) t d_j between
  where
    between : (l : ℕ) (o : Instruction) → IsAt (x ∷ is) l o → l < suc j → l ≢ 0 → ¬ Decodes p o
    between zero o e c n = absurd (n refl)
    between (suc l) o e c n = h l o e (omega (arith, c, below)) (λ same. let wrong : ⊥ = omega (arith, c, same) in wrong)

behind_head : (x : Instruction) (is : List Instruction) (p : Valuation) → IsFalse (holds (decode_of x) p) → Decoded is p → Decoded (x ∷ is) p
behind_head x is p f (Decoded.none h) = Decoded.none all
  where
    all : (k : ℕ) (o : Instruction) → IsAt (x ∷ is) k o → ¬ Decodes p o
    all zero o e = not_head x o is p f e
    all (suc k) o e = h k o e
behind_head x is p f (Decoded.alone j i at d h) = Decoded.alone (suc j) i at d all
  where
    all : (k : ℕ) (o : Instruction) → IsAt (x ∷ is) k o → k ≢ suc j → ¬ Decodes p o
    all zero o e n = not_head x o is p f e
    all (suc k) o e n = h k o e (λ same. n (ap suc same))
behind_head x is p f (Decoded.first_two j k a b at_j at_k below d_j d_k h) =
    Decoded.first_two (suc j) (suc k) a b at_j at_k (omega (arith, below)) d_j d_k between
  where
    between : (l : ℕ) (o : Instruction) → IsAt (x ∷ is) l o → l < suc k → l ≢ suc j → ¬ Decodes p o
    between zero o e c n = not_head x o is p f e
    between (suc l) o e c n = h l o e (omega (arith, c)) (λ same. n (ap suc same))

decoded : (is : List Instruction) (p : Valuation) → Decoded is p
decoded [] p = Decoded.none (λ k i e. let wrong : ⊥ = cc in absurd wrong)
decoded (x ∷ is) p = elim (tested (holds (decode_of x) p)) [
  | inl t ↦ with_head x is p t (decoded is p)
  | inr f ↦ behind_head x is p f (decoded is p)
]

-- ---- the outcome

valid_outcome : (m : Model) (q w : Valuation) → IsTrue (holds (valid_of m.top) (point_of m q w)) → Decoded (instructions_in m.top) (point_of m q w)
    → (o : Outcome) × IsOutcome m q w o
valid_outcome m q w v (Decoded.none h) = (no_instruction, (v, h))
valid_outcome m q w v (Decoded.first_two j k x y at_j at_k below d_j d_k h) =
    (several j k, (v, record { first = x; second = y; is_j = at_j; is_k = at_k; j_first = below; first_decoded = d_j; second_decoded = d_k; none_between = h }))
valid_outcome m q w v (Decoded.alone j i at d h) = elim (instruction_ends i (point_of m q w) 1) [
  | inl does ↦ (
    next j (own_states m does.0),
    (
      record { valid = v; alone = record { i = i; is_j = at; decoded = d; no_other = h } },
      (does.0, step_done m.top (point_of m q w) does.0 j i at v d h does.1, refl),
    ),
  )
  | inr fails ↦ (
    trouble fails.0,
    record { j = j; i = i; started = record { valid = v; alone = record { i = i; is_j = at; decoded = d; no_other = h } }; is_j = at; has_trouble = fails.1 },
  )
]

pub an_outcome : OutcomeExists
an_outcome m q w = elim (tested (holds (valid_of m.top) (point_of m q w))) [
  | inl t ↦ valid_outcome m q w t (decoded (instructions_in m.top) (point_of m q w))
  | inr f ↦ (not_valid, λ t. both_ways (holds (valid_of m.top) (point_of m q w)) t f)
]

-- one outcome after the other
outcomes : (m : Model) (q : Valuation) (ws : List Valuation) → (os : List Outcome) × AreOutcomes m q ws os
outcomes m q [] = ([], tt)
outcomes m q (w ∷ ws) =
    let here : (o : Outcome) × IsOutcome m q w o = an_outcome m q w in
    let rest : (os : List Outcome) × AreOutcomes m (state_after q here.0) ws os = outcomes m (state_after q here.0) ws in
    (here.0 ∷ rest.0, (here.1, rest.1))

pub a_simulation : SimulationExists
a_simulation m script = outcomes m _ _
