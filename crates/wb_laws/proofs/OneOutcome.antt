-- A step has no trouble, and trouble is one.
use Rattle.std.proofs.Common.{◌≡◌, ℕ, zero, suc, ◌<◌, ◌≤◌, ◌⊎◌, inl, inr, arith, subst, sym, refl, ap, ◌∙◌}
use Rattle.std.specs.Prelude.{IsTrue, IsFalse}
use Rattle.wb_values.specs.Value.{Valuation}
use Rattle.model_meaning.specs.Model.{Machine, machine, Instruction, instruction, Instructions, no_instructions, and_then, Child, no_child, child, valid_of, holds, decode_of, updated, entered, states_of}
use Rattle.model_meaning.specs.Instruction.{Reaches, NoneDecodes, SomeDecodes, DoesInstruction, DoesChild, DoesStep, DoesOne, Trouble, too_long, InstructionTrouble, ChildTrouble, StepTrouble, OneTrouble}
use Rattle.model_meaning.proofs.OneInstruction.{both_ways}
use Rattle.model_meaning.proofs.OneResult.{same_step}

-- a step begins where the valid condition holds
valid_before : (m : Machine) (p q : Valuation) → DoesStep m p q → IsTrue (holds (valid_of m) p)
valid_before (machine states valid is) p q h = h.0

none_or_some : (is : Instructions) (p : Valuation) → NoneDecodes is p → SomeDecodes is p → ⊥
none_or_some no_instructions p none some = some
none_or_some (and_then i is) p none (inl d) = both_ways (holds (decode_of i) p) d none.0
none_or_some (and_then i is) p none (inr some) = none_or_some is p none.1 some

-- a run goes on from a point
record GoesOn (m : Machine) (q : Valuation) (n k : ℕ) : Type 0 where
  pub next : Valuation
  pub step : DoesStep m q next
  pub longer : n < k

further : (m : Machine) (q : Valuation) (n k : ℕ) → GoesOn m q n k → GoesOn m q (suc n) (suc k)
further m q n k g = record { next = g.next; step = g.step; longer = let l = g.longer in omega (arith, l) }

-- Of two runs from one point, one of them to where the valid condition fails, the other to where it holds: the first goes on from there.
goes_on : (m : Machine) (n k : ℕ) (p q last : Valuation) → Reaches (DoesStep m) n p q → IsTrue (holds (valid_of m) q)
    → Reaches (DoesStep m) k p last → IsFalse (holds (valid_of m) last) → GoesOn m q n k
goes_on m zero zero p q last a t b f = absurd (both_ways (holds (valid_of m) q) t (subst (λ z. IsFalse (holds (valid_of m) z)) (sym b ∙ a) f))
goes_on m zero (suc k) p q last a t b f = record { next = b.0; step = subst (λ z. DoesStep m z b.0) a b.1; longer = omega arith }
goes_on m (suc n) zero p q last a t b f =
    absurd (both_ways (holds (valid_of m) p) (valid_before m p a.0 a.1) (subst (λ z. IsFalse (holds (valid_of m) z)) (sym b) f))
goes_on m (suc n) (suc k) p q last a t b f =
    let next : b.0 ≡ a.0 = same_step m p b.0 a.0 b.1 a.1 in
    further m q n k (goes_on m n k a.0 q last a.2 t (subst (λ z. Reaches (DoesStep m) k z last) next b.2) f)

-- Of two runs from one point: they end at one, or one of them goes on from where the other ends.
data Apart (m : Machine) (q r : Valuation) (n k : ℕ) : Type 0 where
  together : n ≡ k → q ≡ r → Apart m q r n k
  first_goes_on : GoesOn m r k n → Apart m q r n k
  second_goes_on : GoesOn m q n k → Apart m q r n k

apart_further : (m : Machine) (q r : Valuation) (n k : ℕ) → Apart m q r n k → Apart m q r (suc n) (suc k)
apart_further m q r n k (Apart.together same ends) = Apart.together (ap suc same) ends
apart_further m q r n k (Apart.first_goes_on g) = Apart.first_goes_on (further m r k n g)
apart_further m q r n k (Apart.second_goes_on g) = Apart.second_goes_on (further m q n k g)

apart : (m : Machine) (n k : ℕ) (p q r : Valuation) → Reaches (DoesStep m) n p q → Reaches (DoesStep m) k p r → Apart m q r n k
apart m zero zero p q r a b = Apart.together refl (sym a ∙ b)
apart m zero (suc k) p q r a b = Apart.second_goes_on (record { next = b.0; step = subst (λ z. DoesStep m z b.0) a b.1; longer = omega arith })
apart m (suc n) zero p q r a b = Apart.first_goes_on (record { next = a.0; step = subst (λ z. DoesStep m z a.0) b a.1; longer = omega arith })
apart m (suc n) (suc k) p q r a b =
    let next : b.0 ≡ a.0 = same_step m p b.0 a.0 b.1 a.1 in
    apart_further m q r n k (apart m n k a.0 q r a.2 (subst (λ z. Reaches (DoesStep m) k z r) next b.2))

-- ---- a step has no trouble

no_further : (n k steps : ℕ) → n ≡ steps → n < k → k ≤ steps → ⊥
no_further n k steps e l h = omega (arith, e, l, h)

mutual
  pub no_instruction_trouble : (i : Instruction) (p q : Valuation) (d : ℕ) (t : Trouble) → DoesInstruction i p q → InstructionTrouble i p d t → ⊥
  no_instruction_trouble (instruction called decode update program) p q d t does trouble = no_child_trouble program (updated update p) q d t does trouble

  no_child_trouble : (c : Child) (p q : Valuation) (d : ℕ) (t : Trouble) → DoesChild c p q → ChildTrouble c p d t → ⊥
  no_child_trouble no_child p q d t does trouble = trouble
  no_child_trouble (child steps program) p q d t (k, most, last, run, over, behind) (n, at, way, valid, inl too) =
      no_further n k steps too.0 (goes_on program n k (entered (states_of program) p) at last way valid run over).longer most
  no_child_trouble (child steps program) p q d t (k, most, last, run, over, behind) (n, at, way, valid, inr stuck_there) =
      let g : GoesOn program at n k = goes_on program n k (entered (states_of program) p) at last way valid run over in
      no_step_trouble program at g.next d n t g.step stuck_there.1

  no_step_trouble : (m : Machine) (p q : Valuation) (d n : ℕ) (t : Trouble) → DoesStep m p q → StepTrouble m p d n t → ⊥
  no_step_trouble (machine states valid is) p q d n t does trouble = no_one_trouble is p q d n t does.1 trouble

  no_one_trouble : (is : Instructions) (p q : Valuation) (d n : ℕ) (t : Trouble) → DoesOne is p q → OneTrouble is p d n t → ⊥
  no_one_trouble no_instructions p q d n t does trouble = does
  no_one_trouble (and_then i is) p q d n t (inl a) (inl b) = no_instruction_trouble i p q (suc d) t a.2 b.2
  no_one_trouble (and_then i is) p q d n t (inl a) (inr (inl b)) = none_or_some is p a.1 b.1
  no_one_trouble (and_then i is) p q d n t (inl a) (inr (inr b)) = both_ways (holds (decode_of i) p) a.0 b.0
  no_one_trouble (and_then i is) p q d n t (inr a) (inl b) = both_ways (holds (decode_of i) p) b.0 a.0
  no_one_trouble (and_then i is) p q d n t (inr a) (inr (inl b)) = both_ways (holds (decode_of i) p) b.0 a.0
  no_one_trouble (and_then i is) p q d n t (inr a) (inr (inr b)) = no_one_trouble is p q d n t a.1 b.1

-- ---- trouble is one

-- where a child fails to end: its steps are over, or one more has trouble
abbrev Fails : Machine → (steps d n : ℕ) → Valuation → Trouble → Type 0
Fails m steps d n q t = ((n ≡ steps) × (t ≡ too_long d)) ⊎ ((n < steps) × StepTrouble m q d n t)

-- a run that fails later does not fail where it goes on
not_earlier : (m : Machine) (steps d n k : ℕ) (q r : Valuation) (t s : Trouble) → Fails m steps d n q t → GoesOn m q n k → Fails m steps d k r s → ⊥
not_earlier m steps d n k q r t s (inl a) g (inl b) = let l = g.longer in let e = a.0 in let f = b.0 in omega (arith, l, e, f)
not_earlier m steps d n k q r t s (inl a) g (inr b) = let l = g.longer in let e = a.0 in let f = b.0 in omega (arith, l, e, f)
not_earlier m steps d n k q r t s (inr a) g b = no_step_trouble m q g.next d n t g.step a.1

-- Two failures at one place are one, where trouble of one more step is. (This is handed in.)
same_failure : (m : Machine) (steps d n : ℕ) (q : Valuation) (s t : Trouble) → (StepTrouble m q d n s → StepTrouble m q d n t → s ≡ t)
    → Fails m steps d n q s → Fails m steps d n q t → s ≡ t
same_failure m steps d n q s t same (inl a) (inl b) = a.1 ∙ sym b.1
same_failure m steps d n q s t same (inl a) (inr b) = absurd (no_further n steps steps a.0 b.0 (omega arith))
same_failure m steps d n q s t same (inr a) (inl b) = absurd (no_further n steps steps b.0 a.0 (omega arith))
same_failure m steps d n q s t same (inr a) (inr b) = same a.1 b.1

mutual
  pub same_instruction_trouble : (i : Instruction) (p : Valuation) (d : ℕ) (s t : Trouble) → InstructionTrouble i p d s → InstructionTrouble i p d t → s ≡ t
  same_instruction_trouble (instruction called decode update program) p d s t a b = same_child_trouble program (updated update p) d s t a b

  same_child_trouble : (c : Child) (p : Valuation) (d : ℕ) (s t : Trouble) → ChildTrouble c p d s → ChildTrouble c p d t → s ≡ t
  same_child_trouble no_child p d s t a b = absurd a
  same_child_trouble (child steps program) p d s t (n, q, way, valid, fails) (k, r, path, valid_too, fails_too) =
      elim (apart program n k (entered (states_of program) p) q r way path) [
        | together same ends ↦ same_failure program steps d n q s t (λ x y. same_step_trouble program q d n s t x y) fails
            (subst (λ z. Fails program steps d n z t) (sym ends) (subst (λ l. Fails program steps d l r t) (sym same) fails_too))
        | first_goes_on g ↦ absurd (not_earlier program steps d k n r q t s fails_too g fails)
        | second_goes_on g ↦ absurd (not_earlier program steps d n k q r s t fails g fails_too)
      ]

  same_step_trouble : (m : Machine) (p : Valuation) (d n : ℕ) (s t : Trouble) → StepTrouble m p d n s → StepTrouble m p d n t → s ≡ t
  same_step_trouble (machine states valid is) p d n s t a b = same_one_trouble is p d n s t a b

  same_one_trouble : (is : Instructions) (p : Valuation) (d n : ℕ) (s t : Trouble) → OneTrouble is p d n s → OneTrouble is p d n t → s ≡ t
  same_one_trouble no_instructions p d n s t a b = a ∙ sym b
  same_one_trouble (and_then i is) p d n s t (inl a) (inl b) = same_instruction_trouble i p (suc d) s t a.2 b.2
  same_one_trouble (and_then i is) p d n s t (inl a) (inr (inl b)) = absurd (none_or_some is p a.1 b.1)
  same_one_trouble (and_then i is) p d n s t (inl a) (inr (inr b)) = absurd (both_ways (holds (decode_of i) p) a.0 b.0)
  same_one_trouble (and_then i is) p d n s t (inr (inl a)) (inl b) = absurd (none_or_some is p b.1 a.1)
  same_one_trouble (and_then i is) p d n s t (inr (inl a)) (inr (inl b)) = a.2 ∙ sym b.2
  same_one_trouble (and_then i is) p d n s t (inr (inl a)) (inr (inr b)) = absurd (both_ways (holds (decode_of i) p) a.0 b.0)
  same_one_trouble (and_then i is) p d n s t (inr (inr a)) (inl b) = absurd (both_ways (holds (decode_of i) p) b.0 a.0)
  same_one_trouble (and_then i is) p d n s t (inr (inr a)) (inr (inl b)) = absurd (both_ways (holds (decode_of i) p) b.0 a.0)
  same_one_trouble (and_then i is) p d n s t (inr (inr a)) (inr (inr b)) = same_one_trouble is p d n s t a.1 b.1
