-- The instruction that starts, and what a step of the model answers.
use Rattle.std.proofs.Common.{◌≡◌, ◌≢◌, ◌∙◌, ℕ, zero, suc, ◌+◌, ◌<◌, ◌≤◌, Bool, true, false, List, [], ◌∷◌, length, slice_get, ◌⊎◌, inl, inr, Option, Some, None, refl, sym, ap, subst, arith}
use Rattle.std.specs.Prelude.{IsTrue}
use Rattle.std.proofs.lemmas.Bool.{false≢true}
use Rattle.wb_values.specs.Value.{Value, Valuation}
use Rattle.model_meaning.specs.Model as pure
use Rattle.model_meaning.specs.Model.{Model, Machine, machine, Instruction, Instructions, no_instructions, and_then, valid_of, decode_of, holds, instruction_list, instructions_in, point_of}
use Rattle.model_meaning.specs.Instruction.{IsInstruction, DecodesAt, IsStarted, NoneDecodesAt, AreFirstTwoDecoded, NoneDecodes, DoesOne, DoesStep, Steps}
use Rattle.model_meaning.specs.Instruction as pure_instruction
use Rattle.model_meaning.specs.Outcome.{Outcome, next, not_valid, no_instruction, several, trouble, IsOutcome}
use Rattle.model_meaning.proofs.OneInstruction.{both_ways}
use Rattle.wb_laws.proofs.Outcomes.{one_outcome}
use Rattle.wb_terms.specs.Graph.{Graph}
use Rattle.ila_model.specs.declared.parts.ChildId.{ChildId}
use Rattle.ila_model.specs.declared.parts.Instruction as code
use Rattle.ila_model.specs.Meaning.{instructions_of}
use Rattle.ila_child.specs.declared.stepping.Stepped.{Stepped}
use Rattle.ila_child.specs.declared.stepping.Stepped.TheVariants.{Next, NotValid, NoInstruction, Several, ChildStuck, ChildTooLong}
use Rattle.ila_child.specs.State.{state_valuation, input_valuation}
use Rattle.ila_child.specs.Step.{IsStepped}
use Rattle.run_watch.specs.declared.standing.Other.{Other}
use Rattle.watch_laws.proofs.Deciding.{not_two}
use Rattle.run_watch.specs.Turns.{IsFirstDecoding, IsStart, mapped_or}
use Rattle.run_watch.proofs.Lists.{some_same}

-- ---- a step takes an instruction that decodes alone

none_at : (is : Instructions) (p : Valuation) → NoneDecodes is p → (j : ℕ) (i : Instruction) → slice_get (instruction_list is) j ≡ Some i
    → IsTrue (holds (decode_of i) p) → ⊥
none_at no_instructions p h j i e d = cc
none_at (and_then x is) p h zero i e d =
    let same : x ≡ i = some_same e in both_ways (holds (decode_of x) p) (subst (λ y. IsTrue (holds (decode_of y) p)) (sym same) d) h.0
none_at (and_then x is) p h (suc j) i e d = none_at is p h.1 j i e d

record Taken (is : Instructions) (p : Valuation) : Type 0 where
  pub place : ℕ
  pub taken : Instruction
  pub is_taken : slice_get (instruction_list is) place ≡ Some taken
  pub decoded : IsTrue (holds (decode_of taken) p)
  pub no_other : (k : ℕ) (i : Instruction) → slice_get (instruction_list is) k ≡ Some i → k ≢ place → ¬ IsTrue (holds (decode_of i) p)

taken_first : (i : Instruction) (is : Instructions) (p : Valuation) → IsTrue (holds (decode_of i) p) → NoneDecodes is p → Taken (and_then i is) p
taken_first i is p d none = record { place = 0; taken = i; is_taken = refl; decoded = d; no_other = others }
  where
    others : (k : ℕ) (x : Instruction) → slice_get (instruction_list (and_then i is)) k ≡ Some x → k ≢ 0 → ¬ IsTrue (holds (decode_of x) p)
    others zero x e n c = n refl
    others (suc k) x e n c = none_at is p none k x e c

taken_later : (i : Instruction) (is : Instructions) (p : Valuation) → ¬ IsTrue (holds (decode_of i) p) → Taken is p → Taken (and_then i is) p
taken_later i is p not t = record { place = suc t.place; taken = t.taken; is_taken = t.is_taken; decoded = t.decoded; no_other = others }
  where
    others : (k : ℕ) (x : Instruction) → slice_get (instruction_list (and_then i is)) k ≡ Some x → k ≢ suc t.place → ¬ IsTrue (holds (decode_of x) p)
    others zero x e n d = let same : i ≡ x = some_same e in not (subst (λ y. IsTrue (holds (decode_of y) p)) (sym same) d)
    others (suc k) x e n d = t.no_other k x e (λ same. n (ap suc same)) d

taken_by : (is : Instructions) (p q : Valuation) → DoesOne is p q → Taken is p
taken_by no_instructions p q does = absurd does
taken_by (and_then i is) p q (inl a) = taken_first i is p a.0 a.1
taken_by (and_then i is) p q (inr a) = taken_later i is p (λ d. both_ways (holds (decode_of i) p) d a.0) (taken_by is p q a.1)

taken_in : (c : Machine) (p q : Valuation) → DoesStep c p q → IsTrue (holds (valid_of c) p) × ((j : ℕ) × (i : Instruction) × (slice_get (instructions_in c) j ≡ Some i) × IsTrue (holds (decode_of i) p)
    × ((k : ℕ) (o : Instruction) → slice_get (instructions_in c) k ≡ Some o → k ≢ j → ¬ IsTrue (holds (decode_of o) p)))
taken_in (machine states valid is) p q does =
    let t : Taken is p = taken_by is p q does.1 in (does.0, (t.place, t.taken, t.is_taken, t.decoded, t.no_other))

-- a step has its outcome
stepped : (m : Model) (q w r : Valuation) → Steps m q w r → (j : ℕ) × IsOutcome m q w (next j r)
stepped m q w r steps =
    let t = taken_in m.top (point_of m q w) steps.0 steps.1 in
    (t.1.0, (record { valid = t.0; alone = record { i = t.1.1; is_j = t.1.2; decoded = t.1.3; no_other = t.1.4 } }, steps))

-- ---- outcomes

-- the outcome is no next state
abbrev pub IsNoNext : Outcome → Type 0
IsNoNext (next j r) = ⊥
IsNoNext not_valid = Unit {0}
IsNoNext no_instruction = Unit {0}
IsNoNext (several j k) = Unit {0}
IsNoNext (trouble t) = Unit {0}

-- Where a model's outcome is no next state it has none.
pub no_next : (m : Model) (q w : Valuation) (o : Outcome) → IsOutcome m q w o → IsNoNext o → ¬ ((r : Valuation) × Steps m q w r)
no_next m q w o is other x =
    let found = stepped m q w x.0 x.1 in
    subst IsNoNext (one_outcome m q w o (next found.0 x.0) is found.1) other

pub not_valid_start : (m : Model) (q w : Valuation) → IsOutcome m q w not_valid → IsStart m q w None
not_valid_start m q w h x = h x.1.valid

pub none_start : (m : Model) (q w : Valuation) → IsOutcome m q w no_instruction → IsStart m q w None
none_start m q w h x = h.1 x.0 x.1.alone.i x.1.alone.is_j x.1.alone.decoded

pub several_start : (m : Model) (q w : Valuation) (j k : ℕ) → IsOutcome m q w (several j k) → IsStart m q w None
several_start m q w j k h x = not_two m q w x.0 j k x.1 h.1

-- Where an instruction starts, the first that decodes is it.
pub trouble_start : (m : Model) (q w : Valuation) (j : ℕ) (o : Option ℕ) → IsStarted m q w j → IsFirstDecoding m q w o → IsStart m q w o
trouble_start m q w j None started h = absurd (h j started.alone.i started.alone.is_j started.alone.decoded)
trouble_start m q w j (Some k) started h = subst (λ l. IsStarted m q w l) (sym (same_place (alike k j))) started
  where
    alike : (a b : ℕ) → (a ≡ b) ⊎ (a ≢ b)
    alike a b = grind arith

    same_place : (k ≡ j) ⊎ (k ≢ j) → k ≡ j
    same_place (inl e) = e
    same_place (inr n) = absurd (started.alone.no_other k h.0 h.1 n h.2)

-- an instruction stands among the code's
pub instruction_there : (g : Graph) (inner : Option ChildId → pure.Child) (is : List code.Instruction) (k : ℕ) (i : Instruction)
    → slice_get (instruction_list (instructions_of g inner is)) k ≡ Some i → k < length is
instruction_there g inner [] k i e = let none : None ≡ Some i = e in cc
instruction_there g inner (d ∷ is) zero i e = omega arith
instruction_there g inner (d ∷ is) (suc k) i e = let l = instruction_there g inner is k i e in omega (arith, l)

-- ---- the first instruction that decodes

-- none of the first so many decodes
abbrev pub NoneDecodesTo : ℕ → Model → (q w : Valuation) → Type 0
NoneDecodesTo n m q w = (j : ℕ) (i : Instruction) → j < n → IsInstruction m j i → ¬ DecodesAt m q w i

pub none_decodes : (m : Model) (q w : Valuation) → NoneDecodesTo 0 m q w
none_decodes m q w j i less at d = omega (arith, less)

pub decodes_not : (m : Model) (q w : Valuation) (k : ℕ) (i : Instruction) → IsInstruction m k i → (b : Bool) → b ≡ holds (decode_of i) (point_of m q w) → b ≡ false
    → NoneDecodesTo k m q w → NoneDecodesTo (k + 1) m q w
decodes_not m q w k i at b is no_b before j o less there d = by_place (low_or_same j k (omega (arith, less)))
  where
    low_or_same : (a c : ℕ) → a ≤ c → (a < c) ⊎ (a ≡ c)
    low_or_same a c le = grind arith

    by_place : (j < k) ⊎ (j ≡ k) → ⊥
    by_place (inl l) = before j o l there d
    by_place (inr e) =
        let same : o ≡ i = some_same (sym there ∙ (ap (λ a. slice_get (instructions_in m.top) a) e ∙ at)) in
        false≢true (sym no_b ∙ (is ∙ subst (λ a. holds (decode_of a) (point_of m q w) ≡ true) same d))

-- ---- what the answer of a step says of the start

module _ (m : Model) (q w : List Value) where
  abbrev before : Valuation
  before = state_valuation m q

  abbrev under : Valuation
  under = input_valuation m w

  pub next_start : (a : Stepped) (j : ℕ) (r : List Value) → IsStepped m q w a → a ≡ Next j r → IsStart m before under (Some j)
  next_start a j r h e = (subst (IsStepped m q w) e h).0.0

  pub stuck_start : (a : Stepped) (d k : ℕ) (o : Option ℕ) → IsStepped m q w a → a ≡ ChildStuck d k → IsFirstDecoding m before under o → IsStart m before under o
  stuck_start a d k o h e found = let x = (subst (IsStepped m q w) e h).0 in trouble_start m before under x.j o x.started found

  pub long_start : (a : Stepped) (d : ℕ) (o : Option ℕ) → IsStepped m q w a → a ≡ ChildTooLong d → IsFirstDecoding m before under o → IsStart m before under o
  long_start a d o h e found = let x = (subst (IsStepped m q w) e h).0 in trouble_start m before under x.j o x.started found

  pub no_start : (a : Stepped) → IsStepped m q w a → ((j : ℕ) (r : List Value) → a ≡ Next j r → ⊥) → ((d k : ℕ) → a ≡ ChildStuck d k → ⊥)
      → ((d : ℕ) → a ≡ ChildTooLong d → ⊥) → IsStart m before under None
  no_start (Next j r) h is_next stuck long = absurd (is_next j r refl)
  no_start NotValid h is_next stuck long = not_valid_start m before under h.0
  no_start NoInstruction h is_next stuck long = none_start m before under h.0
  no_start (Several j k) h is_next stuck long = several_start m before under j k h.0
  no_start (ChildStuck d k) h is_next stuck long = absurd (stuck d k refl)
  no_start (ChildTooLong d) h is_next stuck long = absurd (long d refl)

  -- without a next state the model has none
  pub no_state : (a : Stepped) → IsStepped m q w a → ((j : ℕ) (r : List Value) → a ≡ Next j r → ⊥) → ¬ ((r : Valuation) × Steps m before under r)
  no_state (Next j r) h is_next = absurd (is_next j r refl)
  no_state NotValid h is_next = no_next m before under not_valid h.0 tt
  no_state NoInstruction h is_next = no_next m before under no_instruction h.0 tt
  no_state (Several j k) h is_next = no_next m before under (several j k) h.0 tt
  no_state (ChildStuck d k) h is_next = no_next m before under (trouble (pure_instruction.stuck d k)) h.0 tt
  no_state (ChildTooLong d) h is_next = no_next m before under (trouble (pure_instruction.too_long d)) h.0 tt

  -- where none starts at the other mapped state, none does at the mapped state
  pub none_begun : {B : Type 0} (o : Option Other) (y : Other) (f : Option ℕ) → o ≡ Some y → IsStart m (state_valuation m y.mapped) under f → f ≡ None
      → ¬ (((j : ℕ) × IsStarted m (state_valuation m (mapped_or q o)) under j) × B)
  none_begun o y f e start none x =
      (subst (IsStart m (state_valuation m y.mapped) under) none start)
      (x.0.0, subst (λ p. IsStarted m (state_valuation m (mapped_or q p)) under x.0.0) e x.0.1)
