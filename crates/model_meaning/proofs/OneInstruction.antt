-- A step of a machine and the one instruction that decodes.
use Rattle.std.proofs.Common.{◌≡◌, ◌≢◌, ℕ, zero, suc, Bool, true, false, inl, inr, arith, subst, sym, refl, ◌∙◌, Some}
use Rattle.std.specs.Prelude.{slice_get, IsTrue, IsFalse}
use Rattle.wb_values.specs.Value.{Valuation}
use Rattle.model_meaning.specs.Model.{Machine, machine, Instruction, Instructions, no_instructions, and_then, valid_of, holds, decode_of, instruction_list, instructions_in}
use Rattle.model_meaning.specs.Instruction.{NoneDecodes, DoesInstruction, DoesOne, DoesStep}

pub not_true : (b : Bool) → ¬ IsTrue b → IsFalse b
not_true true h = absurd (h refl)
not_true false h = refl

pub both_ways : (b : Bool) → IsTrue b → IsFalse b → ⊥
both_ways b t f = let e : true ≡ false = sym t ∙ f in cc

none_at : (is : Instructions) (p : Valuation) → NoneDecodes is p → (j : ℕ) (i : Instruction) → slice_get (instruction_list is) j ≡ Some i
    → IsTrue (holds (decode_of i) p) → ⊥
none_at no_instructions p h j i e d = cc
none_at (and_then x is) p h zero i e d =
    let same : x ≡ i = cc in both_ways (holds (decode_of x) p) (subst (λ y. IsTrue (holds (decode_of y) p)) (sym same) d) h.0
none_at (and_then x is) p h (suc j) i e d = none_at is p h.1 j i e d

-- the instruction that decodes is the one that is done
pub done_by_decoded : (is : Instructions) (p q : Valuation) → DoesOne is p q → (j : ℕ) (i : Instruction)
    → slice_get (instruction_list is) j ≡ Some i → IsTrue (holds (decode_of i) p) → DoesInstruction i p q
done_by_decoded no_instructions p q h j i e d = absurd h
done_by_decoded (and_then x is) p q (inl h) zero i e d =
    let same : x ≡ i = cc in subst (λ y. DoesInstruction y p q) same h.2
done_by_decoded (and_then x is) p q (inl h) (suc j) i e d = absurd (none_at is p h.1 j i e d)
done_by_decoded (and_then x is) p q (inr h) zero i e d =
    let same : x ≡ i = cc in
    absurd (both_ways (holds (decode_of x) p) (subst (λ y. IsTrue (holds (decode_of y) p)) (sym same) d) h.0)
done_by_decoded (and_then x is) p q (inr h) (suc j) i e d = done_by_decoded is p q h.1 j i e d

none_of : (is : Instructions) (p : Valuation)
    → ((k : ℕ) (o : Instruction) → slice_get (instruction_list is) k ≡ Some o → ¬ IsTrue (holds (decode_of o) p)) → NoneDecodes is p
none_of no_instructions p h = tt
none_of (and_then x is) p h =
    (not_true (holds (decode_of x) p) (h zero x refl), none_of is p (λ k o e. h (suc k) o e))

-- where one instruction alone decodes, what it does is the step
pub one_done : (is : Instructions) (p q : Valuation) (j : ℕ) (i : Instruction) → slice_get (instruction_list is) j ≡ Some i
    → IsTrue (holds (decode_of i) p)
    → ((k : ℕ) (o : Instruction) → slice_get (instruction_list is) k ≡ Some o → k ≢ j → ¬ IsTrue (holds (decode_of o) p))
    → DoesInstruction i p q → DoesOne is p q
one_done no_instructions p q j i e d alone h = cc
one_done (and_then x is) p q zero i e d alone h =
    let same : i ≡ x = cc in
    inl (subst (λ y. IsTrue (holds (decode_of y) p)) same d, none_of is p (λ k o f. alone (suc k) o f (omega arith)), subst (λ y. DoesInstruction y p q) same h)
one_done (and_then x is) p q (suc j) i e d alone h =
    inr (not_true (holds (decode_of x) p) (alone zero x refl (omega arith)), one_done is p q j i e d (λ k o f n. alone (suc k) o f (omega arith)) h)

pub step_done : (m : Machine) (p q : Valuation) (j : ℕ) (i : Instruction) → slice_get (instructions_in m) j ≡ Some i
    → IsTrue (holds (valid_of m) p) → IsTrue (holds (decode_of i) p)
    → ((k : ℕ) (o : Instruction) → slice_get (instructions_in m) k ≡ Some o → k ≢ j → ¬ IsTrue (holds (decode_of o) p))
    → DoesInstruction i p q → DoesStep m p q
step_done (machine states valid is) p q j i e v d alone h = (v, one_done is p q j i e d alone h)

pub step_by_decoded : (m : Machine) (p q : Valuation) → DoesStep m p q → (j : ℕ) (i : Instruction)
    → slice_get (instructions_in m) j ≡ Some i → IsTrue (holds (decode_of i) p) → DoesInstruction i p q
step_by_decoded (machine states valid is) p q h j i e d = done_by_decoded is p q h.1 j i e d
