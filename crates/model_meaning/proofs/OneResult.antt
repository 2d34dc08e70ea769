-- An instruction has at most one result, and none where its child has trouble.
use Rattle.std.proofs.Common.{◌≡◌, ℕ, zero, suc, inl, inr, subst, sym, ◌∙◌, ap}
use Rattle.std.specs.Prelude.{IsTrue, IsFalse}
use Rattle.wb_values.specs.Value.{Valuation}
use Rattle.model_meaning.specs.Model.{Machine, machine, Instruction, instruction, Instructions, no_instructions, and_then, Child, no_child, child, Model, valid_of, holds, decode_of, updated, entered, left_behind, states_of, point_of}
use Rattle.model_meaning.specs.Instruction.{Reaches, NoneDecodes, DoesInstruction, DoesChild, DoesStep, DoesOne, Steps, own_states}
use Rattle.model_meaning.proofs.OneInstruction.{both_ways}

-- a step begins where the valid condition holds
valid_before : (m : Machine) (p q : Valuation) → DoesStep m p q → IsTrue (holds (valid_of m) p)
valid_before (machine states valid is) p q h = h.0

-- Two runs of a relation with one result each, both to where the condition fails, end at one point.
same_end : (m : Machine) → ((p q r : Valuation) → DoesStep m p q → DoesStep m p r → q ≡ r)
    → (n k : ℕ) (p x y : Valuation) → Reaches (DoesStep m) n p x → IsFalse (holds (valid_of m) x)
    → Reaches (DoesStep m) k p y → IsFalse (holds (valid_of m) y) → x ≡ y
same_end m one zero zero p x y a fx b fy = sym a ∙ b
same_end m one zero (suc k) p x y a fx b fy =
    absurd (both_ways (holds (valid_of m) p) (valid_before m p b.0 b.1) (subst (λ z. IsFalse (holds (valid_of m) z)) (sym a) fx))
same_end m one (suc n) zero p x y a fx b fy =
    absurd (both_ways (holds (valid_of m) p) (valid_before m p a.0 a.1) (subst (λ z. IsFalse (holds (valid_of m) z)) (sym b) fy))
same_end m one (suc n) (suc k) p x y a fx b fy =
    let next : b.0 ≡ a.0 = one p b.0 a.0 b.1 a.1 in
    same_end m one n k a.0 x y a.2 fx (subst (λ z. Reaches (DoesStep m) k z y) next b.2) fy

none_decodes : (is : Instructions) (p q : Valuation) → NoneDecodes is p → DoesOne is p q → ⊥
none_decodes no_instructions p q h d = d
none_decodes (and_then i is) p q h (inl d) = both_ways (holds (decode_of i) p) d.0 h.0
none_decodes (and_then i is) p q h (inr d) = none_decodes is p q h.1 d.1

mutual
  pub same_instruction : (i : Instruction) (p q r : Valuation) → DoesInstruction i p q → DoesInstruction i p r → q ≡ r
  same_instruction (instruction called decode update program) p q r a b = same_child program (updated update p) q r a b

  pub same_child : (c : Child) (p q r : Valuation) → DoesChild c p q → DoesChild c p r → q ≡ r
  same_child no_child p q r a b = a ∙ sym b
  same_child (child steps program) p q r a b =
      let last : a.2 ≡ b.2 =
      same_end program (λ x y z. same_step program x y z) a.0 b.0 (entered (states_of program) p) a.2 b.2 a.3 a.4 b.3 b.4 in
      a.5 ∙ (ap (left_behind (states_of program) p) last ∙ sym b.5)

  pub same_step : (m : Machine) (p q r : Valuation) → DoesStep m p q → DoesStep m p r → q ≡ r
  same_step (machine states valid is) p q r a b = same_one is p q r a.1 b.1

  pub same_one : (is : Instructions) (p q r : Valuation) → DoesOne is p q → DoesOne is p r → q ≡ r
  same_one no_instructions p q r a b = absurd a
  same_one (and_then i is) p q r (inl a) (inl b) = same_instruction i p q r a.2 b.2
  same_one (and_then i is) p q r (inl a) (inr b) = absurd (both_ways (holds (decode_of i) p) a.0 b.0)
  same_one (and_then i is) p q r (inr a) (inl b) = absurd (both_ways (holds (decode_of i) p) b.0 a.0)
  same_one (and_then i is) p q r (inr a) (inr b) = same_one is p q r a.1 b.1

pub one_next_state : (m : Model) (q w r s : Valuation) → Steps m q w r → Steps m q w s → r ≡ s
one_next_state m q w r s a b =
    let after : a.0 ≡ b.0 = same_step m.top (point_of m q w) a.0 b.0 a.1 b.1 in
    a.2 ∙ (ap (own_states m) after ∙ sym b.2)
