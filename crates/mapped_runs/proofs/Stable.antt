-- What is not false of a fact is true: each can be told from values.
use Rattle.std.proofs.Common.{◌≡◌, ◌≢◌, ◌∙◌, ℕ, Bool, true, false, List, ◌⊎◌, inl, inr, slice_get, Option, Some, None, refl, sym, ap, subst, arith}
use Rattle.std.specs.Prelude.{IsTrue}
use Rattle.std.proofs.lemmas.Bool.{false≢true, cases_eq}
use Rattle.wb_values.specs.Value.{same_name, Value, truth_value, number, words, as_truth, Valuation}
use Rattle.model_meaning.specs.Model.{Model, Instruction, instructions_in, holds, decode_of, point_of}
use Rattle.model_meaning.specs.Instruction.{Does, DecodesAt, IsInstruction, IsStarted, own_states}
use Rattle.model_meaning.specs.Outcome.{Outcome, next, not_valid, no_instruction, several, trouble, IsOutcome}
use Rattle.refinement.specs.Obligation.{Fact, reset_active, reset_inactive, assumed, invariant, start, no_start, decoded, commit, no_commit, initial, same, one_decodes, ends, result_of, never}
use Rattle.wb_laws.proofs.SomeOutcome.{instruction_ends, an_outcome}
use Rattle.wb_laws.proofs.OneOutcome.{no_instruction_trouble}
use Rattle.mapped_designs.specs.Mapped.{Mapped, MappedInstruction}
use Rattle.mapped_designs.specs.Runs.{Values, worth_at, worth_of_registers_at, HoldsAt, ShowsCommit, shown_state, shown_inputs, Shows}
use Rattle.mapped_runs.proofs.Lists.{same_itself, same_is, some_same}

true_bool : (b : Bool) → ¬ (¬ IsTrue b) → IsTrue b
true_bool true h = refl
true_bool false h = absurd (h (λ t. false≢true t))

lists_same : (xs ys : List ℕ) (t : Bool) → same_name xs ys ≡ t → (words xs ≡ words ys) ⊎ (words xs ≢ words ys)
lists_same xs ys true e = inl (ap words (same_is xs ys e))
lists_same xs ys false e = inr (λ f. let g : xs ≡ ys = cc in false≢true (sym e ∙ subst (λ zs. same_name xs zs ≡ true) g (same_itself xs)))

bools_same : (a b : Bool) → (truth_value a ≡ truth_value b) ⊎ (truth_value a ≢ truth_value b)
bools_same true true = inl refl
bools_same true false = inr (λ e. let f : true ≡ false = cc in false≢true (sym f))
bools_same false true = inr (λ e. let f : false ≡ true = cc in false≢true f)
bools_same false false = inl refl

numbers_same : (m n : ℕ) → (number m ≡ number n) ⊎ (number m ≢ number n)
numbers_same m n = elim (cases_eq m n) as (λ _. (number m ≡ number n) ⊎ (number m ≢ number n)) [
  | inl e ↦ inl (ap number e)
  | inr f ↦ inr (λ e. let g : m ≡ n = cc in f g)
]

values_same : (x y : Value) → (x ≡ y) ⊎ (x ≢ y)
values_same (truth_value a) (truth_value b) = bools_same a b
values_same (truth_value a) (number n) = inr (λ e. cc)
values_same (truth_value a) (words ys) = inr (λ e. cc)
values_same (number m) (truth_value b) = inr (λ e. cc)
values_same (number m) (number n) = numbers_same m n
values_same (number m) (words ys) = inr (λ e. cc)
values_same (words xs) (truth_value b) = inr (λ e. cc)
values_same (words xs) (number n) = inr (λ e. cc)
values_same (words xs) (words ys) = lists_same xs ys (same_name xs ys) refl

one_value : (x y : Value) → ¬ (¬ (x ≡ y)) → x ≡ y
one_value x y h = elim (values_same x y) as (λ _. x ≡ y) [ inl e ↦ e | inr f ↦ absurd (h f) ]

module _ (m : Model) (e : Mapped) (x : Values) where
  some_commit : (j t : ℕ) → ¬ (¬ ShowsCommit e x j t) → (o : Option MappedInstruction) → slice_get e.instructions j ≡ o → ShowsCommit e x j t
  some_commit j t h None is = absurd (h (λ c. let none : None ≡ Some c.0 = sym is ∙ c.1 in cc))
  some_commit j t h (Some i) is =
      (i, is, true_bool (as_truth (worth_at e.parts x t i.commit)) (λ no. h (λ c. no (subst (λ (k : MappedInstruction). HoldsAt e x t k.commit) (some_same (sym c.1 ∙ is)) c.2))))

  module _ (q w : Valuation) where
    some_decoded : (j : ℕ) → ¬ (¬ ((i : Instruction) × IsInstruction m j i × DecodesAt m q w i)) → (o : Option Instruction) → slice_get (instructions_in m.top) j ≡ o
        → (i : Instruction) × IsInstruction m j i × DecodesAt m q w i
    some_decoded j h None is = absurd (h (λ c. let none : None ≡ Some c.0 = sym is ∙ c.1 in cc))
    some_decoded j h (Some i) is =
        (i, is, true_bool (holds (decode_of i) (point_of m q w)) (λ no. h (λ c. no (subst (DecodesAt m q w) (some_same (sym c.1 ∙ is)) c.2))))

    some_started : ¬ (¬ ((j : ℕ) × IsStarted m q w j)) → (o : Outcome) → IsOutcome m q w o → (j : ℕ) × IsStarted m q w j
    some_started h (next j r) is = (j, is.0)
    some_started h not_valid is = absurd (h (λ c. is c.1.valid))
    some_started h no_instruction is = absurd (h (λ c. is.1 c.0 c.1.alone.i c.1.alone.is_j c.1.alone.decoded))
    some_started h (several j k) is = absurd (h (λ c. two c.0 c.1 (cases_eq j c.0)))
      where
        two : (l : ℕ) → IsStarted m q w l → (j ≡ l) ⊎ (j ≡ l → ⊥) → ⊥
        two l s (inr f) = s.alone.no_other j is.1.first is.1.is_j f is.1.first_decoded
        two l s (inl f) =
            s.alone.no_other k is.1.second is.1.is_k (λ g. less (f ∙ sym g)) is.1.second_decoded
          where
            less : j ≡ k → ⊥
            less g = let l = is.1.j_first in omega (arith, l, g)
    some_started h (trouble t) is = (is.j, is.started)

    some_end : (j : ℕ) → ¬ (¬ ((i : Instruction) × IsInstruction m j i × (r : Valuation) × Does m i q w r)) → (o : Option Instruction)
        → slice_get (instructions_in m.top) j ≡ o → (i : Instruction) × IsInstruction m j i × (r : Valuation) × Does m i q w r
    some_end j h None is = absurd (h (λ c. let none : None ≡ Some c.0 = sym is ∙ c.1 in cc))
    some_end j h (Some i) is = elim (instruction_ends i (point_of m q w) 1) as (λ _. (k : Instruction) × IsInstruction m j k × (r : Valuation) × Does m k q w r) [
      | inl does ↦ (i, is, own_states m does.0, (does.0, does.1, refl))
      | inr fails ↦ absurd (h (λ c.
          let same : c.0 ≡ i = some_same (sym c.1 ∙ is) in
          let done = subst (λ k. Does m k q w c.2) same c.3 in
          no_instruction_trouble i (point_of m q w) done.0 1 fails.0 done.1 fails.1))
    ]

  -- a fact that is not false is true
  pub stable : (fact : Fact) → ¬ (¬ Shows m e x fact) → Shows m e x fact
  stable (reset_active t) h = true_bool (as_truth (worth_at e.parts x t e.reset)) h
  stable (reset_inactive t) h = λ b. h (λ no. no b)
  stable (assumed k t) h = λ id at_k. true_bool (as_truth (worth_at e.parts x t id)) (λ no. h (λ f. no (f id at_k)))
  stable (invariant k t) h = λ id at_k. true_bool (as_truth (worth_of_registers_at e.parts x t id)) (λ no. h (λ f. no (f id at_k)))
  stable (start t) h = true_bool (as_truth (worth_at e.parts x t e.start)) h
  stable (no_start t) h = λ b. h (λ no. no b)
  stable (decoded j) h = some_decoded (shown_state m e x 0) (shown_inputs m e x 0) j h (slice_get (instructions_in m.top) j) refl
  stable (commit j t) h = some_commit j t h (slice_get e.instructions j) refl
  stable (no_commit j t) h = λ b. h (λ no. no b)
  stable (initial n t) h = λ d y is_d is_y. one_value (shown_state m e x t n) y (λ no. h (λ f. no (f d y is_d is_y)))
  stable (same n) h = one_value (shown_state m e x 1 n) (shown_state m e x 0 n) h
  stable one_decodes h =
      let o = an_outcome m (shown_state m e x 0) (shown_inputs m e x 0) in
      some_started (shown_state m e x 0) (shown_inputs m e x 0) h o.0 o.1
  stable (ends j) h = some_end (shown_state m e x 0) (shown_inputs m e x 0) j h (slice_get (instructions_in m.top) j) refl
  stable (result_of j n t) h = λ i r is_j does. one_value (shown_state m e x t n) (r n) (λ no. h (λ f. no (f i r is_j does)))
  stable never h = h (λ b. b)
