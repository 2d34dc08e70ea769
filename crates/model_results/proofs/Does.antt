-- What an instruction does is its result.
use Rattle.std.proofs.Common.{◌≡◌, ℕ, ◌+◌, ◌-◌, Bool, true, false, cond, ◌⊎◌, inl, inr, refl, sym, ap, ◌∙◌, subst, arith}
use Rattle.std.specs.Prelude.{not}
use Rattle.std.proofs.lemmas.Bool.{and_parts, and_from, false≢true}
use Rattle.wb_values.specs.Value.{Valuation}
use Rattle.model_meaning.specs.Model.{Machine, machine, Instruction, instruction, Instructions, no_instructions, and_then, Child, no_child, child, states_of, valid_of, holds, decode_of, updated, entered, left_behind, point_of}
use Rattle.model_meaning.specs.Instruction.{NoneDecodes, DoesInstruction, DoesChild, DoesStep, DoesOne, own_states}
use Rattle.model_results.specs.Results.{Result, ended_at, iterated, none_decodes, only_where, result_of, child_result, stepped, one_result, IsEndedAt, result_at, InstructionDoesItsResult, ModelDoesItsResult}
use Rattle.model_results.proofs.Iterated.{reached, reaches}

pub none_from : (is : Instructions) (p : Valuation) → NoneDecodes is p → none_decodes is p ≡ true
none_from no_instructions p n = refl
none_from (and_then i is) p n = ap (λ b. cond b false (none_decodes is p)) n.0 ∙ none_from is p n.1

none_by : (b c : Bool) → cond b false c ≡ true → (b ≡ false) × (c ≡ true)
none_by true c h = absurd (false≢true h)
none_by false c h = (refl, h)

pub none_to : (is : Instructions) (p : Valuation) → none_decodes is p ≡ true → NoneDecodes is p
none_to no_instructions p h = tt
none_to (and_then i is) p h =
    let both = none_by (holds (decode_of i) p) (none_decodes is p) h in
    (both.0, none_to is p both.1)

-- choices between results
choice_ended : (b : Bool) (x y : Result) (q : Valuation) → IsEndedAt (cond b x y) q → ((b ≡ true) × IsEndedAt x q) ⊎ ((b ≡ false) × IsEndedAt y q)
choice_ended true x y q h = inl (refl, h)
choice_ended false x y q h = inr (refl, h)

first_ended : (b : Bool) (x y : Result) (q : Valuation) → b ≡ true → IsEndedAt x q → IsEndedAt (cond b x y) q
first_ended b x y q e h = subst (λ c. IsEndedAt (cond c x y) q) (sym e) h

second_ended : (b : Bool) (x y : Result) (q : Valuation) → b ≡ false → IsEndedAt y q → IsEndedAt (cond b x y) q
second_ended b x y q e h = subst (λ c. IsEndedAt (cond c x y) q) (sym e) h

fails : (b : Bool) → not b ≡ true → b ≡ false
fails true h = absurd (false≢true h)
fails false h = refl

stays_invalid : (M : Machine) (p : Valuation) → holds (valid_of M) p ≡ false → stepped M p ≡ ended_at p
stays_invalid (machine states valid is) p h = ap (λ b. cond b (one_result is p) (ended_at p)) h

-- the steps of a child, from those of its machine
child_from : (steps : ℕ) (program : Machine) (p q : Valuation) → ((x y : Valuation) → DoesStep program x y → IsEndedAt (stepped program x) y) → DoesChild (child steps program) p q → IsEndedAt (child_result (child steps program) p) q
child_from steps program p q g h =
    let n = h.0 in
    let low = h.1 in
    let last = h.2 in
    let z : n + (steps - n) ≡ steps = omega (arith, low) in
    let run = subst (λ k. IsEndedAt (iterated (stepped program) k (entered (states_of program) p)) last) z
    (reached (DoesStep program) (stepped program) n (steps - n) (entered (states_of program) p) last g (stays_invalid program last h.4) h.3) in
    let over = ap (holds (valid_of program)) (sym run.1) ∙ h.4 in
    (and_from _ _ run.0 (ap not over), h.5 ∙ ap (left_behind (states_of program) p) run.1)

child_to : (steps : ℕ) (program : Machine) (p q : Valuation) → ((x y : Valuation) → holds (valid_of program) x ≡ true → IsEndedAt (stepped program x) y → DoesStep program x y) → IsEndedAt (child_result (child steps program) p) q → DoesChild (child steps program) p q
child_to steps program p q g h =
    let run = iterated (stepped program) steps (entered (states_of program) p) in
    let both = and_parts run.ended _ h.0 in
    let there = reaches (DoesStep program) (stepped program) (holds (valid_of program)) steps (entered (states_of program) p) run.point g (stays_invalid program) (both.0, refl) in
    (there.0, there.1, run.point, there.2, fails _ both.1, h.1)

mutual
  pub does_result : (i : Instruction) (p q : Valuation) → DoesInstruction i p q → IsEndedAt (result_of i p) q
  does_result (instruction called decode update program) p q h = does_child program (updated update p) q h

  does_child : (c : Child) (p q : Valuation) → DoesChild c p q → IsEndedAt (child_result c p) q
  does_child no_child p q h = (refl, h)
  does_child (child steps program) p q h = child_from steps program p q (λ x y s. does_step program x y s) h

  does_step : (M : Machine) (p q : Valuation) → DoesStep M p q → IsEndedAt (stepped M p) q
  does_step (machine states valid is) p q h = first_ended (holds valid p) (one_result is p) (ended_at p) q h.0 (does_one is p q h.1)

  does_one : (is : Instructions) (p q : Valuation) → DoesOne is p q → IsEndedAt (one_result is p) q
  does_one no_instructions p q h = absurd h
  does_one (and_then i is) p q (inl h) =
      let r = does_result i p q h.2 in
      first_ended (holds (decode_of i) p) (only_where (none_decodes is p) (result_of i p)) (one_result is p) q h.0 (and_from _ _ (none_from is p h.1) r.0, r.1)
  does_one (and_then i is) p q (inr h) =
      second_ended (holds (decode_of i) p) (only_where (none_decodes is p) (result_of i p)) (one_result is p) q h.0 (does_one is p q h.1)

alone_to : (b : Bool) (r : Result) (q : Valuation) → IsEndedAt (only_where b r) q → (b ≡ true) × IsEndedAt r q
alone_to b r q h = let both = and_parts b r.ended h.0 in (both.0, (both.1, h.1))

step_by : (b : Bool) (x : Result) (p q : Valuation) → b ≡ true → IsEndedAt (cond b x (ended_at p)) q → IsEndedAt x q
step_by b x p q e h = subst (λ c. IsEndedAt (cond c x (ended_at p)) q) e h

mutual
  pub result_does : (i : Instruction) (p q : Valuation) → IsEndedAt (result_of i p) q → DoesInstruction i p q
  result_does (instruction called decode update program) p q h = child_does program (updated update p) q h

  child_does : (c : Child) (p q : Valuation) → IsEndedAt (child_result c p) q → DoesChild c p q
  child_does no_child p q h = h.1
  child_does (child steps program) p q h = child_to steps program p q (λ x y v s. step_does program x y v s) h

  step_does : (M : Machine) (p q : Valuation) → holds (valid_of M) p ≡ true → IsEndedAt (stepped M p) q → DoesStep M p q
  step_does (machine states valid is) p q v h = (v, one_does is p q (step_by (holds valid p) (one_result is p) p q v h))

  one_does : (is : Instructions) (p q : Valuation) → IsEndedAt (one_result is p) q → DoesOne is p q
  one_does no_instructions p q h = absurd (false≢true h.0)
  one_does (and_then i is) p q h = elim (choice_ended (holds (decode_of i) p) (only_where (none_decodes is p) (result_of i p)) (one_result is p) q h) [
    | inl a ↦ (let r = alone_to (none_decodes is p) (result_of i p) q a.1 in inl (a.0, none_to is p r.0, result_does i p q r.1))
    | inr a ↦ inr (a.0, one_does is p q a.1)
  ]

pub instruction_does : InstructionDoesItsResult
instruction_does i p q = (does_result i p q, result_does i p q)

pub model_does : ModelDoesItsResult
model_does m i q w r = (
  λ h. (let e = does_result i (point_of m q w) h.0 h.1 in (e.0, h.2 ∙ ap (own_states m) e.1)),
  λ h. ((result_at m i q w).point, result_does i (point_of m q w) (result_at m i q w).point (h.0, refl), h.1),
)
