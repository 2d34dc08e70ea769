-- What an instruction does at the first cycle, and facts on it.
use Rattle.std.proofs.Common.{◌≡◌, ◌≢◌, ◌∙◌, ◌<◌, ℕ, suc, Bool, true, false, List, [], ◌∷◌, length, ◌⊎◌, inl, inr, map, Option, Some, None, refl, sym, ap, subst, arith}
use Rattle.std.specs.Prelude.{IsTrue, ◌↔◌, is_some}
use Rattle.std.proofs.lemmas.Bool.{false≢true, cases_eq}
use Rattle.std.proofs.lemmas.Option.{same_Some}
use Rattle.wb_values.specs.Value.{Name, Value, Valuation}
use Rattle.model_meaning.specs.Model.{Model, Instruction, Child, instruction_list, instructions_in, holds, decode_of, point_of}
use Rattle.model_meaning.specs.Instruction.{Does, DecodesAt, IsInstruction, IsStarted, own_states}
use Rattle.model_meaning.proofs.OneResult.{same_instruction}
use Rattle.refinement.specs.Obligation.{result_of}
use Rattle.wb_laws.proofs.OneOutcome.{no_instruction_trouble}
use Rattle.wb_terms.specs.Graph.{Graph}
use Rattle.ila_model.specs.declared.model.IlaModel.{IlaModel}
use Rattle.ila_model.specs.declared.parts.ChildId.{ChildId}
use Rattle.ila_model.specs.declared.parts.Instruction.{Instruction as CodeInstruction}
use Rattle.ila_model.specs.Model.{model_of}
use Rattle.ila_model.specs.Scope.{nesting}
use Rattle.ila_model.specs.Meaning.{instructions_of, program_of}
use Rattle.ila_child.specs.declared.applying.Applied.{Applied}
use Rattle.ila_child.specs.declared.stepping.Stepped.{Stepped}
use Rattle.ila_child.specs.declared.stepping.Stepped.TheVariants.{Next, NotValid, NoInstruction, Several, ChildStuck, ChildTooLong}
use Rattle.ila_child.specs.State.{state_valuation, input_valuation}
use Rattle.ila_child.specs.Step.{IsStepped}
use Rattle.ila_child.specs.Applied.{LeadsTo, IsApplied}
use Rattle.mapped_designs.specs.Mapped.{Mapped}
use Rattle.mapped_designs.specs.Runs.{Values, Shows, shown_state, shown_inputs, worth_at, worth_of_registers_at}
use Rattle.shown_facts.specs.Begun.{is_begun}

counted : (g : Graph) (inner : Option ChildId → Child) (is : List CodeInstruction) → length (instruction_list (instructions_of g inner is)) ≡ length is
counted g inner [] = refl
counted g inner (i ∷ is) = ap suc (counted g inner is)

-- a place among the instructions of the model is one among those of its record
pub instruction_within : (m : IlaModel) (j : ℕ) → j < length (instructions_in (model_of m).top) → j < length m.parts.instructions.items
instruction_within m j lt =
    let same = counted m.parts.terms (program_of m.parts.terms m.parts.children.items nesting) m.parts.instructions.items in
    omega (arith, lt, same)

-- What an instruction does is one thing.
one_result : (m : Model) (i : Instruction) (q w r s : Valuation) → Does m i q w r → Does m i q w s → r ≡ s
one_result m i q w r s a b = a.2 ∙ (ap (own_states m) (same_instruction i (point_of m q w) a.0 b.0 a.1 b.1) ∙ sym b.2)

same_i : (m : Model) (j : ℕ) (i k : Instruction) → IsInstruction m j i → IsInstruction m j k → i ≡ k
same_i m j i k a b = same_Some i k (sym a ∙ b)

-- said of the values that the state and the inputs are
pub applied_there : (m : Model) (j : ℕ) (q r w u : List Value) (a : Applied) → q ≡ r → w ≡ u → IsApplied m j q w a → IsApplied m j r u a
applied_there m j q r w u a e f h = subst (λ z. IsApplied m j z u a) e (subst (λ z. IsApplied m j q z a) f h)

pub stepped_there : (m : Model) (q r w u : List Value) (a : Stepped) → q ≡ r → w ≡ u → IsStepped m q w a → IsStepped m r u a
stepped_there m q r w u a e f h = subst (λ z. IsStepped m z u a) e (subst (λ z. IsStepped m q z a) f h)

pub decoded_told : (m : Model) (j : ℕ) (q w : List Value) (a : Applied) → IsApplied m j q w a
    → IsTrue a.decodes ↔ ((i : Instruction) × IsInstruction m j i × DecodesAt m (state_valuation m q) (input_valuation m w) i)
decoded_told m j q w a h = (
  λ t. (h.i, h.is_j, sym h.decodes ∙ t),
  λ c. h.decodes ∙ subst (λ k. DecodesAt m (state_valuation m q) (input_valuation m w) k) (same_i m j c.0 h.i c.1 h.is_j) c.2,
)

-- where an instruction leads to a state, it has no trouble
nowhere : (m : Model) (j : ℕ) (i k : Instruction) (q w : List Value) (r : Valuation) → LeadsTo m i q w None → IsInstruction m j i → IsInstruction m j k
    → Does m k (state_valuation m q) (input_valuation m w) r → ⊥
nowhere m j i k q w r trouble is_i is_k does =
    let own : Does m i (state_valuation m q) (input_valuation m w) r = subst (λ z. Does m z (state_valuation m q) (input_valuation m w) r) (same_i m j k i is_k is_i) does in
    no_instruction_trouble i (point_of m (state_valuation m q) (input_valuation m w)) own.0 1 trouble.0 own.1 trouble.1

ends_by : (m : Model) (j : ℕ) (i : Instruction) (q w : List Value) (o : Option (List Value)) → IsInstruction m j i → LeadsTo m i q w o
    → IsTrue (is_some o) ↔ ((k : Instruction) × IsInstruction m j k × (r : Valuation) × Does m k (state_valuation m q) (input_valuation m w) r)
ends_by m j i q w (Some r) is leads = (λ t. (i, is, state_valuation m r, leads.0), λ c. refl)
ends_by m j i q w None is leads = (λ t. absurd (false≢true t), λ c. absurd (nowhere m j i c.0 q w c.2 leads is c.1 c.3))

pub ends_told : (m : Model) (j : ℕ) (q w : List Value) (a : Applied) → IsApplied m j q w a
    → IsTrue (is_some a.state) ↔ ((i : Instruction) × IsInstruction m j i × (r : Valuation) × Does m i (state_valuation m q) (input_valuation m w) r)
ends_told m j q w a h = ends_by m j h.i q w a.state h.is_j h.leads

-- ---- results

result_some : (m : Model) (j : ℕ) (i : Instruction) (q w r : List Value) (n : Name) (p : Valuation) (a b : Value) (t : Bool) → IsInstruction m j i → LeadsTo m i q w (Some r) → p n ≡ a
    → state_valuation m r n ≡ b → IsTrue t ↔ (a ≡ b)
    → IsTrue t ↔ ((k : Instruction) (s : Valuation) → IsInstruction m j k → Does m k (state_valuation m q) (input_valuation m w) s → p n ≡ s n)
result_some m j i q w r n p a b t is leads there reached told = (
  λ h k s is_k does.
      let own : Does m i (state_valuation m q) (input_valuation m w) s = subst (λ z. Does m z (state_valuation m q) (input_valuation m w) s) (same_i m j k i is_k is) does in
      there ∙ (told.0 h ∙ (sym reached ∙ ap (λ (v : Valuation). v n) (one_result m i (state_valuation m q) (input_valuation m w) (state_valuation m r) s leads.0 own))),
  λ h. told.1 (sym there ∙ (h i (state_valuation m r) is leads.0 ∙ reached)),
)

-- The state that the instruction leads to has the value b, and the mapped state at the cycle the value a.
pub result_told : (m : Model) (e : Mapped) (x : Values) (j t : ℕ) (n : Name) (found : Applied) (r : List Value) (a b : Value) (c : Bool)
    → IsApplied m j (map (worth_of_registers_at e.parts x 0) e.states) (map (worth_at e.parts x 0) e.inputs) found → found.state ≡ Some r
    → shown_state m e x t n ≡ a → state_valuation m r n ≡ b → IsTrue c ↔ (a ≡ b) → IsTrue c ↔ Shows m e x (result_of j n t)
result_told m e x j t n found r a b c h is there reached told =
    let q = map (worth_of_registers_at e.parts x 0) e.states in
    let w = map (worth_at e.parts x 0) e.inputs in
    result_some m j h.i q w r n (shown_state m e x t) a b c h.is_j (subst (LeadsTo m h.i q w) is h.leads) there reached told

pub result_free : (m : Model) (e : Mapped) (x : Values) (j t : ℕ) (n : Name) (found : Applied)
    → IsApplied m j (map (worth_of_registers_at e.parts x 0) e.states) (map (worth_at e.parts x 0) e.inputs) found → found.state ≡ None
    → IsTrue true ↔ Shows m e x (result_of j n t)
result_free m e x j t n found h is =
    let q = map (worth_of_registers_at e.parts x 0) e.states in
    let w = map (worth_at e.parts x 0) e.inputs in
    (λ f k s is_k does. absurd (nowhere m j h.i k q w s (subst (LeadsTo m h.i q w) is h.leads) h.is_j is_k does), λ f. refl)

-- ---- steps

two : (m : Model) (q w : Valuation) (j k : ℕ) (first second : Instruction) (l : ℕ) → IsInstruction m j first → IsInstruction m k second → j < k → DecodesAt m q w first
    → DecodesAt m q w second → IsStarted m q w l → (j ≡ l) ⊎ (j ≡ l → ⊥) → ⊥
two m q w j k first second l is_j is_k less d e s (inr f) = s.alone.no_other j first is_j f d
two m q w j k first second l is_j is_k less d e s (inl f) = s.alone.no_other k second is_k (λ g. apart j k l less f g) e
  where
    apart : (j k l : ℕ) → j < k → j ≡ l → k ≡ l → ⊥
    apart j k l less f g = omega (arith, less, f, g)

pub started_told : (m : Model) (q w : List Value) (o : Stepped) → IsStepped m q w o → IsTrue (is_begun o) ↔ ((j : ℕ) × IsStarted m (state_valuation m q) (input_valuation m w) j)
started_told m q w (Next j r) h = (λ t. (j, h.0.0), λ c. refl)
started_told m q w NotValid h = (λ t. absurd (false≢true t), λ c. absurd (h.0 c.1.valid))
started_told m q w NoInstruction h = (λ t. absurd (false≢true t), λ c. absurd (h.0.1 c.0 c.1.alone.i c.1.alone.is_j c.1.alone.decoded))
started_told m q w (Several j k) h =
    let d = h.0.1 in
    (λ t. absurd (false≢true t), λ c. absurd (two m (state_valuation m q) (input_valuation m w) j k d.first d.second c.0 d.is_j d.is_k d.j_first d.first_decoded d.second_decoded c.1 (cases_eq j c.0)))
started_told m q w (ChildStuck d s) h = (λ t. (h.0.j, h.0.started), λ c. refl)
started_told m q w (ChildTooLong d) h = (λ t. (h.0.j, h.0.started), λ c. refl)
