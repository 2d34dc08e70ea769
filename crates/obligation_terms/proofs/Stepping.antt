-- The model's step at the first cycle of a run.
use Rattle.std.proofs.Common.{◌≡◌, ℕ, zero, suc, ◌<◌, true, List, [], ◌∷◌, length, Some, sym, ap, ◌∙◌, subst, arith}
use Rattle.std.specs.Prelude.{IsTrue, ◌↔◌, slice_get}
use Rattle.std.proofs.lemmas.Option.{slice_get_within}
use Rattle.std.proofs.lemmas.List.{length-map}
use Rattle.wb_values.specs.Value.{Name, Sort, truth, truth_value, as_truth, Valuation}
use Rattle.model_meaning.specs.Term.{val}
use Rattle.model_meaning.specs.Model.{Model, Instruction, StateDeclaration, states_of, decode_of, holds, point_of}
use Rattle.model_meaning.specs.Instruction.{Does, DecodesAt}
use Rattle.wb_terms.specs.declared.nodes.TermId.{TermId}
use Rattle.wb_terms.specs.Graph.{Graph, tree}
use Rattle.term_copies.specs.Copies.{id_at, declared_at}
use Rattle.ila_child.specs.State.{sorts_of_states}
use Rattle.mapped_designs.specs.Mapped.{Mapped}
use Rattle.run_terms.specs.Names.{FitsNames}
use Rattle.condition_terms.specs.Told.{IsTermOf, AreAllOfSorts, Tells}
use Rattle.condition_terms.proofs.Forming.{truth_form}
use Rattle.model_terms.specs.Terms.{state_under, inputs_under, AreInstructionTerms}
use Rattle.model_terms.specs.declared.putting.InstructionTerms.{InstructionTerms}
use Rattle.fact_terms.specs.Shown.{first_state, first_inputs}
use Rattle.fact_terms.specs.Ready.{IsInstructionShown}
use Rattle.fact_terms.proofs.Rows.{some_same}

declared_state : (ss : List StateDeclaration) (k : ℕ) (d : StateDeclaration) → slice_get ss k ≡ Some d → declared_at (sorts_of_states ss) k ≡ (d.state_name, d.sort)
declared_state [] k d e = absurd (cc)
declared_state (s ∷ ss) zero d e = ap (λ (x : StateDeclaration). (x.state_name, x.sort)) (some_same s d e)
declared_state (s ∷ ss) (suc k) d e = declared_state ss k d e

-- a condition whose value is told
pub told_value : {g : Graph} (id : ℕ) (P : Valuation → Type 0) → IsTermOf g id truth → ((v : Valuation) → FitsNames g.names v → (val (tree g id) v ≡ truth_value true) ↔ P v) → Tells g id P
told_value {g} id P w e = record {
  condition = w;
  told = λ v f. (λ t. (e v f).0 (truth_form (val (tree g id) v) (w.is_of v f) ∙ ap truth_value t), λ p. ap as_truth ((e v f).1 p));
}

-- what is said of a state and inputs is said of the same ones
pub moved : (F : Valuation → Valuation → Type 0) {q p w u : Valuation} → q ≡ p → w ≡ u → F q w → F p u
moved F {q} {p} {w} {u} a b x = subst (λ z. F p z) b (subst (λ z. F z w) a x)

pub instruction_shown : {g : Graph} (m : Model) (e : Mapped) (n : ℕ) (states inputs : List TermId) (i : Instruction) (t : InstructionTerms) → AreAllOfSorts g
    → ((v : Valuation) → FitsNames g.names v → state_under m g states v ≡ first_state m e n v) → ((v : Valuation) → FitsNames g.names v → inputs_under m g inputs v ≡ first_inputs m e n v)
    → AreInstructionTerms m g states inputs i t → IsInstructionShown m e n g i t
instruction_shown {g} m e n states inputs i t a s w u =
    let ss = states_of m.top in
    let names : length (sorts_of_states ss) ≡ length ss = length-map {B = Name × Sort} ss (λ (z : StateDeclaration). (z.state_name, z.sort)) in
    record {
      decode = told_value t.decode.0 (λ v. DecodesAt m (first_state m e n v) (first_inputs m e n v) i) (a t.decode.0 truth u.decode.below u.decode.sort)
          (λ v f. (
            λ x. moved (λ q r. IsTrue (holds (decode_of i) (point_of m q r))) (s v f) (w v f) (ap as_truth (sym (u.decode_value v) ∙ x)),
            λ x. u.decode_value v ∙ ap truth_value (moved (λ q r. IsTrue (holds (decode_of i) (point_of m q r))) (sym (s v f)) (sym (w v f)) x),
          ));
      ends = told_value t.ends.0 (λ v. (r : Valuation) × Does m i (first_state m e n v) (first_inputs m e n v) r) (a t.ends.0 truth u.ends.below u.ends.sort)
          (λ v f. (
            λ x. moved (λ q y. (r : Valuation) × Does m i q y r) (s v f) (w v f) ((u.ends_value v).0 x),
            λ x. (u.ends_value v).1 (moved (λ q y. (r : Valuation) × Does m i q y r) (sym (s v f)) (sym (w v f)) x),
          ));
      count = u.results.count ∙ names;
      results = λ k d h.
          let b : k < length (sorts_of_states ss) = omega (arith, slice_get_within ss k d h, names) in
          a (id_at t.results.items k) d.sort (u.results.below k b) (u.results.sort k b ∙ ap (λ (z : Name × Sort). Some z.1) (declared_state ss k d h));
      values = λ k d v r h f does.
          u.result_values v r (moved (λ q y. Does m i q y r) (sym (s v f)) (sym (w v f)) does) k (slice_get_within ss k d h)
          ∙ ap (λ (z : Name × Sort). r z.0) (declared_state ss k d h);
    }
