-- Each state and input is mapped to as many bits as it has.
use Rattle.std.proofs.Common.{◌≡◌, ℕ, true, refl, sym, ◌∙◌, ap, subst, Option, Some, None}
use Rattle.wb_values.specs.Value.{Name, Sort, truth, word, memory}
use Rattle.wb_values.specs.Names.{is_model_name}
use Rattle.model_meaning.specs.Model.{Model}
use Rattle.model_meaning.specs.Invariant.{IsModel}
use Rattle.verilog_trees.specs.Syntax.{Expression, Module}
use Rattle.verilog_meaning.specs.Expression.{Object, object_width, width_of}
use Rattle.verilog_meaning.specs.Settled.{whole_name}
use Rattle.map_files.specs.Written.{Text}
use Rattle.map_rules.specs.Case.{state_sort, input_sort}
use Rattle.map_rules.specs.Expressions.{ReadsAs}
use Rattle.map_rules.specs.Mapped.{wanted_width, WantsWidth, HasWidthMismatch}
use Rattle.verilog_unique.proofs.Descent.{contains_among}
use Rattle.emitted_designs.specs.Module.{object_of, HoldsSort, all_states}
use Rattle.emitted_designs.specs.Emits.{IsEmittedModule}
use Rattle.map_texts.proofs.Words.{name_reads}
use Rattle.emitted_map_rules.specs.Rules.{case_over, EmittedWidthsMatch}
use Rattle.emitted_map_rules.proofs.Lists.{same_some}
use Rattle.emitted_map_rules.proofs.Names.{plain_name}
use Rattle.emitted_map_rules.proofs.Members.{state_of_sort, among_all, input_of_sort, legal_state, legal_input, state_entry_at, input_entry_at}
use Rattle.emitted_map_rules.proofs.Scope.{TextsAreReadOnce, scope_over, object_read}

-- a sort of which a width is wanted
sort_with_width : (o : Option Sort) (w : ℕ) → wanted_width o ≡ Some w → (t : Sort) × (o ≡ Some t) × (wanted_width (Some t) ≡ Some w)
sort_with_width None w e = cc
sort_with_width (Some t) w e = (t, refl, e)

held_width : (t : Sort) (o : Object) (w : ℕ) → wanted_width (Some t) ≡ Some w → HoldsSort t o → object_width o ≡ w
held_width truth o w e h = h.0 ∙ same_some e
held_width (word v) o w e h = h.0 ∙ same_some e
held_width (memory a d) o w e h = cc

module _ (once : TextsAreReadOnce) (m : Model) (x : Module) (is_model : IsModel m) (emitted : IsEmittedModule m x) where
  -- the width of a name that is read of a text
  width_read : (n : Name) (t : Text) (e : Expression) (w : ℕ) → is_model_name n ≡ true → t ≡ n → ReadsAs t e → object_width (object_of x n) ≡ w
      → width_of (scope_over m x) e ≡ w
  width_read n t e w legal same is_read held =
      ap (width_of (scope_over m x)) (once t e (whole_name n) is_read (subst (λ k. ReadsAs k (whole_name n)) (sym same) (name_reads n legal)))
      ∙ (ap object_width (object_read m x emitted.ports.named n (plain_name n legal)) ∙ held)

  wanted : (t : Text) (e : Expression) (w : ℕ) → WantsWidth (case_over m x) t w → ReadsAs t e → width_of (scope_over m x) e ≡ w
  wanted t e w (WantsWidth.of_state n stands wants) is_read =
      let at = state_entry_at m n t stands in
      let sort = sort_with_width (state_sort m n) w wants in
      let d = state_of_sort m n sort.0 sort.1 in
      width_read n t e w (legal_state m is_model n at.0) at.1 is_read
      (held_width sort.0 (object_of x n) w sort.2
      (subst (λ k. HoldsSort k (object_of x n)) d.2
      (subst (λ k. HoldsSort d.0.sort (object_of x k)) d.1.named
      (emitted.registers.states d.0 (contains_among (all_states m) d.0 (among_all m n d.0 d.1))).object)))
  wanted t e w (WantsWidth.of_input n stands wants) is_read =
      let at = input_entry_at m n t stands in
      let sort = sort_with_width (input_sort m n) w wants in
      let i = input_of_sort m n sort.0 sort.1 in
      width_read n t e w (legal_input m is_model n at.0) at.1 is_read
      (held_width sort.0 (object_of x n) w sort.2
      (subst (λ k. HoldsSort k (object_of x n)) i.2
      (subst (λ k. HoldsSort i.0.sort (object_of x k)) i.1.named (emitted.ports.input_bits i.0 (contains_among m.inputs i.0 i.1.among)))))

  widths : ¬ HasWidthMismatch (case_over m x)
  widths h = h.differs (wanted h.text h.tree h.width h.wants h.is_read)

pub widths_match : TextsAreReadOnce → EmittedWidthsMatch
widths_match once m x is_model emitted = widths once m x is_model emitted
