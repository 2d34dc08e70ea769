-- No state of a model without child programs is mapped to what depends on an input of its module.
use Rattle.std.proofs.Common.{◌≡◌, ℕ, Bool, true, false, cond, ◌||◌, List, [], ◌∷◌, ◌++◌, map, ◌⊎◌, inl, inr, refl, sym, ◌∙◌, ap, subst}
use Rattle.std.specs.Prelude.{IsTrue, codes, nat_lt, ◌&&◌}
use Rattle.std.proofs.lemmas.Bool.{false≢true}
use Rattle.wb_values.specs.Value.{Name, same_name}
use Rattle.model_meaning.specs.Model.{Model, InputDeclaration, is_input_name}
use Rattle.model_meaning.specs.Invariant.{state_names}
use Rattle.verilog_trees.specs.Syntax.{input, Module}
use Rattle.verilog_meaning.specs.Hierarchy.{Placed, dotted}
use Rattle.verilog_meaning.specs.Settled.{HasPort, whole_name}
use Rattle.verilog_designs.specs.Dependence.{PlacedBit, bit_of}
use Rattle.ila_model.specs.declared.parts.Parts.{Parts}
use Rattle.ila_model.specs.Meaning.{model_from}
use Rattle.map_files.specs.Written.{Text}
use Rattle.map_rules.specs.Case.{value_texts}
use Rattle.map_rules.specs.Inputs.{IsInputBit, ComesFromInput, UsesInput, HasMapInput}
use Rattle.verilog_unique.proofs.Options.{same_is, is_same, either_true, both_true}
use Rattle.verilog_unique.proofs.Descent.{IsAmong, among_either, among_contains}
use Rattle.emitted_designs.specs.Bounds.{has_children}
use Rattle.emitted_designs.specs.Map.{written_map, written_by_their_names, mapped_state_names}
use Rattle.emitted_designs.specs.Module.{top_of}
use Rattle.emitted_designs.proofs.Named.{no_input}
use Rattle.map_texts.proofs.Words.{name_reads}
use Rattle.emitted_modules.specs.Module.{rtl_of, emitted_module}
use Rattle.emitted_modules.specs.Laws.{IsFlatModel}
use Rattle.emitted_map_rules.specs.Rules.{case_over, FlatMapsUseNoInput}
use Rattle.emitted_map_rules.proofs.Lists.{same_some}
use Rattle.emitted_map_rules.proofs.Names.{IsPlainName, at_top, not_own, plain_name}
use Rattle.emitted_map_rules.proofs.Members.{state_called, legal_state, value_text}
use Rattle.emitted_map_rules.proofs.Scope.{TextsAreReadOnce, design_over, placed}
use Rattle.emitted_map_rules.proofs.Registers.{depends_on_nothing}
use Rattle.emitted_map_rules.proofs.Items.{IsOwn, assigns_only, wires_own, port_named}

-- an input of the model has its name
named_input : (is : List InputDeclaration) (n : Name) → IsAmong (map (λ i. i.input_name) is) n → is_input_name is n ≡ true
named_input [] n h = absurd h
named_input (i ∷ is) n (inl e) =
    ap (λ b. cond b true (is_input_name is n)) (subst (λ k. same_name i.input_name k ≡ true) e (is_same i.input_name))
named_input (i ∷ is) n (inr h) = by_test (same_name i.input_name n) (named_input is n h)
  where
    by_test : (b : Bool) → is_input_name is n ≡ true → cond b true (is_input_name is n) ≡ true
    by_test true e = refl
    by_test false e = e

module _ (name : Name) (p : Parts) (keep : ℕ → Bool) (h : IsFlatModel name p) (once : TextsAreReadOnce) where
  abbrev m : Model
  m = model_from name p

  abbrev x : Module
  x = emitted_module name p keep

  module _ (n : Name) (at : IsAmong (state_names m.top) n) where
    plain : IsPlainName n
    plain = plain_name n (legal_state m h.is_model n at)

    not_wb : ¬ IsOwn n
    not_wb own = false≢true (sym (not_own n (legal_state m h.is_model n at)) ∙ own)

    no_port : ¬ HasPort x n input
    no_port port = by_kind (port_named (rtl_of name p keep) n input port)
      where
        by_kind : IsAmong (map (λ i. i.input_name) m.inputs) n ⊎ IsOwn n → ⊥
        by_kind (inl k) =
            let d = state_called m n at in false≢true (sym (no_input m n d.0 h.is_model d.1.found) ∙ named_input m.inputs n k)
        by_kind (inr own) = not_wb own

    no_input_bit : (u : PlacedBit) → u.bit.of_name ≡ n → ¬ IsInputBit (design_over m x) u
    no_input_bit u e i =
        let same : top_of x ≡ i.top = same_some (sym (placed m x refl) ∙ i.is_top) in
        no_port (subst (λ k. HasPort x k input) e (subst (λ (q : Placed). HasPort q.of_module u.bit.of_name input) (sym same) i.is_port))

    from_no_input : (u : PlacedBit) → u.path ≡ [] → u.bit.of_name ≡ n → ¬ ComesFromInput (design_over m x) u
    from_no_input u e f (ComesFromInput.itself i) = no_input_bit u f i
    from_no_input u e f (ComesFromInput.through y far i) =
        depends_on_nothing m x refl IsOwn (assigns_only (rtl_of name p keep) (wires_own name p keep)) n not_wb u y e f far

    -- the whole of a name reads bits of that name
    name_read : (k : Name) (r : Bool) → IsTrue ((same_name n k && r) || false) → n ≡ k
    name_read k r e = by_either (either_true (same_name n k && r) false e)
      where
        by_either : IsTrue (same_name n k && r) ⊎ IsTrue false → n ≡ k
        by_either (inl f) = same_is n k (both_true (same_name n k) r f).0
        by_either (inr f) = absurd (false≢true f)

    uses_none : ¬ UsesInput (design_over m x) (whole_name n)
    uses_none u =
        let same : n ≡ dotted u.within.path u.bit.of_name = name_read (dotted u.within.path u.bit.of_name) _ u.is_read in
        let top = at_top u.within.path u.bit.of_name n plain (sym same) in
        from_no_input (bit_of u.within u.bit) top.0 top.1 u.from_input

  no_invariant : (b : Bool) (t : Text) → b ≡ false → IsAmong (cond b (codes "wb_busy == 0" ∷ []) []) t → ⊥
  no_invariant true t e k = false≢true (sym e)
  no_invariant false t e k = k

  uses_no_input : ¬ HasMapInput (case_over m x)
  uses_no_input u =
      by_place
      (among_either (value_texts m (written_by_their_names (mapped_state_names m))) (written_map m).invariants u.text
      (among_contains (value_texts m (written_by_their_names (mapped_state_names m)) ++ (written_map m).invariants) u.text u.stands))
    where
      by_place : IsAmong (value_texts m (written_by_their_names (mapped_state_names m))) u.text ⊎ IsAmong (written_map m).invariants u.text → ⊥
      by_place (inl k) =
          let v = value_text m u.text k in
          uses_none u.text v.0
          (subst (UsesInput (design_over m x)) (once u.text u.tree (whole_name u.text) u.is_read (name_reads u.text (legal_state m h.is_model u.text v.0)))
          u.uses_input)
      by_place (inr k) = no_invariant (has_children m) u.text (ap (nat_lt 0) h.childless) k

pub maps_use_no_input : TextsAreReadOnce → FlatMapsUseNoInput
maps_use_no_input once name p keep h = uses_no_input name p keep h once
