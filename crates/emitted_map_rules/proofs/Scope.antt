-- What names of the map mean: those of the module, which is the top of the design.
use Rattle.std.proofs.Common.{◌≡◌, cond, [], sym, ◌∙◌, ap, subst, Some, None}
use Rattle.std.specs.Prelude.{option_map}
use Rattle.wb_values.specs.Value.{Name}
use Rattle.model_meaning.specs.Model.{Model}
use Rattle.verilog_trees.specs.Syntax.{Expression, Module}
use Rattle.verilog_meaning.specs.Expression.{Scope}
use Rattle.verilog_meaning.specs.Hierarchy.{Placed, constants_of, no_overrides}
use Rattle.verilog_meaning.specs.Settled.{Design, IsPlacedIn, at_path}
use Rattle.refinement.specs.Map.{object_at, object_in}
use Rattle.map_files.specs.Written.{Text}
use Rattle.map_rules.specs.Case.{case_design}
use Rattle.map_rules.specs.Expressions.{ReadsAs, design_scope}
use Rattle.emitted_designs.specs.Module.{top_of, object_of}
use Rattle.emitted_designs.proofs.Named.{same_of}
use Rattle.emitted_map_rules.specs.Rules.{case_over}
use Rattle.emitted_map_rules.proofs.Lists.{same_some}
use Rattle.emitted_map_rules.proofs.Names.{IsPlainName, one_part}

-- no text is read as two expressions
abbrev pub TextsAreReadOnce : Type 0
TextsAreReadOnce = (t : Text) (e f : Expression) → ReadsAs t e → ReadsAs t f → e ≡ f

abbrev pub design_over : Model → Module → Design
design_over m x = case_design (case_over m x)

abbrev pub scope_over : Model → Module → Scope
scope_over m x = design_scope (design_over m x)

module _ (m : Model) (x : Module) (named : x.module_name ≡ m.model_name) where
  pub placed : at_path (design_over m x) [] ≡ Some (top_of x)
  placed =
      ap
      (λ b. option_map (λ k. record { path = []; of_module = k; constants = constants_of k no_overrides }) (cond b (Some x) None))
      (same_of x.module_name m.model_name named)

  -- the module at the top
  pub at_the_top : (p : Placed) → IsPlacedIn (design_over m x) p → p.path ≡ [] → p ≡ top_of x
  at_the_top p at e = same_some (sym (subst (λ q. at_path (design_over m x) q ≡ Some p) e at) ∙ placed)

  pub object_read : (n : Name) → IsPlainName n → scope_over m x n ≡ object_of x n
  object_read n h = ap (object_at (design_over m x) []) (one_part n h) ∙ ap (λ o. object_in o n) placed
