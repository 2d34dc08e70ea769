-- Maps that are accepted have all that is asked of a map whose expressions are brought to terms.
use Rattle.std.specs.Prelude.{◌≡◌, ℕ, false, slice_get, Some, IsTrue}
use Rattle.model_meaning.specs.Term.{is_sort, is_memory_sort}
use Rattle.model_meaning.specs.Model.{Model, StateDeclaration, InputDeclaration, states_of}
use Rattle.model_meaning.specs.Invariant.{IsModel}
use Rattle.verilog_trees.specs.Syntax.{Expression}
use Rattle.verilog_meaning.specs.Expression.{Scope}
use Rattle.verilog_rules.specs.Expression.{anywhere, broken}
use Rattle.verilog_designs.specs.Accepted.{IsAccepted}
use Rattle.verilog_exists.specs.Exists.{IsOfText}
use Rattle.refinement.specs.Map.{Setting, design_of}
use Rattle.map_files.specs.Written.{Text, WrittenMap}
use Rattle.map_rules.specs.Expressions.{ReadsAs}
use Rattle.map_rules.specs.Accepted.{IsMapAccepted, case_of, StandsForMap}
use Rattle.v_design.specs.Parts.{Parts}
use Rattle.v_design.specs.Design.{IsDesignOf}
use Rattle.path_terms.specs.Cycles.{IsScopeOf}
use Rattle.map_terms.specs.Ready.{IsReady}
use Rattle.ready_maps.specs.Names.{Knows, names_in_map}

-- The model keeps the rules on models, each state has a legal sort, and no input is a memory.
pub record IsSoundModel (m : Model) : Type 0 where
  pub kept : IsModel m
  pub sorts : (k : ℕ) (d : StateDeclaration) → slice_get (states_of m.top) k ≡ Some d → IsTrue (is_sort d.sort)
  pub inputs : (k : ℕ) (i : InputDeclaration) → slice_get m.inputs k ≡ Some i → is_memory_sort i.sort ≡ false

-- The design is accepted, its tree is that of a text, and the setting's map is what an accepted written one stands for.
pub record HasAcceptedMap (s : Setting) (w : WrittenMap) : Type 0 where
  pub accepted : IsAccepted (design_of s)
  pub of_text : IsOfText (design_of s)
  pub judged : IsMapAccepted (case_of w s.model s.source)
  pub stands_for : StandsForMap s.model w s.map

-- In an expression that a text is read as each number fits its width, and parts have bits.
abbrev pub TextsAreShapely : Type 0
TextsAreShapely = (t : Text) (e : Expression) (s : Scope) → ReadsAs t e → (broken s anywhere e).misshapen ≡ false

-- What is asked of a map whose expressions are brought to terms holds of an accepted one, for a scope that knows its names.
abbrev pub AcceptedMapsAreReady : Type 0
AcceptedMapsAreReady =
    (s : Setting) (w : WrittenMap) (scope : Scope) (e : Parts) → IsSoundModel s.model → HasAcceptedMap s w → IsScopeOf (design_of s) scope
    → Knows scope (design_of s) (names_in_map s.map) → IsDesignOf (design_of s) e → IsReady s scope e
