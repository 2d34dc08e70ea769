-- What is told at each stage, from what the call of that stage answers.
use Rattle.std.proofs.Common.{◌≡◌, ℕ, sym, subst, List, Ok, Err, Result, IfOk}
use Rattle.wb_values.specs.Value.{Name}
use Rattle.model_meaning.specs.Model.{Model}
use Rattle.map_files.specs.Written.{WrittenMap}
use Rattle.map_rules.specs.Case.{case_design}
use Rattle.map_rules.specs.Accepted.{IsMapAccepted, StandsForMap, case_of}
use Rattle.verilog_trees.specs.Syntax.{Source}
use Rattle.verilog_meaning.specs.Expression.{Scope}
use Rattle.verilog_meaning.specs.Settled.{Design}
use Rattle.verilog_designs.specs.Accepted.{DesignKind, IsAccepted, IsRefusedBy}
use Rattle.verilog_exists.specs.Exists.{IsOfText}
use Rattle.refinement.specs.Map.{Map, Setting, design_of}
use Rattle.v_places.specs.Below.{Spot}
use Rattle.v_places.specs.Places.{ArePlaces}
use Rattle.v_design.specs.Parts.{Parts}
use Rattle.v_design.specs.Design.{IsDesignOf}
use Rattle.path_terms.specs.Cycles.{IsScopeOf}
use Rattle.map_judged.specs.Known.{StandsAt}
use Rattle.map_terms.specs.Ready.{IsReady}
use Rattle.ready_maps.specs.Names.{Knows, names_in_map}
use Rattle.ready_maps.specs.Accepted.{IsSoundModel, HasAcceptedMap, AcceptedMapsAreReady}
use Rattle.check_cases.specs.Files.{IsSettingOf, HaveTree}

pub told_as : {A E : Type 0} {P Q : A → Type 0} (r : Result A E) → ((x : A) → P x → Q x) → IfOk r P → IfOk r Q
told_as (Ok x) f h = f x h
told_as (Err e) f h = tt

-- ---- designs

abbrev pub design_at : Source → Name → Name → Design
design_at source top clock = record { source = source; top = top; clock = clock }

-- what is so of a design is so where its names are given another way
pub named_so : (P : Design → Type 0) (source : Source) (t k top clock : Name) → t ≡ top → k ≡ clock → P (design_at source t k) → P (design_at source top clock)
named_so P source t k top clock same_top same_clock h = subst P (λ i. design_at source (same_top i) (same_clock i)) h

abbrev pub setting_at : Model → Source → Map → Setting
setting_at m source p = record { model = m; source = source; map = p }

-- the design of a setting whose map is that of a written one
pub same_design : (m : Model) (source : Source) (w : WrittenMap) (p : Map) → StandsForMap m w p → design_of (setting_at m source p) ≡ case_design (case_of w m source)
same_design m source w p h = let top = h.top in let clock = h.clock in λ i. design_at source (top i) (clock i)

-- an accepted design is refused by no kind
pub refused_is_broken : (source : Source) (top clock t k : Name) → top ≡ t → clock ≡ k → IsAccepted (design_at source top clock) → (kind : DesignKind)
    → IsRefusedBy (design_at source t k) kind → ⊥
refused_is_broken source top clock t k same_top same_clock accepted kind refused =
    accepted kind (named_so (λ d. IsRefusedBy d kind) source t k top clock (sym same_top) (sym same_clock) refused).breaks

pub stands : (d : Design) (spots : List Spot) → IsOfText d → IsAccepted d × ArePlaces d spots → StandsAt d spots
stands d spots text h = record { of_text = text; is_accepted = h.0; places = h.1 }

-- ---- settings

-- the map is accepted for a design that is
pub accepted_map : (m : Model) (source : Source) (w : WrittenMap) (p : Map) (spots : List Spot) → StandsAt (case_design (case_of w m source)) spots
    → IsMapAccepted (case_of w m source) × StandsForMap m w p → HasAcceptedMap (setting_at m source p) w
accepted_map m source w p spots at h =
    let same : case_design (case_of w m source) ≡ design_of (setting_at m source p) = sym (same_design m source w p h.1) in
    record { accepted = subst IsAccepted same at.is_accepted; of_text = subst IsOfText same at.of_text; judged = h.0; stands_for = h.1 }

-- files with a tree and an accepted map stand for the setting
pub is_setting : (m p : List ℕ) (ds : List (List ℕ)) (q : Model) (w : WrittenMap) (source : Source) (map : Map) → HaveTree m p ds q w source
    → HasAcceptedMap (setting_at q source map) w → IsSettingOf m p ds (setting_at q source map)
is_setting m p ds q w source map h a =
    record {
      is_model = h.are_said.is_model;
      is_tree = h.is_tree;
      is_accepted = a.accepted;
      is_map = record { written = w; says = h.are_said.says; is_accepted = a.judged; stands_for = a.stands_for };
    }

-- all that is asked of the map is so
pub ready : AcceptedMapsAreReady → (s : Setting) (w : WrittenMap) (scope : Scope) (e : Parts) (names : List Name) → IsSoundModel s.model → HasAcceptedMap s w
    → IsScopeOf (case_design (case_of w s.model s.source)) scope × Knows scope (case_design (case_of w s.model s.source)) names → names ≡ names_in_map s.map
    → IsDesignOf (case_design (case_of w s.model s.source)) e → IsReady s scope e
ready law s w scope e names sound h told same design =
    let d : case_design (case_of w s.model s.source) ≡ design_of s = sym (same_design s.model s.source w s.map h.stands_for) in
    law s w scope e sound h (subst (λ x. IsScopeOf x scope) d told.0)
    (subst (Knows scope (design_of s)) same (subst (λ x. Knows scope x names) d told.1)) (subst (λ x. IsDesignOf x e) d design)
