use Rattle.std.proofs.Common.{refl, sym, subst}
use Rattle.verilog_exists.specs.Exists.{IsOfText}
use Rattle.ila_model.specs.Model.{model_of}
use Rattle.map_file.specs.View.{map_view}
use Rattle.map_rules.specs.Case.{case_design}
use Rattle.map_rules.specs.Accepted.{case_of}
use Rattle.map_terms.specs.View.{setting_of}
use Rattle.map_terms.specs.Ready.{IsReady}
use Rattle.map_trees.specs.View.{tree_map_view}
use Rattle.mapped_designs.specs.Meaning.{IsMappedBy}
use Rattle.mapped_designs.specs.View.{mapped_of}
use Rattle.path_terms.specs.Cycles.{IsScopeOf}
use Rattle.ready_maps.specs.Names.{Knows}
use Rattle.v_design.specs.Design.{IsDesignOf}
use Rattle.v_design.specs.Seen.{parts_of}
use Rattle.v_syntax.specs.Source.{source_of}
use Rattle.v_value.specs.Scope.{scope_at}
use Rattle.read_cases.specs.Named.{names_of_texts}
use Rattle.read_cases.proofs.Staged.{named_so, refused_is_broken, ready}
use Rattle.read_cases.proofs.case.mapped_design.Goals as goal

pub elaborate-requires : goal.elaborate-requires
elaborate-requires c =
    named_so IsOfText (source_of c.args.tree.now) _ _ c.as_str.result.now c.as_str-2.result.now (sym c.as_str.ensures.value) (sym c.as_str-2.ensures.value)
    c.requires.places.of_text

pub unreachable-requires : goal.unreachable-requires
unreachable-requires c =
    let refused = rw c.in-Refused.is at c.in_ok-design.ensures.refused in
    absurd (refused_is_broken (source_of c.args.tree.now) _ _ c.as_str.result.now c.as_str-2.result.now (sym c.as_str.ensures.value) (sym c.as_str-2.ensures.value)
    c.requires.places.is_accepted _ refused)

pub map_terms-requires : goal.map_terms-requires
map_terms-requires c =
    let source = source_of c.args.tree.now in
    let s = setting_of c.args.model.now c.args.map.now source in
    let w = map_view c.args.tokens.now.map.now in
    let d = case_design (case_of w (model_of c.args.model.now) source) in
    let scope = scope_at c.in_ok-scope.scope in
    let known = subst (λ ns. IsScopeOf d scope × Knows scope d (names_of_texts ns)) c.deref.ensures.value (c.in_ok-scope.ensures d c.requires.places) in
    let same = c.in_ok-names.ensures (model_of c.args.model.now) w (tree_map_view c.args.map.now) c.requires.tokens c.requires.accepted.stands_for in
    let design = named_so (λ x. IsDesignOf x (parts_of c.in-Design.design)) source c.as_str.result.now c.as_str-2.result.now _ _ c.as_str.ensures.value
    c.as_str-2.ensures.value (rw c.in-Design.is at c.in_ok-design.ensures.design) in
    record {
      ready = (
        source,
        ready c.accepted_maps_are_ready.ensures s w scope (parts_of c.in-Design.design) (names_of_texts c.in_ok-names.names.items) c.model_is_sound.ensures
            c.requires.accepted known same design,
      );
    }

pub returns : goal.returns
returns c =
    let source = source_of c.args.tree.now in
    let s = setting_of c.args.model.now c.args.map.now source in
    let w = map_view c.args.tokens.now.map.now in
    let d = case_design (case_of w (model_of c.args.model.now) source) in
    let scope = scope_at c.in_ok-scope.scope in
    let known = subst (λ ns. IsScopeOf d scope × Knows scope d (names_of_texts ns)) c.deref.ensures.value (c.in_ok-scope.ensures d c.requires.places) in
    let same = c.in_ok-names.ensures (model_of c.args.model.now) w (tree_map_view c.args.map.now) c.requires.tokens c.requires.accepted.stands_for in
    let design = named_so (λ x. IsDesignOf x (parts_of c.in-Design.design)) source c.as_str.result.now c.as_str-2.result.now _ _ c.as_str.ensures.value
    c.as_str-2.ensures.value (rw c.in-Design.is at c.in_ok-design.ensures.design) in
    let is_ready : IsReady s scope (parts_of c.in-Design.design) =
    ready c.accepted_maps_are_ready.ensures s w scope (parts_of c.in-Design.design) (names_of_texts c.in_ok-names.names.items) c.model_is_sound.ensures c.requires.accepted known same
    design in
    let mapped : IsMappedBy s (mapped_of c.in_ok-mapped-in-Design.mapped) = c.in_ok-mapped-in-Design.ensures.mapped source is_ready in
    λ m p ds h. record {
      setting = s;
      is_setting = h;
      model = refl;
      accepted = c.requires.accepted.accepted;
      of_text = c.requires.accepted.of_text;
      mapped = mapped;
      sound = c.design_is_sound.ensures;
      counts = c.in_ok-mapped-in-Design.ensures.counts;
      complete = c.accepted_maps_are_complete.ensures s w c.requires.accepted.judged c.requires.accepted.stands_for;
      sorted = mapped.sorted;
    }
