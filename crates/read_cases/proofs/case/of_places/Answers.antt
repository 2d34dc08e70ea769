use Rattle.std.proofs.Common.{sym, subst}
use Rattle.ila_model.specs.Model.{model_of}
use Rattle.map_file.specs.Rule.{rule_view}
use Rattle.map_file.specs.View.{map_view}
use Rattle.map_rules.specs.Case.{case_design}
use Rattle.map_rules.specs.Accepted.{case_of, IsMapAccepted, IsMapRefusedBy, StandsForMap}
use Rattle.map_trees.specs.Tokens.{AreMapTokens}
use Rattle.map_trees.specs.View.{tree_map_view}
use Rattle.map_judged.specs.Known.{StandsAt}
use Rattle.v_places.specs.Views.{spots_of}
use Rattle.v_syntax.specs.Source.{source_of}
use Rattle.check_cases.specs.Files.{IsKindOfFiles}
use Rattle.read_cases.proofs.Staged.{accepted_map, is_setting}
use Rattle.read_cases.proofs.case.of_places.Goals as goal

pub read_map-requires-clause-tokens : goal.read_map-requires-clause-tokens
read_map-requires-clause-tokens c =
    let k = c.in_ok-tokens.ensures in
    subst (λ w. AreMapTokens (model_of c.args.model) w c.in_ok-tokens.tokens) (sym k.is_map) k

pub read_map-requires-clause-places : goal.read_map-requires-clause-places
read_map-requires-clause-places c =
    subst (λ w. StandsAt (case_design (case_of w (model_of c.args.model) (source_of c.args.tree.now))) (spots_of c.args.places.now)) (sym c.in_ok-tokens.ensures.is_map)
    c.requires

pub mapped_design-requires-clause-tokens : goal.mapped_design-requires-clause-tokens
mapped_design-requires-clause-tokens c =
    let k = c.in_ok-tokens.ensures in
    subst (λ w. AreMapTokens (model_of c.args.model) w c.in_ok-tokens.tokens) (sym k.is_map) k

pub mapped_design-requires-clause-accepted : goal.mapped_design-requires-clause-accepted
mapped_design-requires-clause-accepted c =
    accepted_map (model_of c.args.model) (source_of c.args.tree.now) (map_view c.in_ok-tokens.tokens.map.now) (tree_map_view c.in-Ok.read) (spots_of c.args.places.now)
    (subst (λ w. StandsAt (case_design (case_of w (model_of c.args.model) (source_of c.args.tree.now))) (spots_of c.args.places.now)) (sym c.in_ok-tokens.ensures.is_map)
    c.requires) c.in-Ok.ensures.judged

pub mapped_design-requires-clause-places : goal.mapped_design-requires-clause-places
mapped_design-requires-clause-places c =
    subst (λ w. StandsAt (case_design (case_of w (model_of c.args.model) (source_of c.args.tree.now))) (spots_of c.args.places.now)) (sym c.in_ok-tokens.ensures.is_map)
    c.requires

pub returns-in-Ok : goal.returns-in-Ok
returns-in-Ok c =
    let q = model_of c.args.model in
    let source = source_of c.args.tree.now in
    let map = tree_map_view c.in-Ok.read in
    let said = subst (λ w. IsMapAccepted (case_of w q source) × StandsForMap q w map) c.in_ok-tokens.ensures.is_map c.in-Ok.ensures.judged in
    λ m p ds h. c.in_ok-mapped-in-Ok.ensures m p ds
    (is_setting m p ds q (map_view c.args.written.now) source map h
    (accepted_map q source (map_view c.args.written.now) map (spots_of c.args.places.now) c.requires said))

pub returns-in-Err-Refused : goal.returns-in-Err-Refused
returns-in-Err-Refused c =
    let q = model_of c.args.model in
    let source = source_of c.args.tree.now in
    let rule = rule_view c.in-Err-Refused.refusal.rule in
    let said = rw c.in-Err-Refused.field-0-is at c.in-Err-Refused.ensures.judged in
    let refused : IsMapRefusedBy (case_of (map_view c.args.written.now) q source) rule =
    subst (λ w. IsMapRefusedBy (case_of w q source) rule) c.in_ok-tokens.ensures.is_map said in
    rw c.in-Err-Refused.field-0-is (λ m p ds h. IsKindOfFiles.of_map q (map_view c.args.written.now) source rule h c.requires.is_accepted refused)
