use Rattle.std.proofs.Common.{refl, [], ◌∷◌}
use Rattle.map_files.specs.Meaning.{UnknownState, StateUnmapped, UnknownInput, InputUnmapped}
use Rattle.ila_model.specs.Model.{model_of}
use Rattle.map_file.specs.View.{map_view}
use Rattle.map_rules.specs.Accepted.{case_of}
use Rattle.map_rules.specs.Names.{has_unknown_state, has_unmapped_state, has_unknown_input, has_unmapped_input}
use Rattle.map_reading.specs.Judged.{IsPassed, name_rules}
use Rattle.map_reading.proofs.First.{stopped, all_passed, handed_up, by_test, none_before}
use Rattle.map_reading.proofs.names.names_passed.Goals as goal

pub returns-in_err-passed : goal.returns-in_err-passed
returns-in_err-passed c = λ s.
    handed_up (λ r. IsPassed (case_of (map_view c.args.map.now) (model_of c.args.model.now) s) name_rules r) c.from_residual.result c.in_err-passed.field-0.0 c.from_residual.ensures.1
    (stopped (case_of (map_view c.args.map.now) (model_of c.args.model.now) s) ([]) (UnknownState ∷ []) (StateUnmapped ∷ UnknownInput ∷ InputUnmapped ∷ []) c.in_err-passed.field-0.0 refl (c.in_err-passed.ensures.told (case_of (map_view c.args.map.now) (model_of c.args.model.now) s) (by_test (λ u. has_unknown_state (case_of (map_view c.args.map.now) (model_of c.args.model.now) u)) c.unknown_state.result c.unknown_state.ensures.rule s)))

pub returns-in_err-passed-2 : goal.returns-in_err-passed-2
returns-in_err-passed-2 c = λ s.
    handed_up (λ r. IsPassed (case_of (map_view c.args.map.now) (model_of c.args.model.now) s) name_rules r) c.from_residual-in_err-passed-2.result c.in_err-passed-2.field-0.0 c.from_residual-in_err-passed-2.ensures.1
    (stopped (case_of (map_view c.args.map.now) (model_of c.args.model.now) s) (UnknownState ∷ []) (StateUnmapped ∷ []) (UnknownInput ∷ InputUnmapped ∷ []) c.in_err-passed-2.field-0.0 (c.in_ok-passed.ensures.told (case_of (map_view c.args.map.now) (model_of c.args.model.now) s) (by_test (λ u. has_unknown_state (case_of (map_view c.args.map.now) (model_of c.args.model.now) u)) c.unknown_state.result c.unknown_state.ensures.rule s)) (c.in_err-passed-2.ensures.told (case_of (map_view c.args.map.now) (model_of c.args.model.now) s) (by_test (λ u. has_unmapped_state (case_of (map_view c.args.map.now) (model_of c.args.model.now) u)) c.unmapped_state.result c.unmapped_state.ensures.rule s)))

pub returns-in_err-passed-3 : goal.returns-in_err-passed-3
returns-in_err-passed-3 c = λ s.
    handed_up (λ r. IsPassed (case_of (map_view c.args.map.now) (model_of c.args.model.now) s) name_rules r) c.from_residual-in_err-passed-3.result c.in_err-passed-3.field-0.0 c.from_residual-in_err-passed-3.ensures.1
    (stopped (case_of (map_view c.args.map.now) (model_of c.args.model.now) s) (UnknownState ∷ StateUnmapped ∷ []) (UnknownInput ∷ []) (InputUnmapped ∷ []) c.in_err-passed-3.field-0.0 (none_before (case_of (map_view c.args.map.now) (model_of c.args.model.now) s) (UnknownState ∷ []) (StateUnmapped ∷ []) _ (c.in_ok-passed.ensures.told (case_of (map_view c.args.map.now) (model_of c.args.model.now) s) (by_test (λ u. has_unknown_state (case_of (map_view c.args.map.now) (model_of c.args.model.now) u)) c.unknown_state.result c.unknown_state.ensures.rule s)) (c.in_ok-passed-2.ensures.told (case_of (map_view c.args.map.now) (model_of c.args.model.now) s) (by_test (λ u. has_unmapped_state (case_of (map_view c.args.map.now) (model_of c.args.model.now) u)) c.unmapped_state.result c.unmapped_state.ensures.rule s))) (c.in_err-passed-3.ensures.told (case_of (map_view c.args.map.now) (model_of c.args.model.now) s) (by_test (λ u. has_unknown_input (case_of (map_view c.args.map.now) (model_of c.args.model.now) u)) c.unknown_input.result c.unknown_input.ensures.rule s)))

pub returns : goal.returns
returns c = λ s.
    all_passed (case_of (map_view c.args.map.now) (model_of c.args.model.now) s) (UnknownState ∷ StateUnmapped ∷ UnknownInput ∷ []) (InputUnmapped ∷ []) c.passed-4.result (none_before (case_of (map_view c.args.map.now) (model_of c.args.model.now) s) (UnknownState ∷ StateUnmapped ∷ []) (UnknownInput ∷ []) _ (none_before (case_of (map_view c.args.map.now) (model_of c.args.model.now) s) (UnknownState ∷ []) (StateUnmapped ∷ []) _ (c.in_ok-passed.ensures.told (case_of (map_view c.args.map.now) (model_of c.args.model.now) s) (by_test (λ u. has_unknown_state (case_of (map_view c.args.map.now) (model_of c.args.model.now) u)) c.unknown_state.result c.unknown_state.ensures.rule s)) (c.in_ok-passed-2.ensures.told (case_of (map_view c.args.map.now) (model_of c.args.model.now) s) (by_test (λ u. has_unmapped_state (case_of (map_view c.args.map.now) (model_of c.args.model.now) u)) c.unmapped_state.result c.unmapped_state.ensures.rule s))) (c.in_ok-passed-3.ensures.told (case_of (map_view c.args.map.now) (model_of c.args.model.now) s) (by_test (λ u. has_unknown_input (case_of (map_view c.args.map.now) (model_of c.args.model.now) u)) c.unknown_input.result c.unknown_input.ensures.rule s))) (c.passed-4.ensures.told (case_of (map_view c.args.map.now) (model_of c.args.model.now) s) (by_test (λ u. has_unmapped_input (case_of (map_view c.args.map.now) (model_of c.args.model.now) u)) c.unmapped_input.result c.unmapped_input.ensures.rule s))
