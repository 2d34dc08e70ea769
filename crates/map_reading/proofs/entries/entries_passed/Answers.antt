use Rattle.std.proofs.Common.{◌∙◌, refl, sym, [], ◌∷◌}
use Rattle.map_files.specs.Meaning.{UnknownInstruction, BoundMissing, BadBound}
use Rattle.ila_model.specs.Model.{model_of}
use Rattle.map_file.specs.View.{map_view}
use Rattle.map_rules.specs.Accepted.{case_of}
use Rattle.map_rules.specs.Names.{has_unknown_instruction, has_missing_bound}
use Rattle.map_reading.specs.Judged.{IsPassed, entry_rules}
use Rattle.map_reading.proofs.First.{stopped, all_passed, handed_up, by_test, none_before}
use Rattle.map_reading.proofs.entries.entries_passed.Goals as goal

pub returns-in_err-passed : goal.returns-in_err-passed
returns-in_err-passed c = λ s.
    handed_up (λ r. IsPassed (case_of (map_view c.args.map.now) (model_of c.args.model.now) s) entry_rules r) c.from_residual.result c.in_err-passed.field-0.0 c.from_residual.ensures.1
    (stopped (case_of (map_view c.args.map.now) (model_of c.args.model.now) s) ([]) (UnknownInstruction ∷ []) (BoundMissing ∷ BadBound ∷ []) c.in_err-passed.field-0.0 refl (c.in_err-passed.ensures.told (case_of (map_view c.args.map.now) (model_of c.args.model.now) s) (by_test (λ u. has_unknown_instruction (case_of (map_view c.args.map.now) (model_of c.args.model.now) u)) c.unknown_instruction.result c.unknown_instruction.ensures.rule s)))

pub returns-in_err-passed-2 : goal.returns-in_err-passed-2
returns-in_err-passed-2 c = λ s.
    handed_up (λ r. IsPassed (case_of (map_view c.args.map.now) (model_of c.args.model.now) s) entry_rules r) c.from_residual-in_err-passed-2.result c.in_err-passed-2.field-0.0 c.from_residual-in_err-passed-2.ensures.1
    (stopped (case_of (map_view c.args.map.now) (model_of c.args.model.now) s) (UnknownInstruction ∷ []) (BoundMissing ∷ []) (BadBound ∷ []) c.in_err-passed-2.field-0.0 (c.in_ok-passed.ensures.told (case_of (map_view c.args.map.now) (model_of c.args.model.now) s) (by_test (λ u. has_unknown_instruction (case_of (map_view c.args.map.now) (model_of c.args.model.now) u)) c.unknown_instruction.result c.unknown_instruction.ensures.rule s)) (c.in_err-passed-2.ensures.told (case_of (map_view c.args.map.now) (model_of c.args.model.now) s) (by_test (λ u. has_missing_bound (case_of (map_view c.args.map.now) (model_of c.args.model.now) u)) c.missing_bound.result c.missing_bound.ensures.rule s)))

pub returns : goal.returns
returns c = λ s.
    all_passed (case_of (map_view c.args.map.now) (model_of c.args.model.now) s) (UnknownInstruction ∷ BoundMissing ∷ []) (BadBound ∷ []) c.passed-3.result (none_before (case_of (map_view c.args.map.now) (model_of c.args.model.now) s) (UnknownInstruction ∷ []) (BoundMissing ∷ []) _ (c.in_ok-passed.ensures.told (case_of (map_view c.args.map.now) (model_of c.args.model.now) s) (by_test (λ u. has_unknown_instruction (case_of (map_view c.args.map.now) (model_of c.args.model.now) u)) c.unknown_instruction.result c.unknown_instruction.ensures.rule s)) (c.in_ok-passed-2.ensures.told (case_of (map_view c.args.map.now) (model_of c.args.model.now) s) (by_test (λ u. has_missing_bound (case_of (map_view c.args.map.now) (model_of c.args.model.now) u)) c.missing_bound.result c.missing_bound.ensures.rule s))) (c.passed-3.ensures.told (case_of (map_view c.args.map.now) (model_of c.args.model.now) s) ((λ t. sym (c.bad_bound.ensures.rule (model_of c.args.model.now) s) ∙ t), (λ t. c.bad_bound.ensures.rule (model_of c.args.model.now) s ∙ t)))
