use Rattle.std.proofs.Common.{◌∙◌, ◌++◌, sym, ap}
use Rattle.std.specs.Prelude.{codes}
use Rattle.std.specs.String.{string_bytes}
use Rattle.ila_model.specs.Model.{model_of}
use Rattle.run_watch.specs.declared.answers.Disagreement.{Disagreement}
use Rattle.run_watch.specs.View.{disagreement_of}
use Rattle.run_watch.specs.Texts.{name_of_state, name_of_instruction, disagreement_text}
use Rattle.run_watch.proofs.Telling.{two_parts}
use Rattle.run_watch.proofs.text.append_disagreement.Goals as goal

pub returns-in_ok-append_state-in-InitialValue : goal.returns-in_ok-append_state-in-InitialValue
returns-in_ok-append_state-in-InitialValue c =
    let m = model_of c.args.model.now in
    two_parts (string_bytes c.args.text.now) (string_bytes c.push_str.new.self) (string_bytes c.append_state.new.text) (codes "init ") (name_of_state m c.in-InitialValue.k)
    c.in_ok-push_str-in-InitialValue.ensures.bytes c.in_ok-append_state-in-InitialValue.ensures
    ∙ ap (λ (d : Disagreement). string_bytes c.args.text.now ++ disagreement_text m (disagreement_of d)) (sym c.in-InitialValue.is)

pub returns-in_ok-push_str-in-NoStep : goal.returns-in_ok-push_str-in-NoStep
returns-in_ok-push_str-in-NoStep c =
    let m = model_of c.args.model.now in
    c.in_ok-push_str-in-NoStep.ensures.bytes
    ∙ ap (λ (d : Disagreement). string_bytes c.args.text.now ++ disagreement_text m (disagreement_of d)) (sym c.in-NoStep.is)

pub returns-in_ok-append_instruction-in-PastBound : goal.returns-in_ok-append_instruction-in-PastBound
returns-in_ok-append_instruction-in-PastBound c =
    let m = model_of c.args.model.now in
    two_parts (string_bytes c.args.text.now) (string_bytes c.push_str-in-PastBound.new.self) (string_bytes c.append_instruction.new.text) (codes "bound ")
    (name_of_instruction m c.in-PastBound.j) c.in_ok-push_str-in-PastBound.ensures.bytes c.in_ok-append_instruction-in-PastBound.ensures
    ∙ ap (λ (d : Disagreement). string_bytes c.args.text.now ++ disagreement_text m (disagreement_of d)) (sym c.in-PastBound.is)

pub returns-in_ok-append_state-in-OtherState : goal.returns-in_ok-append_state-in-OtherState
returns-in_ok-append_state-in-OtherState c =
    let m = model_of c.args.model.now in
    two_parts (string_bytes c.args.text.now) (string_bytes c.push_str-in-OtherState.new.self) (string_bytes c.append_state-in-OtherState.new.text) (codes "state ")
    (name_of_state m c.in-OtherState.k) c.in_ok-push_str-in-OtherState.ensures.bytes c.in_ok-append_state-in-OtherState.ensures
    ∙ ap (λ (d : Disagreement). string_bytes c.args.text.now ++ disagreement_text m (disagreement_of d)) (sym c.in-OtherState.is)
