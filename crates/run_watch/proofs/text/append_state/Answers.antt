use Rattle.std.proofs.Common.{◌∙◌, ◌++◌, sym, ap, arith, append-nil}
use Rattle.std.specs.String.{string_bytes}
use Rattle.model_meaning.specs.Model.{states_of}
use Rattle.ila_model.specs.Model.{model_of}
use Rattle.std.specs.Prelude.{slice_get}
use Rattle.run_watch.proofs.Telling.{state_there, no_state}
use Rattle.run_watch.proofs.text.append_state.Goals as goal

pub returns-in_ok-push_str : goal.returns-in_ok-push_str
returns-in_ok-push_str c =
    let ds = states_of (model_of c.args.model.now).top in
    c.in_ok-push_str.ensures.bytes
    ∙ ap (λ t. string_bytes c.args.text.now ++ t) (sym (state_there (slice_get ds c.args.place) c.state_name.result.now c.state_name.ensures))

pub returns-else-place-state_count : goal.returns-else-place-state_count
returns-else-place-state_count c =
    let ds = states_of (model_of c.args.model.now).top in
    let nowhere = no_state ds c.args.place (omega (arith, c.if-place-state_count.false, c.state_count.ensures.states)) in
    sym (ap (λ t. string_bytes c.args.text.now ++ t) nowhere ∙ append-nil (string_bytes c.args.text.now))
